-- Two lists whose messages differ in one block are told apart by their end states. So are two buffers that differ only in a value that one entry names: their messages differ only in it, where the message has it, and it may lie in one block.
-- Assumes nothing.
use mathlib.Core.Path.{◌≡◌, refl, sym, ap, ap₂, ◌∙◌, subst}
use mathlib.Core.List.{List, ◌++◌, append_assoc, flat_map}
use mathlib.Core.Logic.{⊎_elim}
use Prim.Native.Nat.{ℕ, zero, suc, ◌+◌, ◌-◌, ◌≤◌, ◌<◌}
use native.Mathlib.Nat.{not-suc-le-zero, le_of_suc-le-suc, eq-or-lt_of_le}
use native.Mathlib.Omega.{arith}
use lib.ListN.{length, take, drop, length-append, length-take, length-drop}
use lib.Seq.{drop-append-add, take-add, drop-drop, take_at, drop_at}
use Rattle.answers.specs.Refusals.{Done}
use Rattle.octets.specs.Numbers.{Bytes, in_bytes}
use Rattle.answers.proofs.Rows.{done-each}
use Rattle.octets.proofs.ByteLaws.{take-bytes, drop-bytes, append-bytes, number-bytes}
use Rattle.standard.specs.Values.{DifferWithin}
use Rattle.standard.proofs.CutLaws.{take-drop-take}
use Rattle.standard.proofs.OneValue.{differ-part, differ-append, differ-behind, one-changed-row}
use Rattle.standard.specs.Families.{image_size}
use Rattle.standard.specs.Bits.{high_first}
use Rattle.standard.specs.Messages.{byte_bits, bytes}
use Rattle.standard.proofs.BitLaws.{length-bits_in}
use Rattle.standard.specs.Variants.{variant}
use Rattle.standard.specs.declared.Wanted.TheVariants.{EndState}
use Rattle.hasher.specs.Apart.{ToldApart}
use Rattle.hasher.proofs.Apart.{row_told, block-told, value-told}
use Rattle.segments.specs.Entries.{offset_of, length_of, end_of, former_end, count, segment_in, entry_checks, entries_status, segments_of, header_of, message_of}
use Rattle.segments.specs.Cuts.{joined_place, Names, Apart}
use Rattle.segments.specs.Promises.{ListRowTold, ListBlockTold, ListValueTold}
use Rattle.segments.specs.Digests.{list_status}
use Rattle.segments.proofs.EntryLaws.{Fits, entry-fits}
use Rattle.segments.proofs.ListLaws.{segments_up_to, segments-suc, passed-up-to-length, same-up-to}
use Rattle.segments.proofs.DigestLaws.{Accepted, accepted, list-whole-into}

-- ---- a message is of bytes, if the list and the buffer are

-- those of the header
header-bytes : (list : List ℕ) → Bytes list → Bytes (header_of list)
unfolding header_of
header-bytes list h = append-bytes (in_bytes 2 (count list)) list (number-bytes 2 (count list)) h

module _ (list buffer : List ℕ) (hl : Bytes list) (h : Bytes buffer) where
  up-to-bytes : (k : ℕ) → Bytes (segments_up_to list buffer k)
  unfolding flat_map segment_in
  up-to-bytes zero = λ i. omega arith
  up-to-bytes (suc k) =
      subst Bytes (sym (segments-suc list buffer k))
      (append-bytes (segments_up_to list buffer k) (segment_in list buffer k) (up-to-bytes k)
      (take-bytes (length_of list k) (drop (offset_of list k) buffer) (drop-bytes (offset_of list k) buffer h)))

  pub message-bytes : Bytes (message_of list buffer)
  unfolding message_of segments_of
  message-bytes = append-bytes (header_of list) (segments_of list buffer) (header-bytes list hl) (up-to-bytes (count list))

-- ---- entries in order

module _ (list : List ℕ) (n : ℕ) (passes : entries_status list n ≡ Done) where
  pub fits : (k : ℕ) → k < count list → Fits list n k
  fits k h = entry-fits list n k (done-each (count list) (entry_checks list n) passes k h)

  -- an entry begins where an earlier one ends, or later
  pub ends-before : (j k : ℕ) → j < k → k < count list → end_of list j ≤ offset_of list k
  unfolding former_end
  ends-before j zero l h = absurd (not-suc-le-zero l)
  ends-before j (suc k) l h =
      ⊎_elim (λ e. subst (λ (i : ℕ). end_of list i ≤ offset_of list (suc k)) (sym e) (fits (suc k) h).ordered)
      (λ q. omega (arith, ends-before j k q (omega arith), (fits (suc k) h).ordered))
      (eq-or-lt_of_le (le_of_suc-le-suc l))

-- ---- the value and what is around it

-- between equal strings
differ-between : (a b v w : List ℕ) (n : ℕ) → length v ≡ n → length w ≡ n → (v ≡ w → ⊥) → DifferWithin (length a) n (a ++ (v ++ b)) (a ++ (w ++ b))
differ-between a b v w n lv lw d =
    record {
      size = simp length-append (omega arith);
      differ = λ e.
          d (sym (take_at v b n lv)
          ∙ ap (take n) (sym (drop_at a (v ++ b) (length a) refl) ∙ ap (drop (length a)) e ∙ drop_at a (w ++ b) (length a) refl)
          ∙ take_at w b n lw);
      before = take_at a (v ++ b) (length a) refl ∙ sym (take_at a (w ++ b) (length a) refl);
      behind = past v lv ∙ sym (past w lw);
    }
  where
    past : (u : List ℕ) → length u ≡ n → drop (length a + n) (a ++ (u ++ b)) ≡ b
    past u lu = drop-append-add a (u ++ b) n ∙ drop_at u b n lu

differ_same : (q n : ℕ) (a b c e : List ℕ) → a ≡ c → b ≡ e → DifferWithin q n a b → DifferWithin q n c e
differ_same q n a b c e p r d = subst (λ (s : List ℕ). DifferWithin q n c s) r (subst (λ (s : List ℕ). DifferWithin q n s b) p d)

module _ (list x y : List ℕ) (p n : ℕ) (d : DifferWithin p n x y) (passes : entries_status list (length x) ≡ Done) (k : ℕ) (v : Names list k p n) where
  -- a part before the value, and a part behind it
  part-before : (o l : ℕ) → o + l ≤ p → take l (drop o x) ≡ take l (drop o y)
  part-before o l h = sym (take-drop-take o l p x h) ∙ ap (λ (z : List ℕ). take l (drop o z)) d.before ∙ take-drop-take o l p y h

  part-behind : (o l : ℕ) → p + n ≤ o → take l (drop o x) ≡ take l (drop o y)
  part-behind o l h =
      let e : p + n + (o - (p + n)) ≡ o = omega arith in
      let at : (z : List ℕ) → drop o z ≡ drop (o - (p + n)) (drop (p + n) z) = λ z. ap (λ (i : ℕ). drop i z) (sym e) ∙ sym (drop-drop (o - (p + n)) (p + n) z) in
      ap (take l) (at x ∙ ap (drop (o - (p + n))) d.behind ∙ sym (at y))

  -- the segments before that of entry k, and those behind it
  same-before : (j : ℕ) → j < k → segment_in list x j ≡ segment_in list y j
  unfolding segment_in
  same-before j h = part-before (offset_of list j) (length_of list j) (omega (arith, ends-before list (length x) passes j k h v.there, v.begins))

  same-behind : (j : ℕ) → k < j → j < count list → segment_in list x j ≡ segment_in list y j
  unfolding segment_in
  same-behind j h there = part-behind (offset_of list j) (length_of list j) (omega (arith, ends-before list (length x) passes k j h there, v.ends))

  front : segments_up_to list x k ≡ segments_up_to list y k
  unfolding flat_map
  front = same-up-to list x list y 0 k (omega arith) refl (λ j l h. same-before j h)

  -- the segment of entry k: bytes before the value, the value, bytes behind it
  abbrev behind : ℕ
  behind = end_of list k - (p + n)

  cut-segment : (z : List ℕ) → segment_in list z k ≡ take (p - offset_of list k) (drop (offset_of list k) z) ++ (take n (drop p z) ++ take behind (drop (p + n) z))
  unfolding segment_in
  cut-segment z =
      let o : ℕ = offset_of list k in
      let a : ℕ = p - o in
      let e : length_of list k ≡ a + (n + behind) = omega (arith, v.begins, v.ends) in
      let f : o + a ≡ p = omega (arith, v.begins) in
      ap (λ (l : ℕ). take l (drop o z)) e
      ∙ take-add a (n + behind) (drop o z)
      ∙ ap (λ (t : List ℕ). take a (drop o z) ++ take (n + behind) t) (drop-drop a o z ∙ ap (λ (i : ℕ). drop i z) f)
      ∙ ap (λ (t : List ℕ). take a (drop o z) ++ t) (take-add n behind (drop p z) ∙ ap (λ (t : List ℕ). take n (drop p z) ++ take behind t) (drop-drop n p z))

  -- with the segments before it
  abbrev before : List ℕ → List ℕ
  before z = segments_up_to list z k ++ take (p - offset_of list k) (drop (offset_of list k) z)

  cut-message : (z : List ℕ) → segments_up_to list z (suc k) ≡ before z ++ (take n (drop p z) ++ take behind (drop (p + n) z))
  cut-message z = segments-suc list z k ∙ ap (λ (t : List ℕ). segments_up_to list z k ++ t) (cut-segment z) ∙ sym (append_assoc (segments_up_to list z k) _ _)

  same-around : (t : List ℕ) → before x ++ (t ++ take behind (drop (p + n) x)) ≡ before y ++ (t ++ take behind (drop (p + n) y))
  same-around t =
      ap₂ (λ (a b : List ℕ). a ++ (t ++ b))
      (ap₂ (λ (a b : List ℕ). a ++ b) front (part-before (offset_of list k) (p - offset_of list k) (omega (arith, v.begins))))
      (part-behind (p + n) behind (omega arith))

  value-length : (z : List ℕ) → length z ≡ length x → length (take n (drop p z)) ≡ n
  value-length z l = simp (length-take, length-drop) (omega (arith, (fits list (length x) passes k v.there).within, v.ends))

  before-length : length (before x) ≡ joined_place list k p
  unfolding joined_place
  before-length =
      length-append (segments_up_to list x k) _
      ∙ ap₂ (λ (a b : ℕ). a + b)
      (passed-up-to-length list x passes k (omega (arith, v.there)))
      (simp (length-take, length-drop) (omega (arith, (fits list (length x) passes k v.there).within, v.ends, v.begins)))

  at_value : DifferWithin (joined_place list k p) n (segments_up_to list x (suc k)) (segments_up_to list y (suc k))
  at_value =
      subst (λ (q : ℕ). DifferWithin q n (segments_up_to list x (suc k)) (segments_up_to list y (suc k))) before-length
      (differ_same (length (before x)) n _ _ _ _ (sym (cut-message x)) (same-around (take n (drop p y)) ∙ sym (cut-message y))
      (differ-between (before x) (take behind (drop (p + n) x)) (take n (drop p x)) (take n (drop p y)) n
      (value-length x refl) (value-length y (sym d.size)) (differ-part p n x y d)))

  -- and the segments behind it
  further-on : (j : ℕ) → suc k + j ≤ count list → DifferWithin (joined_place list k p) n (segments_up_to list x (suc k + j)) (segments_up_to list y (suc k + j))
  further-on zero h =
      let e : suc k ≡ suc k + 0 = omega arith in
      subst (λ (i : ℕ). DifferWithin (joined_place list k p) n (segments_up_to list x i) (segments_up_to list y i)) e at_value
  further-on (suc j) h =
      let i : ℕ = suc k + j in
      let e : suc i ≡ suc k + suc j = omega arith in
      subst (λ (i : ℕ). DifferWithin (joined_place list k p) n (segments_up_to list x i) (segments_up_to list y i)) e
      (differ_same (joined_place list k p) n _ _ _ _ (sym (segments-suc list x i))
      (ap (λ (t : List ℕ). segments_up_to list y i ++ t) (same-behind i (omega arith) (omega arith)) ∙ sym (segments-suc list y i))
      (differ-append (joined_place list k p) n (segments_up_to list x i) (segments_up_to list y i) (further-on j (omega arith)) (segment_in list x i)))

  pub segments-value : DifferWithin (joined_place list k p) n (segments_of list x) (segments_of list y)
  unfolding segments_of
  segments-value =
      let e : suc k + (count list - suc k) ≡ count list = omega (arith, v.there) in
      subst (λ (i : ℕ). DifferWithin (joined_place list k p) n (segments_up_to list x i) (segments_up_to list y i)) e (further-on (count list - suc k) (omega (arith, v.there)))

  -- behind one header
  pub message-value : DifferWithin (length (header_of list) + joined_place list k p) n (message_of list x) (message_of list y)
  unfolding message_of
  message-value = differ-behind (joined_place list k p) n (segments_of list x) (segments_of list y) segments-value (header_of list)

-- the lists, buffers and outputs of two calls that are asked for the end state, both Done
module _ (v : ℕ) (list x out list' y out' : List ℕ) (dx : list_status v list x EndState (length out) ≡ Done) (dy : list_status v list' y EndState (length out') ≡ Done) where
  ax : Accepted v list x EndState (length out)
  ax = accepted v list x EndState (length out) _ refl dx

  ay : Accepted v list' y EndState (length out')
  ay = accepted v list' y EndState (length out') _ refl dy

  lists-told : ToldApart v (bytes (message_of list x)) (bytes (message_of list' y)) → Apart v list x out list' y out'
  lists-told t e =
      t.whole out out' ax.message.room ay.message.room
      (ap (take (image_size (variant v))) (sym (list-whole-into v list x EndState ax.whole ax.all_fit out))
      ∙ e
      ∙ ap (take (image_size (variant v))) (list-whole-into v list' y EndState ay.whole ay.all_fit out'))

pub list-row-told : ListRowTold
list-row-told v list x out list' y out' dx dy q i d = (
  one-changed-row v q i (byte_bits (message_of list x)) (byte_bits (message_of list' y)) d,
  lists-told v list x out list' y out' dx dy
      (row_told v q (bytes (message_of list x)) (bytes (message_of list' y)) refl refl (ax v list x out list' y out' dx dy).message.asked.few (ay v list x out list' y out' dx dy).message.asked.few i d),
)

pub list-block-told : ListBlockTold
list-block-told v list x out list' y out' dx dy q j d =
    let a = (ax v list x out list' y out' dx dy).message.asked in
    lists-told v list x out list' y out' dx dy (block-told v q (bytes (message_of list x)) (bytes (message_of list' y)) refl refl a.few j d)

pub list-value-told : ListValueTold
list-value-told v q list x out y out' dx dy hl hx hy p n d k w o =
    let a = accepted v list x EndState (length out) _ refl dx in
    let m = message-value list x y p n d a.all_fit k w in
    lists-told v list x out list y out' dx dy
    (value-told v q (message_of list x) (message_of list y) (omega (arith, a.message.asked.few, length-bits_in high_first (message_of list x))) (message-bytes list x hl hx) (message-bytes list y hl hy)
    (length (header_of list) + joined_place list k p) n m o)
