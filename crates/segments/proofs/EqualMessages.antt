-- Equal messages mean equal lists and, entry by entry, equal segments; so a border that is moved always changes the message.
-- Assumes nothing.
use mathlib.Core.Path.{◌≡◌, refl, sym, ap, ap₂, ◌∙◌, subst}
use mathlib.Core.Bool.{true}
use mathlib.Core.List.{List, [], ◌++◌, append_assoc, flat_map}
use mathlib.Core.Logic.{⊎_elim}
use Prim.Native.Nat.{ℕ, zero, suc, ◌+◌, ◌-◌, ◌≤◌, ◌<◌}
use native.Mathlib.Omega.{arith}
use lib.ListN.{length, take, drop}
use lib.Seq.{take_at, drop_at, take-add, drop-drop}
use borrow.Author.Tests.{le-ltb}
use Rattle.answers.specs.Refusals.{Done}
use Rattle.octets.specs.Numbers.{big_endian, in_bytes}
use Rattle.octets.proofs.NumberLaws.{length-in_bytes, big_endian-in_bytes}
use Rattle.standard.proofs.Tests.{lt-or-le}
use Rattle.segments.specs.Entries.{offset_of, length_of, end_of, is_list, count, segment_in, segment_checks, segment_of, entries_status, segments_of, header_of, message_of}
use Rattle.segments.specs.Cuts.{Passes, SameSegments, BorderMoved}
use Rattle.segments.specs.Promises.{EqualMessages, BorderShows, BorderJoined}
use Rattle.segments.proofs.EntryLaws.{list-short, list-whole}
use Rattle.segments.proofs.ListLaws.{segments_up_to, segments-suc, passed-up-to-length, same-up-to, segment-there}

-- two strings that are equal, in parts of equal lengths
parts_same : (a b c d : List ℕ) → length a ≡ length c → a ++ b ≡ c ++ d → (a ≡ c) × (b ≡ d)
parts_same a b c d l e = (
  sym (take_at a b (length a) refl) ∙ ap (take (length a)) e ∙ take_at c d (length a) (sym l),
  sym (drop_at a b (length a) refl) ∙ ap (drop (length a)) e ∙ drop_at c d (length a) (sym l),
)

-- ---- the lists

count-bytes : (list : List ℕ) → is_list list ≡ true → big_endian (in_bytes 2 (count list)) ≡ count list
count-bytes list l = big_endian-in_bytes 2 (count list) (omega (arith, list-short list l))

-- the header and what is behind it
headers-same : (list list' s s' : List ℕ) → is_list list ≡ true → is_list list' ≡ true → header_of list ++ s ≡ header_of list' ++ s' → (list ≡ list') × (s ≡ s')
unfolding header_of
headers-same list list' s s' l l' e =
    let n : List ℕ = in_bytes 2 (count list) in
    let n' : List ℕ = in_bytes 2 (count list') in
    let p = parts_same n (list ++ s) n' (list' ++ s') (length-in_bytes 2 (count list) ∙ sym (length-in_bytes 2 (count list')))
    (sym (append_assoc n list s) ∙ e ∙ append_assoc n' list' s') in
    let c : count list ≡ count list' = sym (count-bytes list l) ∙ ap big_endian p.0 ∙ count-bytes list' l' in
    parts_same list s list' s' (omega (arith, c, list-whole list l, list-whole list' l')) p.1

-- ---- the segments of one list over two buffers

module _ (list x y : List ℕ) (ex : entries_status list (length x) ≡ Done) (ey : entries_status list (length y) ≡ Done) (same : segments_of list x ≡ segments_of list y) where
  -- the first k and the next, where the first k + 1 are the same
  next-same : (k : ℕ) → k < count list → segments_up_to list x (suc k) ≡ segments_up_to list y (suc k)
      → (segments_up_to list x k ≡ segments_up_to list y k) × (segment_in list x k ≡ segment_in list y k)
  next-same k l e =
      parts_same (segments_up_to list x k) (segment_in list x k) (segments_up_to list y k) (segment_in list y k)
      (passed-up-to-length list x ex k (omega arith) ∙ sym (passed-up-to-length list y ey k (omega arith)))
      (sym (segments-suc list x k) ∙ e ∙ segments-suc list y k)

  -- all but the last d
  fewer-same : (d k : ℕ) → k + d ≡ count list → segments_up_to list x k ≡ segments_up_to list y k
  unfolding segments_of
  fewer-same zero k h =
      let e : count list ≡ k = omega arith in
      subst (λ (i : ℕ). segments_up_to list x i ≡ segments_up_to list y i) e same
  fewer-same (suc d) k h = (next-same k (omega arith) (fewer-same d (suc k) (omega arith))).0

  segment-same : (k : ℕ) → k < count list → segment_in list x k ≡ segment_in list y k
  segment-same k h = (next-same k h (fewer-same (count list - suc k) (suc k) (omega arith))).1

-- no entry, no segment
segment-none : (list buffer : List ℕ) (k : ℕ) → is_list list ≡ true → count list ≤ k → segment_of list buffer k ≡ []
unfolding segment_of segment_checks
segment-none list buffer k l h = rw (l, le-ltb _ _ h)

-- what the operation gives for each number
given-same : (list x y : List ℕ) → is_list list ≡ true → entries_status list (length x) ≡ Done → entries_status list (length y) ≡ Done
    → segments_of list x ≡ segments_of list y → (k : ℕ) → segment_of list x k ≡ segment_of list y k
given-same list x y l ex ey same k =
    ⊎_elim
    (λ h. segment-there list x l ex k h ∙ segment-same list x y ex ey same k h ∙ sym (segment-there list y l ey k h))
    (λ h. segment-none list x k l h ∙ sym (segment-none list y k l h))
    (lt-or-le k (count list))

-- ---- equal messages

module _ (list buffer list' buffer' : List ℕ) (a : Passes list buffer) (a' : Passes list' buffer') where
  same-segments : message_of list buffer ≡ message_of list' buffer' → SameSegments list buffer list' buffer'
  unfolding message_of
  same-segments m =
      let p = headers-same list list' (segments_of list buffer) (segments_of list' buffer') a.0 a'.0 m in
      record {
        lists = p.0;
        segments =
            subst (λ (z : List ℕ). entries_status z (length buffer') ≡ Done → segments_of list buffer ≡ segments_of z buffer' → (k : ℕ) → segment_of list buffer k ≡ segment_of z buffer' k)
            p.0 (given-same list buffer buffer' a.0 a.1) a'.1 p.1;
      }

  message-same : SameSegments list buffer list' buffer' → message_of list buffer ≡ message_of list' buffer'
  unfolding message_of segments_of flat_map
  message-same s =
      let n : count list ≡ count list' = ap count s.lists in
      ap₂ (λ (a b : List ℕ). a ++ b) (ap header_of s.lists)
      (same-up-to list buffer list' buffer' 0 (count list) (omega arith) refl
      (λ j m h. sym (segment-there list buffer a.0 a.1 j h) ∙ s.segments j ∙ segment-there list' buffer' a'.0 a'.1 j (omega (arith, n)))
      ∙ ap (segments_up_to list' buffer') n)

pub equal-messages : EqualMessages
equal-messages list buffer list' buffer' a a' = (same-segments list buffer list' buffer' a a', message-same list buffer list' buffer' a a')

-- ---- a border that is moved

pub border-shows : BorderShows
border-shows k list list' b buffer buffer' a a' m = b.moved (ap (λ (z : List ℕ). end_of z k) ((equal-messages list buffer list' buffer' a a').0 m).lists)

module _ (k : ℕ) (list list' : List ℕ) (b : BorderMoved k list list') (buffer : List ℕ) where
  other : (j : ℕ) → j < count list → (j ≡ k → ⊥) → (j ≡ suc k → ⊥) → segment_in list buffer j ≡ segment_in list' buffer j
  unfolding segment_in
  other j h n m =
      let s = b.elsewhere j h n m in
      ap₂ (λ (a c : ℕ). take a (drop c buffer)) s.1 s.0

  -- the two segments at the border are one part of the buffer
  both : (z : List ℕ) → end_of z k ≡ offset_of z (suc k)
      → segments_up_to z buffer (suc (suc k)) ≡ segments_up_to z buffer k ++ take (end_of z (suc k) - offset_of z k) (drop (offset_of z k) buffer)
  unfolding segment_in
  both z t =
      let o : ℕ = offset_of z k in
      let sum : end_of z (suc k) - o ≡ length_of z k + length_of z (suc k) = omega (arith, t) in
      let at : drop (offset_of z (suc k)) buffer ≡ drop (length_of z k) (drop o buffer) = sym (drop-drop (length_of z k) o buffer ∙ ap (λ (i : ℕ). drop i buffer) t) in
      segments-suc z buffer (suc k)
      ∙ ap (λ (p : List ℕ). p ++ segment_in z buffer (suc k)) (segments-suc z buffer k)
      ∙ append_assoc (segments_up_to z buffer k) (segment_in z buffer k) (segment_in z buffer (suc k))
      ∙ ap (λ (p : List ℕ). segments_up_to z buffer k ++ p)
      (ap (λ (p : List ℕ). segment_in z buffer k ++ take (length_of z (suc k)) p) at
      ∙ sym (take-add (length_of z k) (length_of z (suc k)) (drop o buffer))
      ∙ ap (λ (i : ℕ). take i (drop o buffer)) (sym sum))

  -- over one buffer nothing else is different
  joined_same : segments_of list buffer ≡ segments_of list' buffer
  unfolding segments_of flat_map
  joined_same =
      let before : segments_up_to list buffer k ≡ segments_up_to list' buffer k =
      same-up-to list buffer list' buffer 0 k (omega arith) refl (λ j m h. other j (omega (arith, b.there)) (omega arith) (omega arith)) in
      let middle : segments_up_to list buffer (suc (suc k)) ≡ segments_up_to list' buffer (suc (suc k)) =
      both list b.touch
      ∙ ap₂ (λ (p q : List ℕ). p ++ q) before
      (ap₂ (λ (i j : ℕ). take (i - j) (drop j buffer)) b.ends b.begins)
      ∙ sym (both list' b.touch') in
      same-up-to list buffer list' buffer (suc (suc k)) (count list) b.there middle (λ j m h. other j h (omega (arith, m)) (omega (arith, m)))
      ∙ ap (segments_up_to list' buffer) b.counts

pub border-joined : BorderJoined
border-joined = joined_same
