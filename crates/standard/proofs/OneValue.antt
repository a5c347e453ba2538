-- Two messages that differ, and only within one block, have different end states; so have two that differ only in a value that lies in one block.
-- Assumes nothing.
use mathlib.Core.Path.{◌≡◌, refl, sym, ap, ap₂, ◌∙◌}
use mathlib.Core.Bool.{Bool, true}
use mathlib.Core.List.{List, [], ◌++◌}
use mathlib.Core.Logic.{◌⊎◌, inl, inr, ⊎_elim}
use Prim.Native.Nat.{ℕ, ◌+◌, ◌-◌, ◌*◌, ◌/◌, ◌%◌, ◌≤◌, ◌<◌}
use native.Mathlib.Nat.{add_comm, div-add-mod', mul_comm, mul_assoc, lt_of_mul-lt-mul_right, add-mul-mod_self_right}
use native.Mathlib.Omega.{arith}
use lib.Dec.{eqb}
use lib.ListN.{length, take, drop, get_or, take-append-drop, length-append, get_or-eq_default}
use lib.Seq.{take_all, take-length, take-append-le, drop-append-le, drop-append-add, take-take, drop-drop, take_at, drop_at, take-append-add}
use borrow.Author.Tests.{leb-true, eqb-true}
use Rattle.standard.specs.Bits.{high_first, pack}
use Rattle.standard.specs.Families.{Variant, is_sponge}
use Rattle.standard.specs.Chain.{start_state, padding, padded, whole_blocks, blocks_of, DifferAt, end_state}
use Rattle.standard.specs.Messages.{byte_bits}
use Rattle.standard.specs.Variants.{variant, known}
use Rattle.standard.specs.Promises.{OneChangedRow, OneChangedPart, InOneBlockMod, TwoByteValues}
use Rattle.standard.specs.Values.{DifferWithin, in_one_block, period, offsets}
use Rattle.standard.proofs.Tests.{lt-or-le, either}
use Rattle.standard.proofs.BitLaws.{length-bits_in, pack-bits_in, bits_in-take, bits_in-drop}
use Rattle.standard.proofs.CutLaws.{cut_at, cut_fits, take-drop-take}
use Rattle.standard.proofs.Streaming.{Streams, length-padded, length_whole, blocks-sized}
use Rattle.standard.proofs.Sponge.{IsSponge}
use Rattle.standard.proofs.OneBlock.{changed_block}
use Rattle.standard.proofs.Variants.{bounds, streams, is-sponge, sponge-known}

-- ---- strings that differ within a part

module _ {A : Type 0} (a m : ℕ) (x y : List A) (d : DifferWithin a m x y) where
  -- a wider part
  pub differ-wider : (b k : ℕ) → b ≤ a → a + m ≤ b + k → DifferWithin b k x y
  differ-wider b k l u =
      let e : b + k ≡ a + m + (b + k - (a + m)) = omega arith in
      record {
        size = d.size;
        differ = d.differ;
        before = rw (← take-take b a x l, d.before, take-take b a y l);
        behind = rw (e, ← drop-drop (b + k - (a + m)) (a + m) x, d.behind, drop-drop);
      }

  -- there is something in the part
  pub differ-place : a < length x
  differ-place =
      ⊎_elim (λ l. l)
      (λ l. absurd (d.differ (sym (take_all a x l) ∙ d.before ∙ take_all a y (omega (arith, d.size)))))
      (lt-or-le a (length x))

  -- with equal strings behind them
  pub differ-append : (p : List A) → DifferWithin a m (x ++ p) (y ++ p)
  differ-append p =
      record {
        size = simp (length-append, d.size);
        differ = λ e. d.differ (sym (take_at x p (length x) refl) ∙ ap (take (length x)) e ∙ take_at y p (length x) (sym d.size));
        before = rw (take-append-le a x p (omega (arith, differ-place)), d.before, take-append-le a y p (omega (arith, differ-place, d.size)));
        behind = ⊎_elim short long (lt-or-le (length x) (a + m));
      }
    where
      long : a + m ≤ length x → drop (a + m) (x ++ p) ≡ drop (a + m) (y ++ p)
      long l = rw (drop-append-le (a + m) x p l, d.behind, drop-append-le (a + m) y p (omega (arith, d.size)))

      past : (z : List A) → length z ≡ length x → length x < a + m → drop (a + m) (z ++ p) ≡ drop (a + m - length x) p
      past z e l =
          let f : a + m ≡ length z + (a + m - length x) = omega arith in
          ap (λ (n : ℕ). drop n (z ++ p)) f ∙ drop-append-add z p (a + m - length x)

      short : length x < a + m → drop (a + m) (x ++ p) ≡ drop (a + m) (y ++ p)
      short l = past x refl l ∙ sym (past y (sym d.size) l)

  -- with equal strings in front of them
  pub differ-behind : (p : List A) → DifferWithin (length p + a) m (p ++ x) (p ++ y)
  differ-behind p =
      let e : length p + a + m ≡ length p + (a + m) = omega arith in
      record {
        size = simp (length-append, d.size);
        differ = λ e. d.differ (sym (drop_at p x (length p) refl) ∙ ap (drop (length p)) e ∙ drop_at p y (length p) refl);
        before = rw (take-append-add p x a, d.before, take-append-add p y a);
        behind = rw (e, drop-append-add p x (a + m), d.behind, drop-append-add p y (a + m));
      }

  -- the part itself differs
  pub differ-part : take m (drop a x) ≡ take m (drop a y) → ⊥
  differ-part e = d.differ (parts x ∙ rw (d.before, e, d.behind) (sym (parts y)))
    where
      parts : (z : List A) → z ≡ take a z ++ (take m (drop a z) ++ drop (a + m) z)
      parts z = rw (← drop-drop, take-append-drop, take-append-drop)

-- ---- rows of blocks

-- strings of whole blocks that differ only in the r bits of the block j
module _ (r : ℕ) (pos : 0 < r) (j : ℕ) (x y : List Bool) (d : DifferWithin (j * r) r x y) (whole : length x % r ≡ 0) where
  count : length x / r ≡ length y / r
  count = ap (λ (n : ℕ). n / r) d.size

  place : j < length x / r
  place =
      lt_of_mul-lt-mul_right r {m = j} {n = length x / r}
      (omega (arith, differ-place (j * r) r x y d, div-add-mod' (length x) r))

  block_at : (z : List Bool) (i : ℕ) → i < length z / r → get_or (whole_blocks r z) i [] ≡ take r (drop (i * r) z)
  unfolding whole_blocks
  block_at z i l = cut_at r (length z / r) z i l

  same_block : (i : ℕ) → (i ≡ j → ⊥) → take r (drop (i * r) x) ≡ take r (drop (i * r) y)
  same_block i n = ⊎_elim before behind (lt-or-le i j)
    where
      before : i < j → take r (drop (i * r) x) ≡ take r (drop (i * r) y)
      before l =
          let room : i * r + r ≤ j * r = cut_fits r j i (j * r) l (omega arith) in
          rw (← take-drop-take (i * r) r (j * r) x room, d.before, take-drop-take (i * r) r (j * r) y room)

      behind : j ≤ i → take r (drop (i * r) x) ≡ take r (drop (i * r) y)
      behind l =
          let room : j * r + r ≤ i * r = cut_fits r i j (i * r) (omega (arith, n)) (omega arith) in
          let e : i * r ≡ j * r + r + (i * r - (j * r + r)) = omega arith in
          rw (e, ← drop-drop (i * r - (j * r + r)) (j * r + r) x, d.behind, drop-drop)

  pub whole-differ : DifferAt j (whole_blocks r x) (whole_blocks r y)
  whole-differ =
      record {
        count = simp length_whole count;
        within = rw length_whole place;
        differs = λ e. differ-part (j * r) r x y d (sym (block_at x j place) ∙ e ∙ block_at y j (rw count at place));
        elsewhere = λ i n.
            ⊎_elim
            (λ l. rw (block_at x i l, same_block i n, block_at y i (rw count at l)))
            (λ l.
            get_or-eq_default (whole_blocks r x) [] {n = i} (rw length_whole l)
            ∙ sym (get_or-eq_default (whole_blocks r y) [] {n = i} (rw (length_whole, ← count) l)))
            (lt-or-le i (length x / r));
      }

-- ---- messages of bits

-- two messages whose rows of blocks have equal count and differ at exactly one place have different end states
pub changed_row : (H : Variant) → Streams H → IsSponge H → (i : ℕ) (x y : List Bool) → DifferAt i (blocks_of H x) (blocks_of H y) → end_state H x ≡ end_state H y → ⊥
unfolding end_state
changed_row H g h i x y d e =
    let xs : List (List Bool) = blocks_of H x in
    let ys : List (List Bool) = blocks_of H y in
    (changed_block H g h (start_state H) g.start-length xs ys i (length xs) (blocks-sized H x) (blocks-sized H y) d (omega arith)).1 d.within
    (rw (take-length xs, take_all (length xs) ys (omega (arith, d.count))) e)

module _ (H : Variant) (g : Streams H) (j : ℕ) (x y : List Bool) (d : DifferWithin (j * H.r) H.r x y) where
  -- only the block j changes
  pub changed-bits : DifferAt j (blocks_of H x) (blocks_of H y)
  unfolding blocks_of padded
  changed-bits =
      whole-differ H.r g.rate-pos j (padded H x) (padded H y)
      (rw (← d.size) (differ-append (j * H.r) H.r x y d (padding H (length x)))) (rw length-padded (g.padding-fills (length x)))

  -- and so does the end state
  pub changed-end : IsSponge H → end_state H x ≡ end_state H y → ⊥
  changed-end h = changed_row H g h j x y changed-bits

-- ---- messages of bytes

module _ (x y : List ℕ) (hx : (i : ℕ) → get_or x i 0 < 256) (hy : (i : ℕ) → get_or y i 0 < 256) where
  -- bytes that differ have bits that differ
  pub differ-bits : (k m : ℕ) → length x ≡ length y → (x ≡ y → ⊥) → take k (byte_bits x) ≡ take k (byte_bits y)
      → drop (k + m) (byte_bits x) ≡ drop (k + m) (byte_bits y) → DifferWithin k m (byte_bits x) (byte_bits y)
  differ-bits k m l n before behind =
      record {
        size = length-bits_in high_first x ∙ ap (λ (i : ℕ). 8 * i) l ∙ sym (length-bits_in high_first y);
        differ = λ e. n (sym (pack-bits_in high_first x hx) ∙ ap₂ (pack high_first) l e ∙ pack-bits_in high_first y hy);
        before = before;
        behind = behind;
      }

  -- bytes that differ only in the n from p on
  pub value-bits : (p n : ℕ) → DifferWithin p n x y → DifferWithin (8 * p) (8 * n) (byte_bits x) (byte_bits y)
  value-bits p n d =
      let e : 8 * p + 8 * n ≡ 8 * (p + n) = omega arith in
      differ-bits (8 * p) (8 * n) d.size d.differ (simp (bits_in-take, d.before)) (simp (e, bits_in-drop, d.behind))

  -- and those in one block
  pub value-block : (H : Variant) (p n : ℕ) → DifferWithin p n x y → in_one_block H p n ≡ true
      → DifferWithin (8 * p / H.r * H.r) H.r (byte_bits x) (byte_bits y)
  unfolding in_one_block
  value-block H p n d e =
      let j : ℕ = 8 * p / H.r * H.r in
      let fits : 8 * p % H.r + 8 * n ≤ H.r = leb-true (8 * p % H.r + 8 * n) H.r e in
      differ-wider (8 * p) (8 * n) (byte_bits x) (byte_bits y) (value-bits p n d) j H.r
      (omega (arith, div-add-mod' (8 * p) H.r)) (omega (arith, fits, div-add-mod' (8 * p) H.r))

-- ---- the theorems by number, for sponges

-- two messages of bits, of one length or not, whose padded rows have equal count and differ at exactly one block
pub one-changed-row : OneChangedRow
one-changed-row v q = changed_row (variant v) (streams v (sponge-known v q)) (is-sponge v q)

-- two messages of bits of equal length that differ, and only within the block j
pub one-changed-part : OneChangedPart
one-changed-part v q j x y d = changed-end (variant v) (streams v (sponge-known v q)) j x y d (is-sponge v q)

module _ (v : ℕ) (q : is_sponge (variant v) ≡ true) (x y : List ℕ) (hx : (i : ℕ) → get_or x i 0 < 256) (hy : (i : ℕ) → get_or y i 0 < 256) where
  -- two messages of bytes
  pub one-changed-bytes : (j : ℕ) → length x ≡ length y → (x ≡ y → ⊥)
      → take (j * (variant v).r) (byte_bits x) ≡ take (j * (variant v).r) (byte_bits y)
      → drop (j * (variant v).r + (variant v).r) (byte_bits x) ≡ drop (j * (variant v).r + (variant v).r) (byte_bits y)
      → end_state (variant v) (byte_bits x) ≡ end_state (variant v) (byte_bits y) → ⊥
  one-changed-bytes j l n before behind =
      one-changed-part v q j (byte_bits x) (byte_bits y) (differ-bits x y hx hy (j * (variant v).r) (variant v).r l n before behind)

  -- and the end states differ
  pub one-changed-value : (p n : ℕ) → DifferWithin p n x y → in_one_block (variant v) p n ≡ true
      → end_state (variant v) (byte_bits x) ≡ end_state (variant v) (byte_bits y) → ⊥
  one-changed-value p n d e =
      one-changed-part v q (8 * p / (variant v).r) (byte_bits x) (byte_bits y) (value-block x y hx hy (variant v) p n d e)

-- ---- at which offsets a value lies in one block

-- the period is one block or two
period-blocks : (H : Variant) → H.r % 4 ≡ 0 → (8 * period H ≡ 1 * H.r) ⊎ (8 * period H ≡ 2 * H.r)
unfolding period
period-blocks H q =
    ⊎_elim
    (λ e.
    let w : H.r % 8 ≡ 0 = eqb-true (H.r % 8) 0 e in
    inl (rw e (omega arith)))
    (λ e. inr (rw e (omega arith)))
    (either (eqb (H.r % 8) 0))

-- offsets that are whole blocks apart begin at one bit of a block
same_start : (r P c : ℕ) → 8 * P ≡ c * r → (p q : ℕ) → 8 * (p + q * P) % r ≡ 8 * p % r
same_start r P c e p q =
    let turned : 8 * (q * P) ≡ q * c * r = rw (← mul_assoc, mul_comm 8 q, mul_assoc q 8 P, e, mul_assoc) in
    let sum : 8 * (p + q * P) ≡ 8 * p + q * c * r = omega arith in
    rw sum (add-mul-mod_self_right (8 * p) (q * c) r)

module _ (v : ℕ) (k : known v ≡ true) (n : ℕ) where
  -- whole periods do not count
  pub in_one_block-again : (p q : ℕ) → in_one_block (variant v) (p + q * period (variant v)) n ≡ in_one_block (variant v) p n
  unfolding in_one_block
  in_one_block-again p q =
      let H : Variant = variant v in
      ⊎_elim (λ e. rw (same_start H.r (period H) 1 e p q)) (λ e. rw (same_start H.r (period H) 2 e p q)) (period-blocks H (bounds v k).rate-quarters)

-- so the offsets below the period speak of all
pub in_one_block-mod : InOneBlockMod
in_one_block-mod v k n p =
    let P : ℕ = period (variant v) in
    rw (add_comm (p % P), div-add-mod') at (in_one_block-again v k n (p % P) (p / P))

pub two-byte-values : TwoByteValues
unfolding period offsets in_one_block
two-byte-values = refl
