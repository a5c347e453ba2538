-- How the blocks of a padded string end: those of its bits and the padding's 1 bit, and behind them, in Lesamnta-LW, the block of the length; and that block in bytes.
-- Assumes nothing.
use mathlib.Core.Path.{◌≡◌, refl, sym, ap, ap₂, ◌∙◌, subst}
use mathlib.Core.Bool.{Bool, true, false, cond}
use mathlib.Core.List.{List, [], ◌∷◌, ◌++◌, append_assoc, append-nil}
use mathlib.Core.Logic.{⊎_elim}
use Prim.Native.Nat.{ℕ, zero, suc, ◌+◌, ◌-◌, ◌/◌, ◌%◌, ◌^◌, ◌≤◌, ◌<◌}
use native.Mathlib.Nat.{mod-lt, div-le_self, zero-add, suc-add}
use native.Mathlib.Omega.{arith}
use lib.Dec.{eqb}
use lib.ListN.{length, replicate, length-append, length-replicate}
use borrow.Author.Tests.{eq-eqb, ne_eqb, eqb-true, eqb-false}
use Rattle.standard.specs.Bits.{high_first, low_bits, ordered, bits_of, bits_in, unpack, pack}
use Rattle.standard.specs.Sponge.{sponge_padding}
use Rattle.standard.specs.Families.{Variant, is_sponge}
use Rattle.standard.specs.Lesamnta.{lesamnta_padding}
use Rattle.standard.specs.Chain.{padding, whole_blocks, rest_of, block_count}
use Rattle.standard.specs.Variants.{variant, known}
use Rattle.standard.proofs.Tests.{either}
use Rattle.standard.proofs.BitLaws.{length-bits_of, pack-bits_in, bits_in-append, bits_in-zeros, unpack-pack}
use Rattle.standard.proofs.Streaming.{whole_append, whole-one, length_rest}
use Rattle.standard.proofs.Sponge.{padding-sponge, sponge-count}
use Rattle.standard.proofs.Variants.{streams, is-sponge, not-sponge, lesamnta-count}
use Rattle.std.specs.Int.{w64, to_be_bytes}
use Rattle.octets.specs.Numbers.{Bytes}
use Rattle.octets.proofs.ByteLaws.{cons-bytes, append-bytes, zero-bytes}
use Rattle.lesamnta.proofs.WordLaws.{bytes_bits}
use Rattle.standard.specs.Layout.{packed_block}
use Rattle.chain.specs.Blocks.{held_then, first_blocks}
use Rattle.chain.specs.Padding.{data_blocks, length_block, length_blocks}
use Rattle.chain.proofs.BlockRows.{with_one, padded-first, whole-first}

-- ---- whole blocks, and one more

no-rest : (r : ℕ) (bs : List Bool) → length bs % r ≡ 0 → rest_of r bs ≡ []
no-rest r bs e = none (rest_of r bs) (length_rest r bs ∙ e)
  where
    none : (xs : List Bool) → length xs ≡ 0 → xs ≡ []
    none [] q = refl
    none (x ∷ xs) q = absurd (omega arith)

one_more : (a b : List Bool) → length a % 128 ≡ 0 → length b ≡ 128 → whole_blocks 128 (a ++ b) ≡ whole_blocks 128 a ++ b ∷ []
one_more a b ea eb =
    whole_append 128 (omega arith) a b
    ∙ ap (λ (x : List Bool). whole_blocks 128 a ++ whole_blocks 128 (x ++ b)) (no-rest 128 a ea)
    ∙ ap (λ (bs : List (List Bool)). whole_blocks 128 a ++ bs) (whole-one 128 (omega arith) b eb)

replicate-add : (a b : ℕ) → replicate (a + b) false ≡ replicate a false ++ replicate b false
replicate-add zero b = ap (λ (n : ℕ). replicate n false) (zero-add b)
replicate-add (suc a) b = ap (λ (n : ℕ). replicate n false) (suc-add a b) ∙ ap (λ (bs : List Bool). false ∷ bs) (replicate-add a b)

fills : (l m : ℕ) → m < 128 → m ≡ l % 128 → (l + suc (128 - 1 - m)) % 128 ≡ 0
fills l m h e = omega arith

-- ---- Lesamnta-LW: a string x that leaves as much of a block as a message of n bits does

length-size : (n : ℕ) → length (length_block n) ≡ 128
length-size n = ap suc (length-append (replicate 63 false) (bits_of high_first 64 n)) ∙ omega (arith, length-replicate 63 false, length-bits_of high_first 64 n)

module _ (x : List Bool) (n : ℕ) (same : n % 128 ≡ length x % 128) where
  -- where the string fills its blocks, the 1 bit begins the block of the length
  filled-blocks : n % 128 ≡ 0 → whole_blocks 128 (x ++ lesamnta_padding n) ≡ first_blocks 128 ((length x + 127) / 128) (with_one x) ++ length_block n ∷ []
  unfolding lesamnta_padding
  filled-blocks e =
      let zeros : (128 - n % 128) % 128 + 63 ≡ 63 = omega arith in
      let count : (length x + 127) / 128 ≡ length x / 128 = omega arith in
      let block : true ∷ replicate ((128 - n % 128) % 128 + 63) false ++ bits_of high_first 64 n ≡ length_block n =
      ap₂ (λ (b : Bool) (k : ℕ). b ∷ replicate k false ++ bits_of high_first 64 n) (sym (eq-eqb (n % 128) 0 e)) zeros in
      ap (λ (p : List Bool). whole_blocks 128 (x ++ p)) block
      ∙ one_more x (length_block n) (omega arith) (length-size n)
      ∙ ap (λ (bs : List (List Bool)). bs ++ length_block n ∷ []) (sym (ap (λ (k : ℕ). first_blocks 128 k (with_one x)) count ∙ whole-first 128 x (true ∷ [])))

  -- else it stands behind the string
  part-blocks : (n % 128 ≡ 0 → ⊥) → whole_blocks 128 (x ++ lesamnta_padding n) ≡ first_blocks 128 ((length x + 127) / 128) (with_one x) ++ length_block n ∷ []
  unfolding lesamnta_padding sponge_padding
  part-blocks ne =
      let z : ℕ = 128 - 1 - n % 128 in
      let part : n % 128 < 128 = mod-lt n {m = 128} (omega arith) in
      let zeros : (128 - n % 128) % 128 + 63 ≡ z + 64 = omega arith in
      let count : (length x + 127) / 128 ≡ length x / 128 + 1 = omega arith in
      let first : replicate 64 false ++ bits_of high_first 64 n ≡ length_block n =
      ap (λ (b : Bool). b ∷ replicate 63 false ++ bits_of high_first 64 n) (sym (ne_eqb (n % 128) 0 ne)) in
      let parts : true ∷ replicate ((128 - n % 128) % 128 + 63) false ++ bits_of high_first 64 n ≡ (true ∷ replicate z false) ++ length_block n =
      ap (λ (k : ℕ). true ∷ replicate k false ++ bits_of high_first 64 n) zeros
      ∙ ap (λ (bs : List Bool). true ∷ bs ++ bits_of high_first 64 n) (replicate-add z 64)
      ∙ ap (λ (bs : List Bool). true ∷ bs) (append_assoc (replicate z false) (replicate 64 false) (bits_of high_first 64 n))
      ∙ ap (λ (bs : List Bool). true ∷ replicate z false ++ bs) first in
      let size : length (x ++ true ∷ replicate z false) % 128 ≡ 0 =
      ap (λ (m : ℕ). m % 128) (length-append x (true ∷ replicate z false) ∙ ap (λ (m : ℕ). length x + suc m) (length-replicate z false)) ∙ fills (length x) (n % 128) part same in
      ap (λ (p : List Bool). whole_blocks 128 (x ++ p)) parts
      ∙ ap (whole_blocks 128) (sym (append_assoc x (true ∷ replicate z false) (length_block n)))
      ∙ one_more (x ++ true ∷ replicate z false) (length_block n) size (length-size n)
      ∙ ap (λ (bs : List (List Bool)). bs ++ length_block n ∷ []) (sym (ap (λ (k : ℕ). first_blocks 128 k (with_one x)) count ∙ padded-first 128 (omega arith) x n same))

  lesamnta-blocks : whole_blocks 128 (x ++ lesamnta_padding n) ≡ first_blocks 128 ((length x + 127) / 128) (with_one x) ++ length_block n ∷ []
  lesamnta-blocks =
      ⊎_elim (λ e. filled-blocks (eqb-true (n % 128) 0 e)) (λ e. part-blocks (eqb-false (n % 128) 0 e)) (either (eqb (n % 128) 0))

-- ---- by number

lesamnta-ending : (x : List Bool) (n : ℕ) → n % (variant 11).r ≡ length x % (variant 11).r
    → whole_blocks (variant 11).r (x ++ padding (variant 11) n) ≡ first_blocks (variant 11).r (data_blocks (variant 11) (length x)) (with_one x) ++ length_blocks (variant 11) n
unfolding padding variant
lesamnta-ending x n e = lesamnta-blocks x n e

-- The blocks of a string and of the padding of a message that leaves as much of a block: the string itself, or the message whose last bits it is.
pub ending-blocks : (v : ℕ) → known v ≡ true → (x : List Bool) (n : ℕ) → n % (variant v).r ≡ length x % (variant v).r
    → whole_blocks (variant v).r (x ++ padding (variant v) n) ≡ first_blocks (variant v).r (data_blocks (variant v) (length x)) (with_one x) ++ length_blocks (variant v) n
ending-blocks v k x n e = ⊎_elim sponges last (either (is_sponge (variant v)))
  where
    sponges : is_sponge (variant v) ≡ true
        → whole_blocks (variant v).r (x ++ padding (variant v) n) ≡ first_blocks (variant v).r (data_blocks (variant v) (length x)) (with_one x) ++ length_blocks (variant v) n
    sponges q =
        let H : Variant = variant v in
        ap (λ (p : List Bool). whole_blocks H.r (x ++ p)) (padding-sponge H (is-sponge v q) n)
        ∙ sym (padded-first H.r (streams v k).rate-pos x n e)
        ∙ sym (append-nil (first_blocks H.r (length x / H.r + 1) (with_one x)))
        ∙ ap (λ (b : Bool). first_blocks H.r (cond b (length x / H.r + 1) ((length x + 127) / 128)) (with_one x) ++ cond b [] (length_block n ∷ [])) (sym q)

    last : is_sponge (variant v) ≡ false
        → whole_blocks (variant v).r (x ++ padding (variant v) n) ≡ first_blocks (variant v).r (data_blocks (variant v) (length x)) (with_one x) ++ length_blocks (variant v) n
    last q =
        subst (λ (m : ℕ). n % (variant m).r ≡ length x % (variant m).r
        → whole_blocks (variant m).r (x ++ padding (variant m) n) ≡ first_blocks (variant m).r (data_blocks (variant m) (length x)) (with_one x) ++ length_blocks (variant m) n)
        (sym (not-sponge v k q)) (lesamnta-ending x n) e

-- how many blocks a message of n bits has: those of the 1 bit, and for what is no sponge one more
pub count-sponge : (v : ℕ) → known v ≡ true → is_sponge (variant v) ≡ true → (n : ℕ) → block_count (variant v) n ≡ data_blocks (variant v) n
count-sponge v k q n =
    sponge-count (variant v) (streams v k) (is-sponge v q) n ∙ ap (λ (b : Bool). cond b (n / (variant v).r + 1) ((n + 127) / 128)) (sym q)

pub count-other : (v : ℕ) → known v ≡ true → is_sponge (variant v) ≡ false → (n : ℕ) → block_count (variant v) n ≡ data_blocks (variant v) n + 1
count-other v k q n =
    subst (λ (m : ℕ). block_count (variant m) n ≡ (n + 127) / 128 + 1) (sym (not-sponge v k q)) (lesamnta-count n)
    ∙ ap (λ (b : Bool). cond b (n / (variant v).r + 1) ((n + 127) / 128) + 1) (sym q)

pub marked-most : (v : ℕ) → known v ≡ true → (n : ℕ) → data_blocks (variant v) n ≤ n + 1
marked-most v k n = go (is_sponge (variant v))
  where
    go : (b : Bool) → cond b (n / (variant v).r + 1) ((n + 127) / 128) ≤ n + 1
    go true = omega (arith, div-le_self n (variant v).r)
    go false = omega arith

-- the last place is behind the blocks of the 1 bit, or among them
pub place-marked : (v : ℕ) → known v ≡ true → (n place : ℕ) → place < block_count (variant v) n → place ≤ data_blocks (variant v) n
place-marked v k n place h =
    ⊎_elim (λ q. omega (arith, count-sponge v k q n)) (λ q. omega (arith, count-other v k q n)) (either (is_sponge (variant v)))

pub count_most : (v : ℕ) → known v ≡ true → (n : ℕ) → block_count (variant v) n ≤ n + 2
count_most v k n =
    ⊎_elim (λ q. omega (arith, count-sponge v k q n, marked-most v k n)) (λ q. omega (arith, count-other v k q n, marked-most v k n)) (either (is_sponge (variant v)))

-- ---- the block of the length in bytes

first-bits : (b : Bool) → bits_of high_first 8 (cond b 128 0) ≡ b ∷ replicate 7 false
unfolding bits_of ordered low_bits
first-bits true = refl
first-bits false = refl

length-bits : (n : ℕ) → bits_in high_first (to_be_bytes w64 n) ≡ bits_of high_first 64 n
length-bits n =
    let last : n / 256 ^ 0 % 256 ≡ n % 256 = omega arith in
    sym (bytes_bits 8 n ∙ rw last)

module _ (n x : ℕ) (is : x ≡ cond (eqb (n % 128) 0) 128 0) where
  bits : bits_in high_first (x ∷ replicate 7 0 ++ to_be_bytes w64 n) ≡ length_block n
  unfolding bits_in
  bits =
      ap₂ (λ (a c : List Bool). a ++ c) (ap (bits_of high_first 8) is ∙ first-bits (eqb (n % 128) 0))
      (bits_in-append high_first (replicate 7 0) (to_be_bytes w64 n) ∙ ap₂ (λ (a c : List Bool). a ++ c) (bits_in-zeros high_first 7) (length-bits n))

  -- the first byte and the length's eight
  pub length-bytes : x < 256 → Bytes (to_be_bytes w64 n) → x ∷ replicate 7 0 ++ to_be_bytes w64 n ≡ packed_block (length_block n)
  length-bytes small bytes =
      sym (pack-bits_in high_first (x ∷ replicate 7 0 ++ to_be_bytes w64 n) (cons-bytes x (replicate 7 0 ++ to_be_bytes w64 n) small (append-bytes (replicate 7 0) (to_be_bytes w64 n) (zero-bytes 7) bytes)))
      ∙ ap (pack high_first 16) bits

-- ---- run on bytes

module _ (v : ℕ) (k : known v ≡ true) (q : is_sponge (variant v) ≡ false) where
  block_size : (variant v).r ≡ 128
  unfolding variant
  block_size = ap (λ (n : ℕ). (variant n).r) (not-sponge v k q)

  -- the block of the length, read from its bytes with another behind it, is the last
  pub length_run : (n : ℕ) (block : List ℕ) (y : ℕ) → block ≡ packed_block (length_block n)
      → first_blocks (variant v).r 1 (held_then block 32 (y ∷ [])) ≡ length_blocks (variant v) n
  length_run n block y e =
      let L : List Bool = length_block n in
      let size : length L ≡ 128 = length-size n in
      let read : unpack high_first 128 block ≡ L =
      ap₂ (unpack high_first) (sym size) e ∙ unpack-pack high_first 16 L (omega arith) in
      let count : length L / 128 ≡ 1 = ap (λ (m : ℕ). m / 128) size in
      ap₂ (λ (r : ℕ) (x : List Bool). first_blocks r 1 (x ++ bits_in high_first (y ∷ []))) block_size read
      ∙ ap (λ (m : ℕ). first_blocks 128 m (L ++ bits_in high_first (y ∷ []))) (sym count)
      ∙ whole-first 128 L (bits_in high_first (y ∷ []))
      ∙ whole-one 128 (omega arith) L size
      ∙ ap (λ (b : Bool). cond b [] (L ∷ [])) (sym q)
