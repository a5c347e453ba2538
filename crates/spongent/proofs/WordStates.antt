-- The state that words hold: from the bytes that hold it, into its image, and the front of that; and the block step.
-- Assumes nothing.
use mathlib.Core.Path.{◌≡◌, refl, sym, ap, ◌∙◌, ap₂}
use mathlib.Core.List.{List, ◌++◌, [], ◌∷◌, reverse-reverse}
use mathlib.Core.Bool.{Bool}
use mathlib.Core.Logic.{inr}
use Prim.Native.Nat.{ℕ, ◌-◌, ◌*◌, ◌/◌, ◌≤◌, ◌+◌, ◌%◌, ◌<◌}
use native.Mathlib.Omega.{arith}
use native.Mathlib.Nat.{add-zero, min-le_left}
use lib.Dec.{lit≤}
use lib.ListN.{length, take, replicate, get_or, set, drop, length-append, length-take, length-drop}
use lib.Seq.{take-take, take-append-le, length-take-le, get_or-drop, take_at, drop_at, take_all}
use lib.Bits.{bit_xor}
use Rattle.standard.specs.Bits.{low_first, high_first, bits_in, pack, unpack, low_bits, ordered, bits_of, value_of, bytes_for, turned, xor_into}
use Rattle.standard.specs.Families.{order, state_in}
use Rattle.standard.specs.ForCode.{output_bits}
use Rattle.standard.specs.Variants.{variant}
use Rattle.standard.specs.declared.Direction.TheVariants.{Forward}
use Rattle.standard.specs.Spongent.{spongent_permutation}
use Rattle.standard.specs.Sponge.{permutation, sponge_step}
use Rattle.standard.specs.Chain.{step}
use Rattle.standard.proofs.Tests.{six-to-ten}
use Rattle.standard.proofs.BitLaws.{bits_in-take, length-unpack, filled-take, length-low_bits, low_bits-low_value, length-bits_of, length-bits_in, bits_in-drop, length-xor_into, xor_into-front, bytes_xor, bits_in-bytes_xor, bytes_xor-none, bytes_xor-more}
use Rattle.standard.proofs.Turned.{turned-in}
use Rattle.spongent.specs.Parameters.{spongent_of}
use Rattle.spongent.specs.Words.{bytes_in, state_of_bytes, Permuted}
use Rattle.spongent.proofs.ParametersOf.{family-of, bits-of, sizes-of}
use Rattle.spongent.proofs.WordLaws.{length-bytes_in, image-packed}

-- the first bits of bytes, of which the first two are those of b
front_bytes : (m n : ℕ) (b z : List ℕ) → m ≤ 16 → 2 ≤ n → n ≤ length b → take m (bits_in high_first (take n b ++ z)) ≡ take m (bits_in high_first (take 2 b))
front_bytes m n b z hm hn hb =
    sym (take-take m 16 (bits_in high_first (take n b ++ z)) hm)
    ∙ ap (take m) (bits_in-take high_first 2 (take n b ++ z) ∙ ap (bits_in high_first) (take-append-le 2 (take n b) z (omega (arith, length-take-le n b hb)) ∙ take-take 2 n b hn))

module _ (v : ℕ) (low : 6 ≤ v) (high : v ≤ 10) where
  pub state-read : (bytes w : List ℕ) → bytes_in w ≡ bytes → state_of_bytes (spongent_of v) w ≡ state_in (variant v) bytes
  unfolding state_of_bytes state_in
  state-read bytes w e = rw (family-of v low high, bits-of v low high, e)

  -- words hold as many bits as the state has
  pub state-length : (w : List ℕ) → length (state_of_bytes (spongent_of v) w) ≡ (variant v).t
  unfolding state_of_bytes
  state-length w = length-unpack low_first (spongent_of v).t (bytes_in w) (omega (arith, length-bytes_in w, (sizes-of v low high).most)) ∙ sym (bits-of v low high)

  pub state-image : (w r : List ℕ) (n : ℕ) → n ≡ (spongent_of v).t / 8 → r ≡ take n (bytes_in w) ++ replicate (36 - n) 0
      → r ≡ pack (order (variant v)) 36 (state_of_bytes (spongent_of v) w)
  unfolding state_of_bytes
  state-image w r n en er =
      let z = sizes-of v low high in
      let whole : 8 * n ≡ (spongent_of v).t = omega (arith, z.whole) in
      rw (family-of v low high) (er ∙ image-packed w n (omega (arith, z.most)) ∙ ap (λ (t : ℕ). pack low_first 36 (unpack low_first t (bytes_in w))) whole)

  output-most : output_bits (variant v) ≤ 16
  unfolding variant
  output-most = six-to-ten (λ k. output_bits (variant k) ≤ 16) (lit≤ tt) (lit≤ tt) (lit≤ tt) (lit≤ tt) (lit≤ tt) v low high

  two-least : 2 ≤ (spongent_of v).t / 8
  unfolding variant spongent_of
  two-least = six-to-ten (λ k. 2 ≤ (spongent_of k).t / 8) (lit≤ tt) (lit≤ tt) (lit≤ tt) (lit≤ tt) (lit≤ tt) v low high

  pub state-front : (w r : List ℕ) → r ≡ take 2 (bytes_in w) ++ replicate 34 0
      → take (output_bits (variant v)) (bits_in high_first r)
      ≡ take (output_bits (variant v)) (bits_in high_first (pack (order (variant v)) 36 (state_of_bytes (spongent_of v) w)))
  state-front w r er =
      let n : ℕ = (spongent_of v).t / 8 in
      let m : ℕ = output_bits (variant v) in
      ap (λ (x : List ℕ). take m (bits_in high_first x)) er
      ∙ front_bytes m 2 (bytes_in w) (replicate 34 0) output-most (lit≤ tt) (omega (arith, length-bytes_in w))
      ∙ sym (front_bytes m n (bytes_in w) (replicate (36 - n) 0) output-most two-least (omega (arith, length-bytes_in w, (sizes-of v low high).most)))
      ∙ ap (λ (x : List ℕ). take m (bits_in high_first x)) (state-image w (take n (bytes_in w) ++ replicate (36 - n) 0) n refl refl)

-- ---- the block step of the variant v: a block xored into the front of the state, and the rounds by look-ups

-- ---- the size of a block

-- a block is one byte or two
pub rate-of : (v : ℕ) → 6 ≤ v → v ≤ 10 → (variant v).r ≡ 8 * (1 + v / 8)
unfolding variant
rate-of = six-to-ten (λ v. (variant v).r ≡ 8 * (1 + v / 8)) refl refl refl refl refl

-- ---- the block xored in

-- w₁ is w with x xored into byte k
abbrev pub WithByte : List ℕ → ℕ → ℕ → List ℕ → Type 0
WithByte w k x w₁ = bytes_in w₁ ≡ set (bytes_in w) k (bit_xor (get_or (bytes_in w) k 0) x)

-- the block that begins at a place of the bytes, its first byte xored in and then its second
module _ (bytes : List ℕ) (at : ℕ) (w w₁ : List ℕ) (first : WithByte w 0 (get_or bytes at 0) w₁) where
  one_byte : at < length bytes → bytes_in w₁ ≡ bytes_xor (bytes_in w) (take 1 (drop at bytes))
  one_byte h =
      let s : List ℕ = bytes_in w in
      let x : get_or bytes at 0 ≡ get_or (drop at bytes) 0 0 = sym (get_or-drop at bytes 0 0 ∙ ap (λ (k : ℕ). get_or bytes k 0) (add-zero at)) in
      first ∙ ap₂ (λ (l : List ℕ) (y : ℕ). set l 0 (bit_xor (get_or l 0 0) y)) (sym (bytes_xor-none s)) x
      ∙ bytes_xor-more s (drop at bytes) 0 (omega (arith, length-drop at bytes)) (omega (arith, length-bytes_in w))

  two_bytes : (w₂ : List ℕ) → at + 1 < length bytes → WithByte w₁ 1 (get_or bytes (at + 1) 0) w₂ → bytes_in w₂ ≡ bytes_xor (bytes_in w) (take 2 (drop at bytes))
  two_bytes w₂ h second =
      second ∙ ap₂ (λ (l : List ℕ) (y : ℕ). set l 1 (bit_xor (get_or l 1 0) y)) (one_byte (omega arith)) (sym (get_or-drop at bytes 1 0))
      ∙ bytes_xor-more (bytes_in w) (drop at bytes) 1 (omega (arith, length-drop at bytes)) (omega (arith, length-bytes_in w))

-- the first t bits of bytes, after others were xored in that are not more
xored-front : (t : ℕ) (s b : List ℕ) → 8 * length b ≤ t → t ≤ 8 * length s
    → unpack low_first t (bytes_xor s b) ≡ xor_into (unpack low_first t s) (bits_in low_first b)
unfolding unpack
xored-front t s b hb hs =
    let L : List Bool = bits_in low_first s in
    let B : List Bool = bits_in low_first b in
    let lx : length (xor_into (take t L) B) ≡ t = length-xor_into (take t L) B ∙ length-take-le t L (omega (arith, length-bits_in low_first s)) in
    ap (take t) (bits_in-bytes_xor low_first s b ∙ xor_into-front t L B (omega (arith, length-bits_in low_first b))) ∙ take_at (xor_into (take t L) B) (drop t L) t lx

-- the state in x is that in w with the block xored in
abbrev WithBlock : ℕ → List ℕ → ℕ → List ℕ → List ℕ → Type 0
WithBlock v bytes at w x = state_of_bytes (spongent_of v) x ≡ xor_into (state_of_bytes (spongent_of v) w) (bits_in low_first (take ((variant v).r / 8) (drop at bytes)))

module _ (v : ℕ) (least : 6 ≤ v) (most : v ≤ 10) (bytes : List ℕ) (at : ℕ) (room : at + (variant v).r / 8 ≤ length bytes) (w w₁ : List ℕ) where
  with-bytes : (m : ℕ) → (variant v).r / 8 ≡ m → (x : List ℕ) → bytes_in x ≡ bytes_xor (bytes_in w) (take m (drop at bytes)) → WithBlock v bytes at w x
  unfolding state_of_bytes
  with-bytes m rate x e =
      let t : ℕ = (spongent_of v).t in
      let block : List ℕ = drop at bytes in
      let b : List ℕ = take m block in
      let z = sizes-of v least most in
      let fits : 8 * m ≤ t = omega (arith, rate-of v least most, two-least v least most) in
      let short : length b ≤ m = rw (length-take m block) (min-le_left m (length block)) in
      ap (unpack low_first t) e ∙ xored-front t (bytes_in w) b (omega arith) (omega (arith, length-bytes_in w))
      ∙ ap (λ (j : ℕ). xor_into (unpack low_first t (bytes_in w)) (bits_in low_first (take j block))) (sym rate)

  -- blocks of one byte, and of two
  pub with-one : v ≤ 7 → WithByte w 0 (get_or bytes at 0) w₁ → WithBlock v bytes at w w₁
  with-one h first =
      let rate : (variant v).r / 8 ≡ 1 = omega (arith, rate-of v least most) in
      with-bytes 1 rate w₁ (one_byte bytes at w w₁ first (omega arith))

  pub with_two : 7 < v → WithByte w 0 (get_or bytes at 0) w₁ → (w₂ : List ℕ) → WithByte w₁ 1 (get_or bytes (at + 1) 0) w₂ → WithBlock v bytes at w w₂
  with_two h first w₂ second =
      let rate : (variant v).r / 8 ≡ 2 = omega (arith, rate-of v least most) in
      with-bytes 2 rate w₂ (two_bytes bytes at w w₁ first w₂ (omega arith) second)

-- ---- the step

-- the bits of a byte, turned round
byte_low : (b : ℕ) → bits_of low_first 8 (value_of high_first (bits_of high_first 8 b)) ≡ bits_of low_first 8 b
unfolding bits_of value_of ordered
byte_low b = rw reverse-reverse (rw length-low_bits at (low_bits-low_value (low_bits 8 b)))

bytes_low : (bytes : List ℕ) → bits_in low_first (pack high_first (length bytes) (bits_in high_first bytes)) ≡ bits_in low_first bytes
unfolding bits_in pack
bytes_low [] = refl
bytes_low (b ∷ bytes) =
    let X : List Bool = bits_of high_first 8 b in
    let rest : List Bool = bits_in high_first bytes in
    let size : length X ≡ 8 = length-bits_of high_first 8 b in
    ap₂ (λ (x : List Bool) (y : List Bool). bits_of low_first 8 (value_of high_first x) ++ bits_in low_first (pack high_first (length bytes) y))
    (filled-take 8 (X ++ rest) (omega (arith, size, length-append X rest)) ∙ take_at X rest 8 size) (drop_at X rest 8 size)
    ∙ ap₂ (λ (x y : List Bool). x ++ y) (byte_low b) (bytes_low bytes)

turned-bytes : (bytes : List ℕ) → turned low_first (bits_in high_first bytes) ≡ bits_in low_first bytes
unfolding unpack
turned-bytes bytes =
    let bs : List Bool = bits_in high_first bytes in
    let size : length bs ≡ 8 * length bytes = length-bits_in high_first bytes in
    let count : bytes_for (length bs) ≡ length bytes = omega arith in
    turned-in bs low_first (inr (omega arith))
    ∙ ap (λ (n : ℕ). take (length bs) (bits_in low_first (pack high_first n bs))) count
    ∙ ap (take (length bs)) (bytes_low bytes)
    ∙ take_all (length bs) (bits_in low_first bytes) (omega (arith, size, length-bits_in low_first bytes))

-- a block of whole bytes from the nibble m on is xored in, which makes s of w, and the permutation makes y of that
pub stepped : (v : ℕ) → 6 ≤ v → v ≤ 10 → (bytes : List ℕ) (m : ℕ) → ((variant v).r % 8 ≡ 0 → m % 2 ≡ 0) → (w s y : List ℕ) → WithBlock v bytes (m / 2) w s → Permuted v s y
    → state_of_bytes (spongent_of v) y ≡ step (variant v) (state_of_bytes (spongent_of v) w) (take (variant v).r (drop (4 * m) (bits_in high_first bytes)))
unfolding step sponge_step permutation
stepped v least most bytes m even w s y es ey =
    let q : ℕ = (variant v).r / 8 in
    let rate : 8 * q ≡ (variant v).r = omega (arith, rate-of v least most) in
    let place : 8 * (m / 2) ≡ 4 * m = omega (arith, even (omega (arith, rate-of v least most))) in
    let block : take (variant v).r (drop (4 * m) (bits_in high_first bytes)) ≡ bits_in high_first (take q (drop (m / 2) bytes)) =
    ap₂ (λ (a b : ℕ). take a (drop b (bits_in high_first bytes))) (sym rate) (sym place) ∙ ap (take (8 * q)) (bits_in-drop high_first (m / 2) bytes) ∙ bits_in-take high_first q (drop (m / 2) bytes) in
    rw (family-of v least most, block, turned-bytes) (ey ∙ ap (spongent_permutation (spongent_of v) Forward) es)
