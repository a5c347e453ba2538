-- Bits put behind those that bytes hold, by an xor into one byte.
-- Assumes nothing.
use mathlib.Core.Path.{◌≡◌, refl, sym, ap, ◌∙◌}
use mathlib.Core.Bool.{Bool, true, false, xor}
use mathlib.Core.List.{List, [], ◌∷◌, ◌++◌, append_assoc, reverse-append}
use mathlib.Core.Logic.{⊎_elim}
use Prim.Native.Nat.{ℕ, zero, suc, ◌+◌, ◌-◌, ◌*◌, ◌/◌, ◌%◌, ◌^◌, ◌≤◌, ◌<◌}
use native.Mathlib.Nat.{le_of_suc-le-suc, not-suc-le-zero, sub-zero, suc-sub-suc}
use native.Mathlib.Omega.{arith}
use lib.Arith.{digits_div, digits_mod}
use lib.Bits.{bit_xor, xor_lt}
use lib.ListN.{length, get_or, set, replicate, length-append, length-set, length-replicate, replicate-append-replicate}
use lib.Seq.{get_or-set_same, get_or-set_other}
use Rattle.standard.specs.Bits.{high_first, low_bits, ordered, bits_of, bits_in, pack, xor_into}
use Rattle.standard.proofs.Tests.{lt-or-le}
use Rattle.standard.proofs.BitLaws.{length-pack, pack-bytes, bits_in-pack, filled-short, image-eq, bits_in-xor, length-low_bits, xor_into-append, xor_into-zeros, xor_into-behind, low_bits-add, low_bits-low_value, low_value-of, zeros_of, reverse-replicate}

zeros-with : (m : ℕ) (Y : List Bool) → length Y ≤ m → xor_into (replicate m false) Y ≡ Y ++ replicate (m - length Y) false
unfolding xor_into xor
zeros-with zero [] h = refl
zeros-with (suc m) [] h = rw sub-zero
zeros-with zero (y ∷ Y) h = absurd (not-suc-le-zero h)
zeros-with (suc m) (true ∷ Y) h = rw (zeros-with m Y (le_of_suc-le-suc h), suc-sub-suc)
zeros-with (suc m) (false ∷ Y) h = rw (zeros-with m Y (le_of_suc-le-suc h), suc-sub-suc)

-- a byte xored into a byte is a byte
set-bytes : (s : List ℕ) (k v : ℕ) → ((i : ℕ) → get_or s i 0 < 256) → v < 256 → k < length s → (i : ℕ) → get_or (set s k (bit_xor (get_or s k 0) v)) i 0 < 256
set-bytes s k v hs hv hk i = ⊎_elim (λ l. other (λ e. omega arith)) (λ l. ⊎_elim (λ g. other (λ e. omega arith)) (λ g. same (omega arith)) (lt-or-le k i)) (lt-or-le i k)
  where
    other : (i ≡ k → ⊥) → get_or (set s k (bit_xor (get_or s k 0) v)) i 0 < 256
    other n = rw (get_or-set_other s k i _ 0 n) (hs i)

    same : i ≡ k → get_or (set s k (bit_xor (get_or s k 0) v)) i 0 < 256
    same e = rw (e, get_or-set_same s k _ 0 hk) (xor_lt 8 (get_or s k 0) v (hs k) hv)

-- n bytes that hold X hold X ++ Y after an xor of v into byte k, where v has Y at the place behind X and zeros around it
pub put-bits : (n : ℕ) (s : List ℕ) (X Y : List Bool) (k v a b : ℕ) → s ≡ pack high_first n X → k < n → v < 256
    → bits_of high_first 8 v ≡ replicate a false ++ (Y ++ replicate b false) → 8 * k + a ≡ length X → length X + length Y ≤ n * 8
    → set s k (bit_xor (get_or s k 0) v) ≡ pack high_first n (X ++ Y)
put-bits n s X Y k v a b es hk hv ev ex h =
    let ls : length s ≡ n = ap length es ∙ length-pack high_first n X in
    let hs : (i : ℕ) → get_or s i 0 < 256 = λ i. rw es (pack-bytes high_first n X i) in
    let m : ℕ = n * 8 - length X in
    let bits : bits_in high_first s ≡ X ++ replicate m false =
    ap (bits_in high_first) es ∙ bits_in-pack high_first n X ∙ filled-short (n * 8) X (omega arith) in
    let mask : replicate (8 * k) false ++ bits_of high_first 8 v ≡ replicate (length X) false ++ (Y ++ replicate b false) =
    rw (ev, ← append_assoc (replicate (8 * k) false) (replicate a false) (Y ++ replicate b false), replicate-append-replicate, ex) in
    let l_x_y : length (X ++ Y) ≡ length X + length Y = length-append X Y in
    let left : m - length Y ≡ n * 8 - length (X ++ Y) = omega arith in
    image-eq high_first n (set s k (bit_xor (get_or s k 0) v)) (X ++ Y) (set-bytes s k v hs hv (omega arith))
    (length-set s k (bit_xor (get_or s k 0) v) ∙ ls) (omega arith)
    (rw (bits_in-xor high_first s k v (omega arith), bits, mask, xor_into-append X _ _ (Y ++ replicate b false) (sym (length-replicate (length X) false)))
    (rw (xor_into-zeros X (length X), xor_into-behind, zeros-with m Y (omega arith), ← append_assoc, left)))

-- ---- bytes by halves, the upper first

-- only the w lowest bits of a number count
low-mod : (w n : ℕ) → low_bits w n ≡ low_bits w (n % 2 ^ w)
low-mod w n = rw (← low_value-of) (sym (rw length-low_bits at (low_bits-low_value (low_bits w n))))

pub halves : (x y : ℕ) → y < 16 → bits_of high_first 8 (x * 16 + y) ≡ bits_of high_first 4 x ++ bits_of high_first 4 y
unfolding bits_of ordered
halves x y h = rw (low_bits-add 4 4, reverse-append, digits_div x h, low-mod 4 (x * 16 + y), digits_mod x h)

no_bits : bits_of high_first 4 0 ≡ replicate 4 false
unfolding bits_of ordered
no_bits = rw zeros_of (reverse-replicate 4)

-- a byte is its two halves
pub byte-halves : (x : ℕ) → bits_of high_first 8 x ≡ bits_of high_first 4 (x / 16) ++ bits_of high_first 4 x
unfolding bits_of ordered
byte-halves x = rw (low_bits-add 4 4 x, reverse-append) refl

-- a half byte above, and one below
pub upper-byte : (x : ℕ) → bits_of high_first 8 (x * 16) ≡ bits_of high_first 4 x ++ replicate 4 false
upper-byte x =
    let e : x * 16 ≡ x * 16 + 0 = omega arith in
    ap (bits_of high_first 8) e ∙ rw (halves x 0 (omega arith), no_bits)

pub lower-byte : (x : ℕ) → x < 16 → bits_of high_first 8 x ≡ replicate 4 false ++ bits_of high_first 4 x
lower-byte x h =
    let e : x ≡ 0 * 16 + x = omega arith in
    ap (bits_of high_first 8) e ∙ rw (halves 0 x h, no_bits)
