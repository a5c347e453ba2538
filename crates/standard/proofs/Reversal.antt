-- The reversal of a number to t bits: what it is made of, its bits, and what taps read of it.
-- Assumes nothing.
use mathlib.Core.Path.{◌≡◌, refl, sym, ap, ap₂, ◌∙◌}
use mathlib.Core.Bool.{Bool, xor}
use mathlib.Core.List.{List, [], ◌∷◌, ◌++◌, reverse, reverse-append, reverse-reverse}
use Prim.Native.Nat.{ℕ, suc, ◌+◌, ◌-◌, ◌*◌, ◌/◌, ◌%◌, ◌^◌, ◌≤◌, ◌<◌}
use native.Mathlib.Nat.{div-div-eq-div-mul, mul_comm, mul-mod_left, add_comm, add-zero, mod-lt, mod-eq_of_lt, zero-mod, zero-add, div-eq_of_lt, zero-lt-suc}
use native.Mathlib.Numerals.{add-one}
use native.Mathlib.Omega.{arith}
use lib.Arith.{digits_mod}
use lib.Pow.{high}
use lib.ListN.{length, length-reverse}
use Rattle.standard.specs.Bits.{low_first, high_first, bit, digit, low_bits, low_value, ordered, bits_of, xor_into}
use Rattle.standard.specs.Spongent.{tapped, c_addition}
use Rattle.standard.specs.Counters.{reversal, mirrored}
use Rattle.standard.proofs.BitLaws.{length-low_bits, length-bits_of, digit-bit, low_value-of, low_value-lt, low_bits-low_value, low_bits-add, low_value-append, zeros_of, reverse-replicate}
use Rattle.standard.proofs.Undo.{All}

-- the bits of c from v on come first, and the lower ones above them
pub reversal-add : (v m c : ℕ) → reversal (v + m) c ≡ reversal v c * 2 ^ m + reversal m (c / 2 ^ v)
unfolding reversal bits_of ordered
reversal-add v m c =
    let lower : List Bool = reverse (low_bits v c) in
    let upper : List Bool = reverse (low_bits m (c / 2 ^ v)) in
    let size : length upper ≡ m = length-reverse (low_bits m (c / 2 ^ v)) ∙ length-low_bits m (c / 2 ^ v) in
    let parts : low_value (upper ++ lower) ≡ low_value upper + 2 ^ m * low_value lower = rw size at (low_value-append upper lower) in
    ap (λ (l : List Bool). low_value (reverse l)) (low_bits-add v m c) ∙ ap low_value (reverse-append (low_bits v c) (low_bits m (c / 2 ^ v))) ∙ parts
    ∙ add_comm (low_value upper) (2 ^ m * low_value lower) ∙ ap (λ (n : ℕ). n + low_value upper) (mul_comm (2 ^ m) (low_value lower))

pub reversal-lt : (t c : ℕ) → reversal t c < 2 ^ t
unfolding reversal
reversal-lt t c = rw (length-bits_of high_first t c) at (low_value-lt (bits_of high_first t c))

reversal-one : (c : ℕ) → reversal 1 c ≡ c % 2
unfolding reversal bits_of ordered low_bits low_value
reversal-one c = zero-add (digit (bit (c % 2))) ∙ digit-bit c

-- the lowest bit of c on top
pub reversal-first : (m c : ℕ) → reversal (suc m) c ≡ c % 2 * 2 ^ m + reversal m (c / 2)
reversal-first m c = let e : suc m ≡ 1 + m = omega arith in rw (e, ← reversal-one c) (reversal-add 1 m c)

-- and the highest at the end
pub reversal-last : (v c : ℕ) → reversal (suc v) c ≡ reversal v c * 2 + c / 2 ^ v % 2
reversal-last v c = ap (λ (n : ℕ). reversal n c) (sym (add-one v)) ∙ reversal-add v 1 c ∙ ap (λ (n : ℕ). reversal v c * 2 + n) (reversal-one (c / 2 ^ v))

pub reversal-zero : (t : ℕ) → reversal t 0 ≡ 0
unfolding reversal bits_of ordered
reversal-zero t = ap (λ (l : List Bool). low_value (reverse l)) (zeros_of t) ∙ ap low_value (reverse-replicate t ∙ sym (zeros_of t)) ∙ low_value-of t 0 ∙ zero-mod (2 ^ t)

-- bits from t on do not count
pub low_bits-mod : (t c : ℕ) → low_bits t (c % 2 ^ t) ≡ low_bits t c
low_bits-mod t c = ap (low_bits t) (sym (low_value-of t c)) ∙ rw (length-low_bits t c) at (low_bits-low_value (low_bits t c))

pub reversal-mod : (t c : ℕ) → reversal t (c % 2 ^ t) ≡ reversal t c
unfolding reversal bits_of ordered
reversal-mod t c = ap (λ (l : List Bool). low_value (reverse l)) (low_bits-mod t c)

-- as bits, it is what c_addition adds
pub reversal-bits : (t c : ℕ) → bits_of low_first t (reversal t c) ≡ bits_of high_first t c
unfolding reversal bits_of ordered
reversal-bits t c =
    let size : length (reverse (low_bits t c)) ≡ t = length-reverse (low_bits t c) ∙ length-low_bits t c in
    rw size at (low_bits-low_value (reverse (low_bits t c)))

pub reversal-twice : (t c : ℕ) → c < 2 ^ t → reversal t (reversal t c) ≡ c
unfolding reversal bits_of ordered
reversal-twice t c h =
    ap (λ (l : List Bool). low_value (reverse l)) (reversal-bits t c) ∙ ap low_value (reverse-reverse (low_bits t c)) ∙ low_value-of t c ∙ mod-eq_of_lt h

-- bit k of c stands at place t - 1 - k
reversal-at : (t k c : ℕ) → k < t → reversal t c / 2 ^ (t - 1 - k) % 2 ≡ c / 2 ^ k % 2
reversal-at t k c h =
    let m : ℕ = t - 1 - k in
    let e : t ≡ suc k + m = omega arith in
    let bits : reversal t c / 2 ^ m ≡ reversal (suc k) c =
    ap (λ (n : ℕ). reversal n c / 2 ^ m) e ∙ ap (λ (n : ℕ). n / 2 ^ m) (reversal-add (suc k) m c) ∙ high (reversal (suc k) c) m (reversal-lt m (c / 2 ^ suc k)) in
    ap (λ (n : ℕ). n % 2) (bits ∙ reversal-last k c) ∙ digits_mod (reversal k c) (mod-lt (c / 2 ^ k) {m = 2} (zero-lt-suc 1))

-- so the taps that are mirrored read of the reversal what the taps read of c
pub tapped-mirrored : (t : ℕ) (taps : List ℕ) (c : ℕ) → All (λ k. k < t) taps → tapped (mirrored t taps) (reversal t c) ≡ tapped taps c
unfolding tapped
tapped-mirrored t [] c a = refl
tapped-mirrored t (k ∷ taps) c a = ap₂ (λ (n : ℕ) (b : Bool). xor (bit n) b) (reversal-at t k c a.0) (tapped-mirrored t taps c a.1)

-- a counter of w bits: its reversal to t bits is that to w bits, moved up
pub reversal-moved : (t w c : ℕ) → w ≤ t → c < 2 ^ w → reversal t c ≡ reversal w c * 2 ^ (t - w)
reversal-moved t w c h l =
    let m : ℕ = t - w in
    let e : t ≡ w + m = omega arith in
    let none : reversal m (c / 2 ^ w) ≡ 0 = ap (reversal m) (div-eq_of_lt l) ∙ reversal-zero m in
    ap (λ (n : ℕ). reversal n c) e ∙ reversal-add w m c ∙ ap (λ (n : ℕ). reversal w c * 2 ^ m + n) none ∙ add-zero (reversal w c * 2 ^ m)

-- so it has nothing below the place t - w
pub reversal-low : (t w c : ℕ) → w ≤ t → c < 2 ^ w → reversal t c % 2 ^ (t - w) ≡ 0
reversal-low t w c h l = ap (λ (n : ℕ). n % 2 ^ (t - w)) (reversal-moved t w c h l) ∙ mul-mod_left (reversal w c) (2 ^ (t - w))

horner : (a b c d e f g h : ℕ)
    → a * 128 + b * 64 + c * 32 + d * 16 + e * 8 + f * 4 + g * 2 + h
    ≡ (((((((0 * 2 + a) * 2 + b) * 2 + c) * 2 + d) * 2 + e) * 2 + f) * 2 + g) * 2 + h
horner a b c d e f g h = omega arith

-- of a byte: the sum of its bits at the other end
pub reversal-byte : (b : ℕ)
    → b % 2 * 128 + b / 2 % 2 * 64 + b / 4 % 2 * 32 + b / 8 % 2 * 16 + b / 16 % 2 * 8 + b / 32 % 2 * 4 + b / 64 % 2 * 2 + b / 128 % 2
    ≡ reversal 8 b
unfolding reversal bits_of ordered low_bits low_value
reversal-byte b =
    simp (digit-bit, div-div-eq-div-mul)
    (horner (b % 2) (b / 2 % 2) (b / 4 % 2) (b / 8 % 2) (b / 16 % 2) (b / 32 % 2) (b / 64 % 2) (b / 128 % 2))

-- c_addition adds the counter and its reversal, each as t bits from bit 0 on
pub c_addition-reversal : (t c : ℕ) (s : List Bool) → c_addition t c s ≡ xor_into (xor_into s (bits_of low_first t c)) (bits_of low_first t (reversal t c))
unfolding c_addition
c_addition-reversal t c s = ap (xor_into (xor_into s (bits_of low_first t c))) (sym (reversal-bits t c))
