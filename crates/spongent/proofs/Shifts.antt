-- A number shifted up by i bits, seen from the bit j on: where it lies, and where there is nothing of it.
-- Assumes nothing.
use mathlib.Core.Path.{◌≡◌, sym, ap, ◌∙◌}
use Prim.Native.Nat.{ℕ, ◌+◌, ◌-◌, ◌*◌, ◌/◌, ◌%◌, ◌^◌, ◌≤◌, ◌<◌}
use native.Mathlib.Nat.{mul_assoc, mul_comm, mul-mod_left, div-eq_of_lt, lt_of_lt_of_le}
use native.Mathlib.Omega.{arith}
use lib.Pow.{pow-add, pow_mono, shl-shr, shr-shr, field, mod-mod-pow}
use lib.Bits.{bit_xor, xor_shr, xor_mod}

pub shifted_down : (x i j : ℕ) → i ≤ j → x * 2 ^ i / 2 ^ j ≡ x / 2 ^ (j - i)
shifted_down x i j h =
    let e : i + (j - i) ≡ j = omega arith in
    ap (λ (l : ℕ). x * 2 ^ i / 2 ^ l) (sym e) ∙ sym (shr-shr (x * 2 ^ i) i (j - i)) ∙ ap (λ (y : ℕ). y / 2 ^ (j - i)) (shl-shr x i)

pub shifted-both : (x a i j : ℕ) → x * 2 ^ (a + i) / 2 ^ (a + j) ≡ x * 2 ^ i / 2 ^ j
shifted-both x a i j =
    sym (shr-shr (x * 2 ^ (a + i)) a j)
    ∙ ap (λ (y : ℕ). y / 2 ^ j) (ap (λ (y : ℕ). y / 2 ^ a) (ap (λ (y : ℕ). x * y) (pow-add 2 a i ∙ mul_comm (2 ^ a) (2 ^ i)) ∙ sym (mul_assoc x (2 ^ i) (2 ^ a))) ∙ shl-shr (x * 2 ^ i) a)

pub shifted_past : (x k i j : ℕ) → x < 2 ^ k → i + k ≤ j → x * 2 ^ i / 2 ^ j ≡ 0
shifted_past x k i j h l = shifted_down x i j (omega arith) ∙ div-eq_of_lt (lt_of_lt_of_le h (pow_mono (omega arith)))

pub shifted-before : (x d i j : ℕ) → j + d ≤ i → x * 2 ^ i / 2 ^ j % 2 ^ d ≡ 0
shifted-before x d i j h =
    let a : ℕ = i - (j + d) in
    let e : a + d + j ≡ i = omega arith in
    let up : x * 2 ^ i ≡ x * 2 ^ a * 2 ^ d * 2 ^ j =
    ap (λ (l : ℕ). x * 2 ^ l) (sym e) ∙ ap (λ (l : ℕ). x * l) (pow-add 2 (a + d) j) ∙ sym (mul_assoc x (2 ^ (a + d)) (2 ^ j))
    ∙ ap (λ (l : ℕ). l * 2 ^ j) (ap (λ (l : ℕ). x * l) (pow-add 2 a d) ∙ sym (mul_assoc x (2 ^ a) (2 ^ d))) in
    ap (λ (y : ℕ). y / 2 ^ j % 2 ^ d) up ∙ ap (λ (y : ℕ). y % 2 ^ d) (shl-shr (x * 2 ^ a * 2 ^ d) j) ∙ mul-mod_left (x * 2 ^ a) (2 ^ d)

-- what a mask of k bits leaves of d bits below it
pub masked : (x k j d : ℕ) → j + d ≤ k → x % 2 ^ k / 2 ^ j % 2 ^ d ≡ x / 2 ^ j % 2 ^ d
masked x k j d h =
    let a : ℕ = k - (j + d) in
    let e : a + d + j ≡ k = omega arith in
    ap (λ (l : ℕ). x % 2 ^ l / 2 ^ j % 2 ^ d) (sym e) ∙ ap (λ (y : ℕ). y % 2 ^ d) (field x (a + d) j) ∙ mod-mod-pow (x / 2 ^ j) a d

-- d bits of an xor
pub xored : (x y j d : ℕ) → bit_xor x y / 2 ^ j % 2 ^ d ≡ bit_xor (x / 2 ^ j % 2 ^ d) (y / 2 ^ j % 2 ^ d)
xored x y j d = ap (λ (z : ℕ). z % 2 ^ d) (xor_shr x y j) ∙ xor_mod (x / 2 ^ j) (y / 2 ^ j) d
