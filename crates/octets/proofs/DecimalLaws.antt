-- A number in decimal: digit by digit, never longer than its size allows, and read back as itself.
-- Assumes nothing.
use mathlib.Core.Path.{◌≡◌, refl, sym, ap, ◌∙◌}
use mathlib.Core.List.{List, [], ◌∷◌, ◌++◌, foldl-append}
use mathlib.Core.Logic.{⊎_elim}
use Prim.Native.Nat.{ℕ, zero, suc, ◌+◌, ◌-◌, ◌*◌, ◌/◌, ◌%◌, ◌^◌, ◌≤◌, ◌<◌}
use native.Mathlib.Nat.{not-suc-le-zero, pow-zero, pow-suc}
use native.Mathlib.Omega.{arith}
use lib.ListN.{length, length-append}
use borrow.Author.Tests.{lt-ltb, le-ltb}
use Rattle.std.specs.Option.{IfNone, IfSome, unwrap_or}
use Rattle.std.specs.Prelude.{Option, None, Some}
use Rattle.standard.proofs.Tests.{lt-or-le}
use Rattle.octets.specs.Promises.{DecimalRead}
use Rattle.octets.specs.Text.{digit_code, decimal_below, decimal, from_decimal}

-- ---- digit by digit

below-digit : (w n : ℕ) → n < 10 → decimal_below (suc w) n ≡ digit_code n ∷ []
unfolding decimal_below
below-digit w n h = rw (lt-ltb n 10 h)

below_rest : (w n : ℕ) → 10 ≤ n → decimal_below (suc w) n ≡ decimal_below w (n / 10) ++ digit_code (n % 10) ∷ []
unfolding decimal_below
below_rest w n h = rw (le-ltb n 10 h)

-- every bound gives the same digits
below-same : (w v n : ℕ) → n < w → n < v → decimal_below w n ≡ decimal_below v n
below-same zero v n hw hv = absurd (not-suc-le-zero hw)
below-same (suc w) zero n hw hv = absurd (not-suc-le-zero hv)
below-same (suc w) (suc v) n hw hv =
    ⊎_elim
    (λ l. below-digit w n l ∙ sym (below-digit v n l))
    (λ l. below_rest w n l ∙ ap (λ (text : List ℕ). text ++ digit_code (n % 10) ∷ []) (below-same w v (n / 10) (omega arith) (omega arith)) ∙ sym (below_rest v n l))
    (lt-or-le n 10)

pub decimal_digit : (n : ℕ) → n < 10 → decimal n ≡ digit_code n ∷ []
unfolding decimal
decimal_digit n h = below-digit n n h

pub decimal-rest : (n : ℕ) → 10 ≤ n → decimal n ≡ decimal (n / 10) ++ digit_code (n % 10) ∷ []
unfolding decimal
decimal-rest n h =
    below_rest n n h ∙ ap (λ (text : List ℕ). text ++ digit_code (n % 10) ∷ []) (below-same n (suc (n / 10)) (n / 10) (omega arith) (omega arith))

-- ---- lengths

pub length-digit : (n : ℕ) → n < 10 → length (decimal n) ≡ 1
length-digit n h = ap length (decimal_digit n h)

pub length_rest : (n : ℕ) → 10 ≤ n → length (decimal n) ≡ length (decimal (n / 10)) + 1
length_rest n h = ap length (decimal-rest n h) ∙ length-append (decimal (n / 10)) (digit_code (n % 10) ∷ [])

-- a number from 10 to the w on, and below ten times that, has w digits and one more
pub length-power : (w n : ℕ) → 10 ^ w ≤ n → n < 10 * 10 ^ w → length (decimal n) ≡ w + 1
length-power zero n h l = length-digit n (omega (arith, pow-zero 10))
length-power (suc w) n h l =
    length_rest n (omega (arith, pow-suc 10 w)) ∙ omega (arith, length-power w (n / 10) (omega (arith, pow-suc 10 w)) (omega (arith, pow-suc 10 w)))

-- as the code counts them, by the logarithm that a number above 0 has
pub length-log : (n : ℕ) (log : Option ℕ) → IfNone log (n ≡ 0) → IfSome log (λ w. 10 ^ w ≤ n) → IfSome log (λ w. n < 10 * 10 ^ w) → 1 + unwrap_or log 0 ≡ length (decimal n)
length-log n None none low high = omega (arith, length-digit n (omega arith))
length-log n (Some w) none low high = omega (arith, length-power w n low high)

-- a number below 10 to the w, w above 0, has at most w digits
pub length-decimal : (w n : ℕ) → n < 10 ^ suc w → length (decimal n) ≤ suc w
length-decimal zero n h = omega (arith, length-digit n (omega (arith, pow-suc 10 0, pow-zero 10)))
length-decimal (suc w) n h =
    ⊎_elim
    (λ l. omega (arith, length-digit n l))
    (λ l. omega (arith, length_rest n l, length-decimal w (n / 10) (omega (arith, pow-suc 10 (suc w)))))
    (lt-or-le n 10)

-- one of 32 bits has at most ten
pub decimal-short : (n : ℕ) → n < 4294967296 → length (decimal n) ≤ 10
decimal-short n h = length-decimal 9 n (omega arith)

-- ---- reading back

from_decimal-digit : (d : ℕ) → from_decimal (digit_code d ∷ []) ≡ d
unfolding from_decimal
from_decimal-digit d = omega arith

from_decimal-snoc : (text : List ℕ) (d : ℕ) → from_decimal (text ++ digit_code d ∷ []) ≡ from_decimal text * 10 + d
unfolding from_decimal
from_decimal-snoc text d = foldl-append (λ (n code : ℕ). n * 10 + (code - 48)) 0 text (digit_code d ∷ []) ∙ omega arith

from_decimal-below : (w n : ℕ) → n < w → from_decimal (decimal n) ≡ n
from_decimal-below zero n h = absurd (not-suc-le-zero h)
from_decimal-below (suc w) n h =
    ⊎_elim
    (λ l. ap from_decimal (decimal_digit n l) ∙ from_decimal-digit n)
    (λ l. ap from_decimal (decimal-rest n l) ∙ from_decimal-snoc (decimal (n / 10)) (n % 10) ∙ omega (arith, from_decimal-below w (n / 10) (omega arith)))
    (lt-or-le n 10)

pub from_decimal-decimal : DecimalRead
from_decimal-decimal n = from_decimal-below (suc n) n (omega arith)

-- Two different numbers never have the same digits.
pub decimal-tells : (n m : ℕ) → decimal n ≡ decimal m → n ≡ m
decimal-tells n m e = sym (from_decimal-decimal n) ∙ ap from_decimal e ∙ from_decimal-decimal m

-- ---- known values: 0, 9, 10 and 512

pub decimal-known : (decimal 0 ≡ 48 ∷ []) × (decimal 9 ≡ 57 ∷ []) × (decimal 10 ≡ 49 ∷ 48 ∷ []) × (decimal 512 ≡ 53 ∷ 49 ∷ 50 ∷ [])
unfolding decimal decimal_below
decimal-known = (refl, refl, refl, refl)
