-- The field's laws: its products are cells, and are linear in the second factor; so is a sum of products.
-- Assumes nothing.
use mathlib.Core.Path.{◌≡◌, refl, sym, ap, ◌∙◌}
use mathlib.Core.Bool.{Bool, true, false, not, cond}
use mathlib.Core.List.{List, [], ◌∷◌, ◌++◌, reverse, reverse-cons, reverse-reverse}
use Prim.Native.Nat.{ℕ, zero, suc, ◌+◌, ◌-◌, ◌*◌, ◌/◌, ◌%◌, ◌^◌, ◌≤◌, ◌<◌}
use native.Mathlib.Nat.{zero-mul, zero-add, suc-ne-zero, suc_inj}
use native.Mathlib.Omega.{arith}
use native.Mathlib.Numerals.{add-one}
use lib.Arith.{lt-one}
use lib.Dec.{ltb, eqb}
use lib.Bits.{bit_xor, xor_lt, xor_block, xor_zero_l, xor_zero_r, xor_self, xor_comm}
use lib.Pow.{pow_pos, shr_lt}
use lib.ListN.{length, length-reverse}
use borrow.Author.Tests.{ltb-true, ltb-false, lt-ltb, le-ltb}
use Rattle.standard.specs.Field.{double, times, mul, dot}
use Rattle.standard.proofs.Xor.{xor_assoc, xor-exchange, xor-double}
use Rattle.standard.proofs.Undo.{All}

cond-lt : (b : Bool) (x y n : ℕ) → x < n → y < n → cond b x y < n
cond-lt true x y n h k = h
cond-lt false x y n h k = k

-- a sum of two terms fits where both fit, or neither
abbrev agree : Bool → Bool → Bool
agree true b = b
agree false b = not b

-- ---- products of numbers below 2^s, modulo a polynomial of s + 1 bits

module _ (s poly : ℕ) (low : 2 ^ s ≤ poly) (high : poly < 2 ^ s * 2) where
  -- a number of s + 1 bits, in its highest bit and the rest
  top_bit : (x : ℕ) → 2 ^ s ≤ x → x ≡ 1 * 2 ^ s + (x - 2 ^ s)
  top_bit x h = omega arith

  both-over : (x y : ℕ) → 2 ^ s ≤ x → x < 2 ^ s * 2 → 2 ^ s ≤ y → y < 2 ^ s * 2 → bit_xor x y < 2 ^ s
  both-over x y lx hx ly hy =
      let block = xor_block s 1 1 (x - 2 ^ s) (y - 2 ^ s) (omega arith) (omega arith) in
      rw (top_bit x lx, top_bit y ly, block, zero-mul, zero-add) (xor_lt s (x - 2 ^ s) (y - 2 ^ s) (omega arith) (omega arith))

  one-over : (x y : ℕ) → x < 2 ^ s → 2 ^ s ≤ y → y < 2 ^ s * 2 → 2 ^ s ≤ bit_xor x y
  one-over x y hx ly hy =
      let e : bit_xor (0 * 2 ^ s + x) (1 * 2 ^ s + (y - 2 ^ s)) ≡ 1 * 2 ^ s + bit_xor x (y - 2 ^ s) = xor_block s 0 1 x (y - 2 ^ s) hx (omega arith) in
      omega (arith, rw (← top_bit y ly, zero-mul, zero-add) at e)

  fits_xor : (x y : ℕ) → x < 2 ^ s * 2 → y < 2 ^ s * 2 → (a b : Bool) → ltb x (2 ^ s) ≡ a → ltb y (2 ^ s) ≡ b → ltb (bit_xor x y) (2 ^ s) ≡ agree a b
  fits_xor x y hx hy true true e f = lt-ltb (bit_xor x y) (2 ^ s) (xor_lt s x y (ltb-true x (2 ^ s) e) (ltb-true y (2 ^ s) f))
  fits_xor x y hx hy true false e f = le-ltb (bit_xor x y) (2 ^ s) (one-over x y (ltb-true x (2 ^ s) e) (ltb-false y (2 ^ s) f) hy)
  fits_xor x y hx hy false true e f =
      le-ltb (bit_xor x y) (2 ^ s) (rw (xor_comm x y) (one-over y x (ltb-true y (2 ^ s) f) (ltb-false x (2 ^ s) e) hx))
  fits_xor x y hx hy false false e f =
      lt-ltb (bit_xor x y) (2 ^ s) (both-over x y (ltb-false x (2 ^ s) e) hx (ltb-false y (2 ^ s) f) hy)

  -- what is added to a double: nothing where it fits, and else the polynomial
  abbrev carry : Bool → ℕ
  carry b = cond b 0 poly

  carry-xor : (a b : Bool) → carry (agree a b) ≡ bit_xor (carry a) (carry b)
  carry-xor true true = refl
  carry-xor true false = sym (xor_zero_l poly)
  carry-xor false true = sym (xor_zero_r poly)
  carry-xor false false = sym (xor_self poly)

  double-carry : (x : ℕ) → double (2 ^ s) poly x ≡ bit_xor (x * 2) (carry (ltb (x * 2) (2 ^ s)))
  unfolding double
  double-carry x = go (ltb (x * 2) (2 ^ s))
    where
      go : (b : Bool) → cond b (x * 2) (bit_xor (x * 2) poly) ≡ bit_xor (x * 2) (cond b 0 poly)
      go true = sym (xor_zero_r (x * 2))
      go false = refl

  pub double-xor : (x y : ℕ) → x < 2 ^ s → y < 2 ^ s → double (2 ^ s) poly (bit_xor x y) ≡ bit_xor (double (2 ^ s) poly x) (double (2 ^ s) poly y)
  double-xor x y hx hy =
      let a : Bool = ltb (x * 2) (2 ^ s) in
      let b : Bool = ltb (y * 2) (2 ^ s) in
      rw (double-carry (bit_xor x y), xor-double, fits_xor (x * 2) (y * 2) (omega arith) (omega arith) a b refl refl, carry-xor a b, xor-exchange, ← double-carry x, ← double-carry y)

  pub double-lt : (x : ℕ) → x < 2 ^ s → double (2 ^ s) poly x < 2 ^ s
  unfolding double
  double-lt x h = go (ltb (x * 2) (2 ^ s)) refl
    where
      go : (b : Bool) → ltb (x * 2) (2 ^ s) ≡ b → cond b (x * 2) (bit_xor (x * 2) poly) < 2 ^ s
      go true e = ltb-true (x * 2) (2 ^ s) e
      go false e = both-over (x * 2) poly (ltb-false (x * 2) (2 ^ s) e) (omega arith) low high

  times-lt : (n a x : ℕ) → x < 2 ^ s → times (2 ^ s) poly n a x < 2 ^ s
  unfolding times
  times-lt zero a x h = pow_pos s
  times-lt (suc n) a x h =
      xor_lt s (cond (eqb (a % 2) 1) x 0) (times (2 ^ s) poly n (a / 2) (double (2 ^ s) poly x))
      (cond-lt (eqb (a % 2) 1) x 0 (2 ^ s) h (pow_pos s))
      (times-lt n (a / 2) (double (2 ^ s) poly x) (double-lt x h))

  pub mul-lt : (a x : ℕ) → x < 2 ^ s → mul (2 ^ s) poly a x < 2 ^ s
  unfolding mul
  mul-lt a x h = times-lt 8 a x h

  cond-xor : (b : Bool) (x y : ℕ) → cond b (bit_xor x y) 0 ≡ bit_xor (cond b x 0) (cond b y 0)
  cond-xor true x y = refl
  cond-xor false x y = refl

  times-xor : (n a x y : ℕ) → x < 2 ^ s → y < 2 ^ s
      → times (2 ^ s) poly n a (bit_xor x y) ≡ bit_xor (times (2 ^ s) poly n a x) (times (2 ^ s) poly n a y)
  unfolding times
  times-xor zero a x y hx hy = refl
  times-xor (suc n) a x y hx hy =
      rw (cond-xor (eqb (a % 2) 1) x y, double-xor x y hx hy, times-xor n (a / 2) _ _ (double-lt x hx) (double-lt y hy), xor-exchange (cond (eqb (a % 2) 1) x 0) (cond (eqb (a % 2) 1) y 0))

  pub mul-xor : (a x y : ℕ) → x < 2 ^ s → y < 2 ^ s → mul (2 ^ s) poly a (bit_xor x y) ≡ bit_xor (mul (2 ^ s) poly a x) (mul (2 ^ s) poly a y)
  unfolding mul
  mul-xor a x y hx hy = times-xor 8 a x y hx hy

  -- 0 is 0 + 0
  pub mul-zero : (a : ℕ) → mul (2 ^ s) poly a 0 ≡ 0
  mul-zero a = mul-xor a 0 0 (pow_pos s) (pow_pos s) ∙ xor_self (mul (2 ^ s) poly a 0)

  -- ---- the doubling of a product

  pub double-zero : double (2 ^ s) poly 0 ≡ 0
  double-zero = double-xor 0 0 (pow_pos s) (pow_pos s) ∙ xor_self (double (2 ^ s) poly 0)

  double-cond : (b : Bool) (x : ℕ) → double (2 ^ s) poly (cond b x 0) ≡ cond b (double (2 ^ s) poly x) 0
  double-cond true x = refl
  double-cond false x = double-zero

  times-double : (n a x : ℕ) → x < 2 ^ s → times (2 ^ s) poly n a (double (2 ^ s) poly x) ≡ double (2 ^ s) poly (times (2 ^ s) poly n a x)
  unfolding times
  times-double zero a x h = sym double-zero
  times-double (suc n) a x h =
      let b : Bool = eqb (a % 2) 1 in
      let y : ℕ = double (2 ^ s) poly x in
      rw (← double-cond b x, times-double n (a / 2) y (double-lt x h), double-xor (cond b x 0) _ (cond-lt b x 0 (2 ^ s) h (pow_pos s)) (times-lt n (a / 2) y (double-lt x h)))

  pub mul-double : (a x : ℕ) → x < 2 ^ s → mul (2 ^ s) poly a (double (2 ^ s) poly x) ≡ double (2 ^ s) poly (mul (2 ^ s) poly a x)
  unfolding mul
  mul-double a x h = times-double 8 a x h

  -- ---- sums of products

  pub dot-lt : (zs xs : List ℕ) → All (λ x. x < 2 ^ s) xs → dot (2 ^ s) poly zs xs < 2 ^ s
  unfolding dot
  dot-lt [] xs a = pow_pos s
  dot-lt (z ∷ zs) [] a = pow_pos s
  dot-lt (z ∷ zs) (x ∷ xs) a =
      xor_lt s (mul (2 ^ s) poly z x) (dot (2 ^ s) poly zs xs) (mul-lt z x a.0) (dot-lt zs xs a.1)

-- each product by an entry of `us` is u times the product by the same entry of `zs`
abbrev pub Scaled : ℕ → ℕ → ℕ → List ℕ → List ℕ → Type 0
Scaled top poly u [] [] = Unit {0}
Scaled top poly u [] (b ∷ us) = ⊥
Scaled top poly u (a ∷ zs) [] = ⊥
Scaled top poly u (a ∷ zs) (b ∷ us) = ((x : ℕ) → x < top → mul top poly b x ≡ mul top poly u (mul top poly a x)) × Scaled top poly u zs us

module _ (s poly : ℕ) (low : 2 ^ s ≤ poly) (high : poly < 2 ^ s * 2) where
  pub dot-scaled : (u : ℕ) (zs us xs : List ℕ) → Scaled (2 ^ s) poly u zs us → All (λ x. x < 2 ^ s) xs
      → dot (2 ^ s) poly us xs ≡ mul (2 ^ s) poly u (dot (2 ^ s) poly zs xs)
  unfolding dot
  dot-scaled u [] [] xs h a = sym (mul-zero s poly low high u)
  dot-scaled u [] (b ∷ us) xs h a = absurd h
  dot-scaled u (z ∷ zs) [] xs h a = absurd h
  dot-scaled u (z ∷ zs) (b ∷ us) [] h a = sym (mul-zero s poly low high u)
  dot-scaled u (z ∷ zs) (b ∷ us) (x ∷ xs) h a =
      let small = mul-lt s poly low high z x a.0 in
      rw (h.0 x a.0, dot-scaled u zs us xs h.1 a.1, mul-xor s poly low high u _ _ small (dot-lt s poly low high zs xs a.1))

module _ (top poly : ℕ) where
  pub dot-snoc : (zs xs : List ℕ) (z x : ℕ) → length zs ≡ length xs → dot top poly (zs ++ (z ∷ [])) (xs ++ (x ∷ [])) ≡ bit_xor (dot top poly zs xs) (mul top poly z x)
  unfolding dot
  dot-snoc [] [] z x e = xor_zero_r (mul top poly z x)
  dot-snoc [] (y ∷ xs) z x e = absurd (suc-ne-zero (length xs) (sym e))
  dot-snoc (w ∷ zs) [] z x e = absurd (suc-ne-zero (length zs) e)
  dot-snoc (w ∷ zs) (y ∷ xs) z x e = rw (dot-snoc zs xs z x (suc_inj e), xor_assoc)

  dot-reverses : (zs xs : List ℕ) → length zs ≡ length xs → dot top poly (reverse zs) (reverse xs) ≡ dot top poly zs xs
  unfolding dot
  dot-reverses [] [] e = refl
  dot-reverses [] (x ∷ xs) e = absurd (suc-ne-zero (length xs) (sym e))
  dot-reverses (z ∷ zs) [] e = absurd (suc-ne-zero (length zs) e)
  dot-reverses (z ∷ zs) (x ∷ xs) e =
      let l : length (reverse zs) ≡ length (reverse xs) = length-reverse zs ∙ suc_inj e ∙ sym (length-reverse xs) in
      rw (reverse-cons z zs, reverse-cons x xs, dot-snoc, dot-reverses zs xs (suc_inj e)) (xor_comm (dot top poly zs xs) (mul top poly z x))

  pub dot-reverse : (zs xs : List ℕ) → length zs ≡ length xs → dot top poly zs (reverse xs) ≡ dot top poly (reverse zs) xs
  dot-reverse zs xs e = rw (← dot-reverses (reverse zs) xs (length-reverse zs ∙ e), reverse-reverse)

  -- ---- the bits of the first factor, one by one

  times_none : (n x : ℕ) → times top poly n 0 x ≡ 0
  unfolding times
  times_none zero x = refl
  times_none (suc n) x = times_none n (double top poly x)

  -- bits above the highest that is set add nothing
  times-enough : (n a x : ℕ) → a < 2 ^ n → times top poly (suc n) a x ≡ times top poly n a x
  unfolding times
  times-enough zero a x h = ap (λ (b : ℕ). times top poly 1 b x) (lt-one h)
  times-enough (suc n) a x h = rw (times-enough n (a / 2) (double top poly x) (shr_lt n 1 (rw (← add-one n) at h)))

  pub mul-none : (x : ℕ) → mul top poly 0 x ≡ 0
  unfolding mul
  mul-none x = times_none 8 x

  -- one bit of the first factor taken off
  pub mul-step : (a x : ℕ) → a < 256 → mul top poly a x ≡ bit_xor (cond (eqb (a % 2) 1) x 0) (mul top poly (a / 2) (double top poly x))
  unfolding mul times
  mul-step a x h = rw (times-enough 7 (a / 2) (double top poly x) (omega arith))
