-- Slices that hold the same bytes, and slices of zeros: byte by byte, part by part, and in bits.
-- Assumes nothing.
use mathlib.Core.Path.{◌≡◌, refl, sym, ap, ap₂, ◌∙◌}
use mathlib.Core.Bool.{Bool, true, false, ◌&&◌, and_assoc, false≢true}
use mathlib.Core.List.{List, [], ◌∷◌, ◌++◌}
use mathlib.Core.Logic.{⊎_elim}
use Prim.Native.Nat.{ℕ, zero, suc, ◌+◌, ◌-◌, ◌/◌, ◌%◌, ◌^◌, ◌<◌}
use native.Mathlib.Nat.{mod-eq_of_lt}
use native.Mathlib.Omega.{arith}
use lib.Dec.{eqb}
use lib.ListN.{length, drop, get_or, replicate}
use borrow.Author.Tests.{eqb-true, eq-eqb, ne_eqb}
use Rattle.std.specs.List.{list_all}
use Rattle.standard.specs.Bits.{high_first, bits_of, bits_in}
use Rattle.standard.specs.Layout.{clear}
use Rattle.standard.proofs.Tests.{and-true, lt-or-le}
use Rattle.octets.specs.Numbers.{Bytes}
use Rattle.octets.specs.Slices.{same, zeros}
use Rattle.octets.proofs.ByteLaws.{drop-bytes}
use Rattle.octets.proofs.Clear.{clear-append, part-byte, width-set, width-clear}

-- ---- the same bytes

pub same-is : (x y : List ℕ) → same x y ≡ true → x ≡ y
same-is [] [] e = refl
same-is [] (b ∷ y) e = absurd (false≢true e)
same-is (a ∷ x) [] e = absurd (false≢true e)
same-is (a ∷ x) (b ∷ y) e =
    let both = and-true (eqb a b) (same x y) e in
    ap₂ ◌∷◌ (eqb-true a b both.0) (same-is x y both.1)

pub same_refl : (x : List ℕ) → same x x ≡ true
same_refl [] = refl
same_refl (a ∷ x) = rw (eq-eqb a a refl, same_refl x)

-- part by part
pub same-append : (a b c d : List ℕ) → length a ≡ length c → same (a ++ b) (c ++ d) ≡ (same a c && same b d)
same-append [] b [] d e = refl
same-append [] b (y ∷ c) d e = absurd (omega arith)
same-append (x ∷ a) b [] d e = absurd (omega arith)
same-append (x ∷ a) b (y ∷ c) d e =
    ap (λ (t : Bool). eqb x y && t) (same-append a b c d (omega arith)) ∙ sym (and_assoc (eqb x y) (same a c) (same b d))

-- ---- zeros

pub zeros-are : (xs : List ℕ) → zeros xs ≡ true → xs ≡ replicate (length xs) 0
zeros-are [] e = refl
zeros-are (x ∷ xs) e =
    let p = and-true (eqb x 0) (zeros xs) e in
    ap₂ ◌∷◌ (eqb-true x 0 p.0) (zeros-are xs p.1)

pub zeros-all : (n : ℕ) → zeros (replicate n 0) ≡ true
zeros-all zero = refl
zeros-all (suc n) = zeros-all n

pub zeros-drop : (n : ℕ) (x : List ℕ) → zeros x ≡ true → zeros (drop n x) ≡ true
zeros-drop zero x e = e
zeros-drop (suc n) [] e = refl
zeros-drop (suc n) (a ∷ x) e = zeros-drop n x (and-true (eqb a 0) (zeros x) e).1

pub zeros-same : (x y : List ℕ) → length x ≡ length y → zeros x ≡ true → zeros y ≡ true → same x y ≡ true
zeros-same [] [] l ex ey = refl
zeros-same [] (b ∷ y) l ex ey = absurd (omega arith)
zeros-same (a ∷ x) [] l ex ey = absurd (omega arith)
zeros-same (a ∷ x) (b ∷ y) l ex ey =
    let p = and-true (eqb a 0) (zeros x) ex in
    let q = and-true (eqb b 0) (zeros y) ey in
    rw (eqb-true a 0 p.0, eqb-true b 0 q.0) (zeros-same x y (omega arith) p.1 q.1)

-- as the code asks, by a test of each byte
pub list_all-zeros : (xs : List ℕ) → list_all (λ b. eqb b 0) xs ≡ zeros xs
list_all-zeros [] = refl
list_all-zeros (x ∷ xs) = ap (λ (rest : Bool). eqb x 0 && rest) (list_all-zeros xs)

-- in bits: none of a byte's is set exactly when it is 0
clear-byte : (x : ℕ) → x < 256 → clear (bits_of high_first 8 x) ≡ eqb x 0
clear-byte x h =
    ⊎_elim
    (λ l. let z : x ≡ 0 = omega arith in width-clear high_first 8 x (rw z) ∙ sym (eq-eqb x 0 z))
    (λ l. width-set high_first 8 x (λ e. omega (arith, sym (mod-eq_of_lt h) ∙ e)) ∙ sym (ne_eqb x 0 (λ e. omega arith)))
    (lt-or-le x 1)

pub clear-zero-bytes : (bytes : List ℕ) → Bytes bytes → clear (bits_in high_first bytes) ≡ zeros bytes
unfolding bits_in
clear-zero-bytes [] h = refl
clear-zero-bytes (x ∷ bytes) h =
    clear-append (bits_of high_first 8 x) _ ∙ ap₂ ◌&&◌ (clear-byte x (h 0)) (clear-zero-bytes bytes (λ i. h (suc i)))

-- from bit c on, which lies in the byte x: the lower bits of x, and the bytes after it
module _ (bytes : List ℕ) (c x : ℕ) (h : c / 8 < length bytes) (e : x ≡ get_or bytes (c / 8) 0) where
  apart : clear (drop c (bits_in high_first bytes)) ≡ (clear (bits_of high_first (8 - c % 8) x) && clear (bits_in high_first (drop (c / 8 + 1) bytes)))
  apart = rw e (part-byte bytes c h)

  pub part-set : (x % 2 ^ (8 - c % 8) ≡ 0 → ⊥) → clear (drop c (bits_in high_first bytes)) ≡ false
  part-set n = rw (apart, width-set high_first (8 - c % 8) x n)

  pub part-clear : Bytes bytes → x % 2 ^ (8 - c % 8) ≡ 0 → clear (drop c (bits_in high_first bytes)) ≡ zeros (drop (c / 8 + 1) bytes)
  part-clear h z = rw (apart, width-clear high_first (8 - c % 8) x z) (clear-zero-bytes (drop (c / 8 + 1) bytes) (drop-bytes (c / 8 + 1) bytes h))
