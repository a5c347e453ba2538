-- When no bit of bytes is set, from a place on: byte by byte, and in either order of a byte's bits.
-- Assumes nothing.
use mathlib.Core.Path.{◌≡◌, refl, sym, ap, ◌∙◌}
use mathlib.Core.Bool.{Bool, true, false, not, ◌&&◌, and_comm}
use mathlib.Core.List.{List, [], ◌∷◌, ◌++◌, reverse, reverse-cons}
use mathlib.Core.Logic.{◌⊎◌, ⊎_elim}
use Prim.Native.Nat.{ℕ, zero, suc, ◌+◌, ◌-◌, ◌*◌, ◌/◌, ◌%◌, ◌^◌, ◌≤◌, ◌<◌}
use native.Mathlib.Omega.{arith}
use native.Mathlib.Numerals.{add-one}
use lib.ListN.{length, drop, get_or, replicate, drop_of_length-le}
use lib.Seq.{drop-cons, drop-append-le, drop-drop}
use Rattle.standard.specs.Bits.{Order, low_first, high_first, low_bits, low_value, ordered, bits_of, value_of, bits_in}
use Rattle.standard.proofs.BitLaws.{length-bits_of, length-bits_in, bits_in-drop, bits_of-value_of, zeros_of, reverse-replicate}
use Rattle.standard.proofs.HighBits.{value-mod, high-drop}
use Rattle.standard.specs.Layout.{clear}

pub clear-append : (xs ys : List Bool) → clear (xs ++ ys) ≡ (clear xs && clear ys)
clear-append [] ys = refl
clear-append (true ∷ xs) ys = refl
clear-append (false ∷ xs) ys = clear-append xs ys

-- clear bits are zeros
pub clear-zeros : (bs : List Bool) → clear bs ≡ true → bs ≡ replicate (length bs) false
clear-zeros [] e = refl
clear-zeros (true ∷ bs) e = cc
clear-zeros (false ∷ bs) e = ap (λ (l : List Bool). false ∷ l) (clear-zeros bs e)

pub low_zeros : (n : ℕ) → low_value (replicate n false) ≡ 0
unfolding low_value
low_zeros zero = refl
low_zeros (suc n) = ap (λ (x : ℕ). x * 2 + 0) (low_zeros n)

pub zeros-clear : (n : ℕ) → clear (replicate n false) ≡ true
zeros-clear zero = refl
zeros-clear (suc n) = zeros-clear n

-- ---- the w lowest bits of a number are clear exactly when they are worth 0

zeros-value : (o : Order) (w : ℕ) → value_of o (replicate w false) ≡ 0
unfolding value_of ordered
zeros-value low_first w = low_zeros w
zeros-value high_first w = rw (reverse-replicate, low_zeros)

zero_clear : (o : Order) (w : ℕ) → clear (bits_of o w 0) ≡ true
unfolding bits_of ordered
zero_clear low_first w = rw (zeros_of, zeros-clear)
zero_clear high_first w = rw (zeros_of, reverse-replicate, zeros-clear)

clear_zero : (o : Order) (w x : ℕ) → clear (bits_of o w x) ≡ true → x % 2 ^ w ≡ 0
clear_zero o w x e = rw (← value-mod o w x, clear-zeros (bits_of o w x) e, length-bits_of, zeros-value)

pub width-clear : (o : Order) (w x : ℕ) → x % 2 ^ w ≡ 0 → clear (bits_of o w x) ≡ true
width-clear o w x e = rw (← bits_of-value_of o w (bits_of o w x) (length-bits_of o w x), value-mod, e, zero_clear)

pub width-set : (o : Order) (w x : ℕ) → (x % 2 ^ w ≡ 0 → ⊥) → clear (bits_of o w x) ≡ false
width-set o w x n = go (clear (bits_of o w x)) refl
  where
    go : (b : Bool) → clear (bits_of o w x) ≡ b → clear (bits_of o w x) ≡ false
    go true e = absurd (n (clear_zero o w x e))
    go false e = e

-- ---- byte by byte

-- the bits of the bytes from i on, those of the first apart
pub first_byte : (o : Order) (s : List ℕ) (i : ℕ) → i < length s → bits_in o (drop i s) ≡ bits_of o 8 (get_or s i 0) ++ bits_in o (drop (i + 1) s)
unfolding bits_in
first_byte o s i h = rw (add-one, drop-cons s i 0)

-- ---- from a bit on

pub past-bit : (o : Order) (s : List ℕ) (c : ℕ) → length s ≤ c / 8 → clear (drop c (bits_in o s)) ≡ true
past-bit o s c h = ap clear (drop_of_length-le (bits_in o s) {i = c} (omega (arith, length-bits_in o s)))

pub whole-byte : (o : Order) (s : List ℕ) (c : ℕ) → c % 8 ≡ 0 → clear (drop c (bits_in o s)) ≡ clear (bits_in o (drop (c / 8) s))
whole-byte o s c h =
    let e : c ≡ 8 * (c / 8) = omega arith in
    ap (λ (n : ℕ). clear (drop n (bits_in o s))) e ∙ rw bits_in-drop

pub part-byte : (s : List ℕ) (c : ℕ) → c / 8 < length s
    → clear (drop c (bits_in high_first s)) ≡ (clear (bits_of high_first (8 - c % 8) (get_or s (c / 8) 0)) && clear (bits_in high_first (drop (c / 8 + 1) s)))
part-byte s c l =
    let x : ℕ = get_or s (c / 8) 0 in
    let e : c ≡ 8 * (c / 8) + c % 8 = omega arith in
    let width : 8 ≡ c % 8 + (8 - c % 8) = omega arith in
    let low : drop (c % 8) (bits_of high_first 8 x) ≡ bits_of high_first (8 - c % 8) x =
    ap (λ (w : ℕ). drop (c % 8) (bits_of high_first w x)) width ∙ high-drop (c % 8) (8 - c % 8) x in
    ap (λ (n : ℕ). clear (drop n (bits_in high_first s))) e
    ∙ rw (← drop-drop, bits_in-drop, first_byte high_first s (c / 8) l, drop-append-le (c % 8) (bits_of high_first 8 x) _ (omega (arith, length-bits_of high_first 8 x)), low, clear-append)

-- ---- in either order of a byte's bits

clear-reverse : (bs : List Bool) → clear (reverse bs) ≡ clear bs
clear-reverse [] = refl
clear-reverse (b ∷ bs) =
    rw (reverse-cons, clear-append, clear-reverse bs, and_comm (clear bs), and_comm (not b) true)

clear-byte : (o : Order) (x : ℕ) → clear (bits_of o 8 x) ≡ clear (bits_of high_first 8 x)
unfolding bits_of ordered
clear-byte low_first x = sym (clear-reverse (low_bits 8 x))
clear-byte high_first x = refl

clear-bytes : (o : Order) (s : List ℕ) → clear (bits_in o s) ≡ clear (bits_in high_first s)
unfolding bits_in
clear-bytes o [] = refl
clear-bytes o (x ∷ s) =
    rw (clear-append (bits_of o 8 x), clear-append (bits_of high_first 8 x), clear-byte, clear-bytes o s)

pub clear-order : (o : Order) (s : List ℕ) (c : ℕ) → (high_first ≡ o) ⊎ (c % 8 ≡ 0) → clear (drop c (bits_in o s)) ≡ clear (drop c (bits_in high_first s))
clear-order o s c w =
    ⊎_elim (λ e. rw e) (λ e. rw (whole-byte o s c e, whole-byte high_first s c e, clear-bytes)) w
