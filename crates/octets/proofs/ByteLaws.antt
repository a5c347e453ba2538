-- Lists of bytes: parts of one, one after the other, a number in bytes, and zeros.
-- Assumes nothing.
use mathlib.Core.List.{List, [], ◌∷◌, ◌++◌}
use Prim.Native.Nat.{ℕ, zero, suc, ◌/◌, ◌%◌, ◌<◌}
use native.Mathlib.Omega.{arith}
use lib.ListN.{take, drop, replicate}
use lib.Seq.{get_or-drop}
use Rattle.octets.specs.Numbers.{Bytes, in_bytes}

pub take-bytes : (n : ℕ) (xs : List ℕ) → Bytes xs → Bytes (take n xs)
take-bytes zero xs h i = omega arith
take-bytes (suc n) [] h i = omega arith
take-bytes (suc n) (x ∷ xs) h zero = h 0
take-bytes (suc n) (x ∷ xs) h (suc i) = take-bytes n xs (λ j. h (suc j)) i

pub drop-bytes : (n : ℕ) (xs : List ℕ) → Bytes xs → Bytes (drop n xs)
drop-bytes n xs h i = rw get_or-drop (h _)

pub cons-bytes : (x : ℕ) (xs : List ℕ) → x < 256 → Bytes xs → Bytes (x ∷ xs)
cons-bytes x xs l h zero = l
cons-bytes x xs l h (suc i) = h i

pub append-bytes : (xs ys : List ℕ) → Bytes xs → Bytes ys → Bytes (xs ++ ys)
append-bytes [] ys hx hy i = hy i
append-bytes (x ∷ xs) ys hx hy zero = hx 0
append-bytes (x ∷ xs) ys hx hy (suc i) = append-bytes xs ys (λ j. hx (suc j)) hy i

pub number-bytes : (w n : ℕ) → Bytes (in_bytes w n)
unfolding in_bytes
number-bytes zero n i = omega arith
number-bytes (suc w) n i = append-bytes (in_bytes w (n / 256)) (n % 256 ∷ []) (number-bytes w (n / 256)) (cons-bytes (n % 256) [] (omega arith) (λ j. omega arith)) i

pub zero-bytes : (n : ℕ) → Bytes (replicate n 0)
zero-bytes zero i = omega arith
zero-bytes (suc n) i = cons-bytes 0 (replicate n 0) (omega arith) (zero-bytes n) i
