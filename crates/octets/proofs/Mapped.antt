-- A list whose first i elements have been replaced, one after the other: what a loop over an array makes.
-- Assumes nothing.
use mathlib.Core.Path.{◌≡◌, refl, ap}
use mathlib.Core.List.{List, [], ◌∷◌, ◌++◌, map}
use Prim.Native.Nat.{ℕ, zero, suc, ◌<◌}
use native.Mathlib.Nat.{le_of_suc-le-suc, not-suc-le-zero}
use lib.ListN.{length, get_or, take, drop, set}

abbrev pub mapped : (ℕ → ℕ) → ℕ → List ℕ → List ℕ
mapped f i s = map f (take i s) ++ drop i s

pub length-mapped : (f : ℕ → ℕ) (i : ℕ) (s : List ℕ) → length (mapped f i s) ≡ length s
length-mapped f zero s = refl
length-mapped f (suc i) [] = refl
length-mapped f (suc i) (x ∷ s) = ap suc (length-mapped f i s)

pub mapped_at : (f : ℕ → ℕ) (i : ℕ) (s : List ℕ) → get_or (mapped f i s) i 0 ≡ get_or s i 0
mapped_at f zero s = refl
mapped_at f (suc i) [] = refl
mapped_at f (suc i) (x ∷ s) = mapped_at f i s

pub mapped-set : (f : ℕ → ℕ) (i : ℕ) (s : List ℕ) → i < length s → set (mapped f i s) i (f (get_or s i 0)) ≡ mapped f (suc i) s
mapped-set f i [] h = absurd (not-suc-le-zero h)
mapped-set f zero (x ∷ s) h = refl
mapped-set f (suc i) (x ∷ s) h = ap (λ (l : List ℕ). f x ∷ l) (mapped-set f i s (le_of_suc-le-suc h))
