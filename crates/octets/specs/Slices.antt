-- Slices of bytes: written over a part of an output, the same as others, and zero.
-- Assumes nothing.
use Rattle.std.specs.Prelude.{Bool, true, false, ◌&&◌, List, [], ◌∷◌, ◌++◌, ℕ, ◌+◌, eqb, length, take, drop}

-- bytes over the part of an output that begins at a place; those before and after it stay
unfoldable pub written_at : ℕ → List ℕ → List ℕ → List ℕ
written_at at bytes out = take at out ++ bytes ++ drop (at + length bytes) out

-- two slices hold the same bytes
abbrev pub same : List ℕ → List ℕ → Bool
same [] [] = true
same [] (y ∷ ys) = false
same (x ∷ xs) [] = false
same (x ∷ xs) (y ∷ ys) = eqb x y && same xs ys

-- every byte is zero
abbrev pub zeros : List ℕ → Bool
zeros [] = true
zeros (b ∷ bytes) = eqb b 0 && zeros bytes
