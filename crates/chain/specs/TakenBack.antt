-- For the code: the permutation by variant, and block steps taken back. The standard's permutation is that of a sponge; where there is none, states stay.
-- Assumes nothing.
use Rattle.std.specs.Prelude.{Bool}
use mathlib.Core.List.{List, foldl, reverse}
use Rattle.standard.specs.Bits.{turned, xor_into}
use Rattle.standard.specs.declared.Direction.{Direction}
use Rattle.standard.specs.declared.Direction.TheVariants.{Backward}
use Rattle.standard.specs.Families.{Family, sponge, lesamnta, Variant, order}
use Rattle.standard.specs.Sponge.{permutation}

-- by family
abbrev pub permuted_by : Family → Direction → List Bool → List Bool
permuted_by (sponge P r') = permutation P
permuted_by lesamnta = λ w s. s

-- a state through the permutation of a variant, or through its inverse
unfoldable pub permuted_state : Variant → Direction → List Bool → List Bool
permuted_state H = permuted_by H.family

-- the block step of a sponge taken back
unfoldable pub unstep : Variant → List Bool → List Bool → List Bool
unstep H s b = xor_into (permuted_state H Backward s) (turned (order H) b)

-- the state before a row of blocks that led to s, the last block taken back first
unfoldable pub unrun : Variant → List Bool → List (List Bool) → List Bool
unrun H s bs = foldl (unstep H) s (reverse bs)
