-- The difference of two states: a block, with zeros behind it, just where the block leads from the one to the other.
-- Assumes nothing.
use mathlib.Core.Path.{◌≡◌, refl, sym, ◌∙◌}
use mathlib.Core.Bool.{Bool, true, false, xor}
use mathlib.Core.List.{List, [], ◌∷◌, ◌++◌, append-nil}
use Prim.Native.Nat.{ℕ, ◌-◌, ◌≤◌}
use native.Mathlib.Nat.{not-suc-le-zero, le_of_suc-le-suc, sub-zero, suc-sub-suc}
use native.Mathlib.Omega.{arith}
use lib.ListN.{length, replicate}
use Rattle.standard.specs.Bits.{xor_into}
use Rattle.standard.proofs.BitLaws.{xor_into-nil, xor-back, xor_into-behind}

-- xored into a state twice, bits come back with zeros behind them
between : (S B : List Bool) → length B ≤ length S → xor_into S (xor_into S B) ≡ B ++ replicate (length S - length B) false
unfolding xor_into xor
between [] [] h = refl
between [] (b ∷ B) h = absurd (not-suc-le-zero h)
between (true ∷ S) [] h = rw (rw (xor_into-nil, sub-zero) at (between S [] (omega arith)), sub-zero)
between (false ∷ S) [] h = rw (rw (xor_into-nil, sub-zero) at (between S [] (omega arith)), sub-zero)
between (x ∷ S) (b ∷ B) h = rw (xor-back x b, between S B (le_of_suc-le-suc h), suc-sub-suc)

pub difference-of : (S B Z : List Bool) → length B ≤ length S → xor_into S B ≡ Z → xor_into S Z ≡ B ++ replicate (length S - length B) false
difference-of S B Z h e = rw (← e) (between S B h)

pub difference-back : (S B Z : List Bool) (n : ℕ) → length S ≡ length Z → xor_into S Z ≡ B ++ replicate n false → xor_into S B ≡ Z
difference-back S B Z n l e =
    let none : length S - length Z ≡ 0 = omega arith in
    sym (xor_into-behind S B n) ∙ rw (← e, between S Z (omega arith), none, append-nil)
