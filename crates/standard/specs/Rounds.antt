-- A permutation or a cipher made of rounds, and the rounds taken back: one statement for both directions and all
-- families.
-- Assumes nothing.
use mathlib.Core.List.{List, foldl, reverse}
use Rattle.std.specs.Prelude.{ℕ, zero, suc}
use Rattle.standard.specs.declared.Direction.{Direction}
use Rattle.standard.specs.declared.Direction.TheVariants.{Forward, Backward}

-- `Forward` is the permutation itself, `Backward` its inverse. What is said of `Backward`, here and in every clause,
-- need not be believed: `permutation-undo` and `cipher-undo` say that it takes the forward steps back.
abbrev pub opposite : Direction → Direction
opposite Forward = Backward
opposite Backward = Forward

-- the constants in the order in which the rounds use them: the inverse begins with the last
abbrev pub in_turn : Direction → List ℕ → List ℕ
in_turn Forward cs = cs
in_turn Backward cs = reverse cs

-- one round for each constant
unfoldable pub rounds : {A : Type 0} → (Direction → A → ℕ → A) → Direction → List ℕ → A → A
rounds f w cs x = foldl (f w) x (in_turn w cs)

-- f applied n times
abbrev pub iterate : {A : Type 0} → ℕ → (A → A) → A → A
iterate zero f x = x
iterate (suc n) f x = iterate n f (f x)
