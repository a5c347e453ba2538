-- A row of checks is data: conditions with their refusals, in the order of document 01's table. The answer is the first
-- refusal of the row.
-- Assumes nothing.
use Rattle.std.specs.Prelude.{◌≡◌, Bool, true, cond, not, List, [], ◌∷◌, ◌++◌, ℕ, zero, suc}
use Rattle.answers.specs.declared.Refusal.{Refusal}
use Rattle.answers.specs.Refusals.{Status, Done, Refused}

pub record Check : Type 0 where
  pub passes : Bool
  pub refusal : Refusal

-- refused unless the condition holds, and refused when it holds
abbrev pub unless : Bool → Refusal → Check
unless holds r = record { passes = holds; refusal = r }

abbrev pub when : Bool → Refusal → Check
when holds r = record { passes = not holds; refusal = r }

-- the first refusal of a row, and Done if every check passes
abbrev pub first_refusal : List Check → Status
first_refusal [] = Done
first_refusal (c ∷ cs) = cond c.passes (first_refusal cs) (Refused c.refusal)

-- the checks of n things, one after the other
abbrev pub each : ℕ → (ℕ → List Check) → List Check
each zero f = []
each (suc n) f = f 0 ++ each n (λ k. f (suc k))

-- every check of a row passes
abbrev pub Pass : List Check → Type 0
Pass [] = Unit {0}
Pass (c ∷ cs) = (c.passes ≡ true) × Pass cs
