-- `photon::steps::rotation_of` meets its contract. Assumes nothing.
use mathlib.Core.Logic.{⊎_elim}
use native.Mathlib.Omega.{arith}
use Rattle.photon.proofs.steps.rotation_of.Goals as goal

pub returns-then-from-i : goal.returns-then-from-i
returns-then-from-i c = (⊎_elim (λ e. (omega arith, omega arith)) (λ e. (omega arith, omega arith)) c.requires.fact, λ h. omega arith)

pub returns-else-from-i : goal.returns-else-from-i
returns-else-from-i c = (⊎_elim (λ e. (omega arith, omega arith)) (λ e. (omega arith, omega arith)) c.requires.fact, λ h. omega arith)
