-- `photon::steps::shift_rows` meets its contract: before turn i of the loop the rows above row i are rotated. A rotation by d - i places is one by (d - 1) * i. Rows past the matrix do not count.
-- Assumes nothing.
use mathlib.Core.Path.{◌≡◌}
use mathlib.Core.List.{List, []}
use Prim.Native.Nat.{ℕ, ◌+◌, ◌%◌, ◌<◌}
use lib.ListN.{get_or}
use Rattle.standard.specs.Grid.{Grid, at}
use Rattle.octets.proofs.Upto.{Upto}
use Rattle.photon.specs.Parameters.{distance}
use Rattle.photon.proofs.steps.shift_rows.Given as goal

abbrev pub Rotated : ℕ → ℕ → Grid → ℕ → List ℕ → Type 0
Rotated d from g k row = k < d → (j : ℕ) → j < d → get_or row j 0 ≡ at g k ((j + distance k from) % d)

abbrev pub invariant-loop-i : goal.invariant-loop-i
invariant-loop-i l = Upto [] (Rotated l.d l.from l.initial.out) 8 l.i l.initial.out l.out
