-- `photon::steps::grid_of` meets its contract: the rows passed are read. Assumes nothing.
use mathlib.Core.Path.{◌≡◌}
use mathlib.Core.List.{[]}
use Prim.Native.Nat.{ℕ, ◌+◌, ◌*◌, ◌<◌}
use lib.ListN.{get_or}
use Rattle.octets.proofs.Upto.{Upto}
use Rattle.octets.specs.Cells.{cell_in}
use Rattle.photon.specs.Parameters.{width}
use Rattle.photon.proofs.steps.grid_of.Given as goal

abbrev pub invariant-loop-i : goal.invariant-loop-i
invariant-loop-i l = Upto [] (λ k row. (j : ℕ) → j < l.d → get_or row j 0 ≡ cell_in (width l.cell) l.s (k * l.d + j)) 8 l.i l.initial.out l.out
