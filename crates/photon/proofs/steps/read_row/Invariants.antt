-- `photon::steps::read_row` meets its contract: the cells passed are read. Assumes nothing.
use mathlib.Core.Path.{◌≡◌}
use Prim.Native.Nat.{◌+◌}
use Rattle.octets.proofs.Upto.{Upto}
use Rattle.octets.specs.Cells.{cell_in}
use Rattle.photon.specs.Parameters.{width}
use Rattle.photon.proofs.steps.read_row.Given as goal

abbrev pub invariant-loop-j : goal.invariant-loop-j
invariant-loop-j l = Upto 0 (λ k x. x ≡ cell_in (width l.cell) l.s (l.base + k)) 8 l.j l.initial.out l.out
