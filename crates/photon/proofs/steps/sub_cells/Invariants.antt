-- `photon::steps::sub_cells` meets its contract: the rows passed are looked up, the others as they were. Assumes nothing.
use Rattle.std.proofs.Common.{◌≡◌, ℕ, ◌<◌, [], get_or}
use Rattle.standard.specs.Grid.{at}
use Rattle.octets.proofs.Upto.{Upto}
use Rattle.photon.proofs.steps.sub_cells.Given as goal

abbrev pub invariant-loop-row : goal.invariant-loop-row
invariant-loop-row l =
    Upto [] (λ i row. (j : ℕ) → j < 8 → get_or row j 0 ≡ get_or l.table (at l.initial.row-items i j) 0) 8 l.row-index l.initial.row-items l.row-items
