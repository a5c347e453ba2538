-- `photon::steps::sub_row` meets its contract: the cells passed are looked up, the others as they were. Assumes nothing.
use Rattle.std.proofs.Common.{◌≡◌, ℕ, ◌≤◌, ◌<◌, get_or}
use Rattle.photon.proofs.steps.sub_row.Given as goal

abbrev pub invariant-loop-cell : goal.invariant-loop-cell
invariant-loop-cell l =
    ((k : ℕ) → k < l.cell-index → get_or l.cell-items k 0 ≡ get_or l.table (get_or l.initial.cell-items k 0) 0)
    × ((k : ℕ) → l.cell-index ≤ k → get_or l.cell-items k 0 ≡ get_or l.initial.cell-items k 0)
