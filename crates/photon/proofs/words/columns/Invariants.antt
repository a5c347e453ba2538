-- `photon::words::columns` meets its contract: the cells of the rows passed are in their columns. Assumes nothing.
use Rattle.photon.proofs.WordSteps.{Rows}
use Rattle.photon.proofs.words.columns.Given as goal

abbrev pub invariant-loop-i : goal.invariant-loop-i
invariant-loop-i l = Rows l.v l.s l.i l.initial.out l.out
