-- `photon::steps::sub_cells` meets its contract: the rows passed are looked up, the others as they were. Assumes nothing.
use native.Mathlib.Omega.{arith}
use Rattle.octets.proofs.Upto.{upto-none, upto-more}
use Rattle.photon.proofs.steps.sub_cells.Goals as goal

pub loop-row-init : goal.loop-row-init
loop-row-init c = upto-none _ c.well_formed.1.0.1.0.1

pub loop-row-preserved : goal.loop-row-preserved
loop-row-preserved c =
    let l = c.loop-row in
    upto-more l.row-index _ l.row-items _ (omega arith) (rw (← l.invariant.rest l.row-index (omega arith)) c.sub_row.ensures) l.invariant

pub returns : goal.returns
returns c i j hi hj = c.loop-row.invariant.done i (omega arith) j hj
