-- `photon::steps::add_constants` meets its contract: the rows passed have their constants, the others are as they were. Assumes nothing.
use native.Mathlib.Omega.{arith}
use Rattle.octets.proofs.Upto.{upto-none, upto-more}
use Rattle.photon.proofs.steps.add_constants.Goals as goal

pub loop-i-init : goal.loop-i-init
loop-i-init c = upto-none _ c.well_formed.0.1.0.1

pub loop-i-preserved : goal.loop-i-preserved
loop-i-preserved c =
    let l = c.loop-i in
    upto-more l.i _ l.row-items _ (omega arith) (rw (← l.invariant.rest l.i (omega arith)) c.with_first.ensures) l.invariant

pub returns : goal.returns
returns c i j hi hj = c.loop-i.invariant.done i (omega arith) j hj
