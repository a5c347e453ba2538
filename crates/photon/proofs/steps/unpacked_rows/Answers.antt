-- `photon::steps::unpacked_rows` meets its contract: after i turns the first i rows are unpacked. Assumes nothing.
use mathlib.Core.Path.{refl}
use native.Mathlib.Omega.{arith}
use Rattle.octets.proofs.Upto.{upto-none, upto-more}
use Rattle.photon.proofs.steps.unpacked_rows.Goals as goal

pub loop-i-init : goal.loop-i-init
loop-i-init c = upto-none _ refl

pub loop-i-preserved : goal.loop-i-preserved
loop-i-preserved c =
    let l = c.loop-i in
    upto-more l.i _ l.out c.unpacked.result (omega arith) c.unpacked.ensures l.invariant

pub returns : goal.returns
returns c i j hi hj = c.loop-i.invariant.done i (omega arith) j hj
