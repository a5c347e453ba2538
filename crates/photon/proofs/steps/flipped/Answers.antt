-- `photon::steps::flipped` meets its contract: after i turns the first i rows are the last, in reverse. Assumes nothing.
use mathlib.Core.Path.{refl}
use native.Mathlib.Omega.{arith}
use Rattle.standard.proofs.Tab.{window-reverse}
use Rattle.octets.proofs.Upto.{upto-none, upto-more}
use Rattle.photon.proofs.steps.flipped.Goals as goal

pub loop-i-init : goal.loop-i-init
loop-i-init c = upto-none _ c.well_formed.0.1.0.1

pub loop-i-preserved : goal.loop-i-preserved
loop-i-preserved c =
    let l = c.loop-i in
    upto-more l.i _ l.out _ (omega arith) refl l.invariant

pub returns : goal.returns
returns c = window-reverse c.args.d c.loop-i.out c.args.g (λ i h. c.loop-i.invariant.done i (omega arith))
