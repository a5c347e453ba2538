-- `put_lanes` puts the four lanes, the lowest first.
-- Assumes nothing.
use native.Mathlib.Omega.{arith}
use Rattle.spongent.proofs.LanePlaces.{put-none, put-even, put-more, put_all}
use Rattle.spongent.proofs.words.put_lanes.Goals as goal

pub loop-p-init : goal.loop-p-init
loop-p-init c = put-none

pub put-requires : goal.put-requires
put-requires c =
    let even = put-even c.loop-p.invariant (omega arith) in
    (even, (omega arith, omega arith))

pub loop-p-preserved : goal.loop-p-preserved
loop-p-preserved c = put-more c.loop-p.invariant (omega arith) _ c.put.ensures

pub returns : goal.returns
returns c = put_all c.loop-p.invariant (omega arith) (omega arith)
