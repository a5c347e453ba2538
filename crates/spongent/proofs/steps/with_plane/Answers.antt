-- `with_plane` writes plane b from a place on. The loop's invariant: the first i of its pairs are written, and those before the place are as they were.
-- Assumes nothing.
use native.Mathlib.Omega.{arith}
use Rattle.octets.proofs.FilledFrom.{filled_none, filled_more}
use Rattle.spongent.proofs.steps.with_plane.Goals as goal

pub loop-i-init : goal.loop-i-init
loop-i-init c = filled_none _ _ _

pub loop-i-preserved : goal.loop-i-preserved
loop-i-preserved c =
    let l = c.loop-i in
    let a = c.args in
    filled_more a.from _ l.i a.pairs l.out c.pair.result (omega arith) c.pair.ensures l.invariant

pub returns : goal.returns
returns c =
    let u = c.loop-i.invariant in
    ((λ i h. u.done i (omega arith)), u.before)
