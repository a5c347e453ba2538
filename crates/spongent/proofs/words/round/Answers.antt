-- `round` is a round by look-ups. The loop's invariant: the first j words are looked up, and nothing else is written.
-- Assumes nothing.
use native.Mathlib.Omega.{arith}
use Rattle.standard.specs.Spongent.{nibbles}
use Rattle.spongent.proofs.LookUpRound.{looked-none, looked-more, looked-round}
use Rattle.spongent.proofs.words.round.Goals as goal

pub loop-j-init : goal.loop-j-init
loop-j-init c = looked-none nibbles c.args.n (omega arith) (omega arith) _

pub loop-j-preserved : goal.loop-j-preserved
loop-j-preserved c =
    let a = c.args in
    let l = c.loop-j in
    looked-more nibbles a.n (omega arith) (omega arith) _ l.j _ _ l.out _ (omega arith) c.min.ensures c.spread_word-lanes.ensures c.put_lanes.ensures l.invariant

pub returns : goal.returns
returns c =
    let a = c.args in
    let l = c.loop-j in
    looked-round a.w.now a.n a.counter a.reversed c.from.result c.byte_at.result (omega arith) (omega arith) (omega arith) (omega arith) c.requires.reversed_value
    c.from.ensures c.byte_at.ensures.0 l.j l.out (omega arith) l.invariant
