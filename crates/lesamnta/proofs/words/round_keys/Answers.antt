-- `round_keys` writes the first word of each key state. The loop's invariant: the first r are written, and the key state gives the others.
-- Assumes nothing.
use mathlib.Core.Path.{refl}
use native.Mathlib.Omega.{arith}
use Rattle.lesamnta.proofs.RoundLaws.{keyed-none, keyed-more, keyed-all}
use Rattle.lesamnta.proofs.words.round_keys.Goals as goal

pub loop-r-init : goal.loop-r-init
loop-r-init c = keyed-none _ _ _ refl refl

pub bounds-out-r : goal.bounds-out-r
bounds-out-r c = omega (arith, c.loop-r.invariant.size)

pub bounds-table-r : goal.bounds-table-r
bounds-table-r c = omega (arith, c.requires.size)

pub schedule_round-next_schedule-requires : goal.schedule_round-next_schedule-requires
schedule_round-next_schedule-requires c = c.requires

pub loop-r-preserved : goal.loop-r-preserved
loop-r-preserved c =
    let l = c.loop-r in
    rw c.schedule_round-next_schedule.ensures (keyed-more l.r _ l.schedule l.out _ (omega arith) (c.requires.constant l.r (omega arith)) l.invariant)

pub returns : goal.returns
returns c =
    let l = c.loop-r in
    keyed-all l.r _ _ l.out (omega arith) l.invariant
