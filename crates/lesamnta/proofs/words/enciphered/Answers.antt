-- `enciphered` runs all rounds forward. The loop's invariant: the rounds from r on make of the words what all make of the first ones.
-- Assumes nothing.
use mathlib.Core.Path.{refl, sym, ap₂, ◌∙◌}
use Prim.Native.Nat.{◌+◌}
use native.Mathlib.Omega.{arith}
use Rattle.lesamnta.proofs.RoundLaws.{to_go, go_all, go-none, go-more}
use Rattle.lesamnta.proofs.words.enciphered.Goals as goal

pub loop-r-init : goal.loop-r-init
loop-r-init c = refl

pub round-next_words-requires : goal.round-next_words-requires
round-next_words-requires c = c.requires

pub bounds-table-r : goal.bounds-table-r
bounds-table-r c = omega (arith, c.requires.size)

pub schedule_round-next_schedule-requires : goal.schedule_round-next_schedule-requires
schedule_round-next_schedule-requires c = c.requires

pub loop-r-preserved : goal.loop-r-preserved
loop-r-preserved c =
    let l = c.loop-r in
    ap₂ (to_go (l.r + 1)) c.round-next_words.ensures c.schedule_round-next_schedule.ensures
    ∙ go-more l.r l.words l.schedule _ (omega arith) (c.requires.constant l.r (omega arith))
    ∙ l.invariant

pub returns : goal.returns
returns c =
    let l = c.loop-r in
    sym (go-none l.r l.words l.schedule (omega arith)) ∙ l.invariant ∙ go_all c.args.x c.args.key
