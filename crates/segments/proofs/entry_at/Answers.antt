-- `segments::entry_at` meets its contract: refusals 9, 7, then the entry's two numbers. Assumes nothing.
use mathlib.Core.Path.{sym, ◌∙◌}
use Rattle.segments.specs.Steps.{found_at}
use Rattle.segments.proofs.EntryLaws.{step-there, entry-given}
use Rattle.segments.proofs.entry_at.Goals as goal

pub returns-in-Ok : goal.returns-in-Ok
returns-in-Ok c =
    let t = step-there _ _ (sym c.check_step.ensures ∙ c.in-Ok.is) in
    rw (c.offset_at.ensures, c.length_at.ensures) (sym (entry-given _ _ t.whole t.inside))

pub returns-in-Err : goal.returns-in-Err
unfolding found_at
returns-in-Err c = rw (sym c.check_step.ensures ∙ c.in-Err.is)
