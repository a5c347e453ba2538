-- `manifest::tally::with_table` meets its contract: the record of the axis decides. Assumes nothing.
use mathlib.Core.Path.{sym, ◌∙◌}
use Rattle.manifest.specs.Progress.{with_table}
use Rattle.manifest.proofs.RecordLaws.{found-some, found-none}
use Rattle.manifest.proofs.tally.with_table.Goals as goal

pub matches-requires : goal.matches-requires
matches-requires c =
    let found = found-some _ _ _ (sym c.record_for.ensures.found ∙ c.in-Some.is) in
    rw c.bytes.ensures found.2

pub returns-in-Some : goal.returns-in-Some
unfolding with_table
returns-in-Some c =
    let found = found-some _ _ _ (sym c.record_for.ensures.found ∙ c.in-Some.is) in
    rw (← c.axis_in.ensures, found.0, ← found.1, ← c.bytes.ensures, ← c.matches.ensures) c.with_listed.ensures

pub returns-in-None : goal.returns-in-None
unfolding with_table
returns-in-None c = rw (← c.axis_in.ensures, found-none _ _ (sym c.record_for.ensures.found ∙ c.in-None.is)) c.with_unlisted.ensures
