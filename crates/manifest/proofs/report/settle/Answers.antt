-- `manifest::report::settle` meets its contract. Assumes nothing.
use mathlib.Core.Path.{sym, ◌∙◌}
use Rattle.manifest.specs.Progress.{settled}
use Rattle.manifest.proofs.report.settle.Goals as goal

pub returns-then-is_complete : goal.returns-then-is_complete
unfolding settled
returns-then-is_complete c = rw (sym c.is_complete.ensures ∙ c.if-is_complete.true, c.with_table.ensures, c.unread.ensures)

pub returns : goal.returns
unfolding settled
returns c = rw (sym c.is_complete.ensures ∙ c.if-is_complete.false)
