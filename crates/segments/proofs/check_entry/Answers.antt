-- `segments::check_entry` meets its contract: the checks of a step, then those of the entry. Assumes nothing.
use mathlib.Core.Path.{sym, ◌∙◌}
use Rattle.answers.proofs.Statuses.{handed-on}
use Rattle.answers.proofs.Rows.{refused-first, row-second}
use Rattle.segments.specs.Entries.{step_checks, entry_checks, segment_checks}
use Rattle.segments.proofs.check_entry.Goals as goal

pub returns-in_err-check_step : goal.returns-in_err-check_step
unfolding segment_checks
returns-in_err-check_step c = handed-on _ _ _ c.from_residual.ensures.1 c.in_err-check_step.was ∙ refused-first (step_checks _ _) (entry_checks _ _ _) _ _ c.check_step.ensures c.in_err-check_step.was

pub returns : goal.returns
unfolding segment_checks
returns c = c.check_bounds.ensures ∙ sym (row-second (step_checks _ _) (entry_checks _ _ _) (sym c.check_step.ensures ∙ c.in_ok-check_step.was))
