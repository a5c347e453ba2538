-- `stepped_counter` steps either way.
-- Assumes nothing.
use mathlib.Core.Path.{◌∙◌}
use Rattle.standard.specs.Counters.{stepped_counter}
use Rattle.spongent.proofs.steps.stepped_counter.Goals as goal

pub returns-in-Forward : goal.returns-in-Forward
unfolding stepped_counter
returns-in-Forward c = c.next_counter.ensures ∙ rw c.in-Forward.is

pub returns-in-Backward : goal.returns-in-Backward
unfolding stepped_counter
returns-in-Backward c = c.previous_counter.ensures ∙ rw c.in-Backward.is
