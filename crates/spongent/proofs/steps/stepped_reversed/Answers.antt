-- `stepped_reversed` steps either way.
-- Assumes nothing.
use mathlib.Core.Path.{◌∙◌}
use Rattle.standard.specs.Counters.{stepped_reversed}
use Rattle.spongent.proofs.steps.stepped_reversed.Goals as goal

pub returns-in-Forward : goal.returns-in-Forward
unfolding stepped_reversed
returns-in-Forward c = c.next_reversed.ensures ∙ rw c.in-Forward.is

pub returns-in-Backward : goal.returns-in-Backward
unfolding stepped_reversed
returns-in-Backward c = c.previous_reversed.ensures ∙ rw c.in-Backward.is
