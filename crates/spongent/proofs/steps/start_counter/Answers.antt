-- `start_counter` is the counter of the first round, of either direction.
-- Assumes nothing.
use Rattle.spongent.proofs.ParametersOf.{tabled}
use Rattle.spongent.proofs.steps.start_counter.Goals as goal

pub returns-in-Forward : goal.returns-in-Forward
returns-in-Forward c = rw c.in-Forward.is (tabled c.args.v c.requires.0 c.requires.1).first

pub returns-in-Backward : goal.returns-in-Backward
returns-in-Backward c = rw c.in-Backward.is (tabled c.args.v c.requires.0 c.requires.1).last
