-- `hasher::running::start` meets its contract: a start over the running hash of no variant. Assumes nothing.
use mathlib.Core.Path.{ap, ◌∙◌}
use Rattle.hasher.specs.declared.Hasher.{Hasher}
use Rattle.hasher.specs.Running.{started_over, started}
use Rattle.hasher.proofs.running.start.Goals as goal

pub returns : goal.returns
unfolding started
returns c = c.started_over.ensures ∙ ap (λ (h : Hasher). started_over h c.args.variant) c.blank.ensures
