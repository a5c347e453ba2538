-- `manifest::ordered::Ordered::checked` meets its contract: what passes rises. Assumes nothing.
use mathlib.Core.Path.{sym, ◌∙◌}
use Rattle.manifest.proofs.OrderLaws.{passing-ordered}
use Rattle.manifest.proofs.ordered.Ordered.checked.Goals as goal

pub invariant_of-result : goal.invariant_of-result
invariant_of-result c = passing-ordered _ (sym c.check.ensures ∙ c.in_ok-check.was)
