-- `manifest::records::rises_at` meets its contract. Assumes nothing.
use mathlib.Core.Path.{◌∙◌, ap₂}
use lib.Dec.{ltb}
use borrow.Author.Tests.{eq-eqb}
use Rattle.manifest.proofs.OrderLaws.{rises-first, rises-after}
use Rattle.manifest.proofs.records.rises_at.Goals as goal

pub returns-then-k-eq0 : goal.returns-then-k-eq0
returns-then-k-eq0 c = eq-eqb _ _ c.if-k-eq0.true ∙ rises-first _ _ c.if-k-eq0.true

pub returns-else-k-eq0 : goal.returns-else-k-eq0
returns-else-k-eq0 c = ap₂ ltb c.axis_at.ensures c.axis_at-else-k-eq0.ensures ∙ rises-after _ _ c.if-k-eq0.false
