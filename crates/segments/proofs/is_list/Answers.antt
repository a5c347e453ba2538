-- `segments::is_list` meets its contract. Assumes nothing.
use borrow.Author.Tests.{eq-eqb, ne_eqb}
use Rattle.segments.specs.Entries.{is_list}
use Rattle.segments.proofs.is_list.Goals as goal

pub returns-then-list-eq0 : goal.returns-then-list-eq0
unfolding is_list
returns-then-list-eq0 c = simp (eq-eqb _ _ c.if-list-eq0.true)

pub returns-else-list-eq0 : goal.returns-else-list-eq0
unfolding is_list
returns-else-list-eq0 c = simp (ne_eqb _ _ c.if-list-eq0.false)
