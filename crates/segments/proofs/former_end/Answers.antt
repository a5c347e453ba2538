-- `segments::former_end` meets its contract. Assumes nothing.
use mathlib.Core.Path.{sym, ◌∙◌}
use Rattle.segments.specs.Entries.{former_end}
use Rattle.segments.proofs.EntryLaws.{former-behind}
use Rattle.segments.proofs.former_end.Goals as goal

pub returns-then-k-eq0 : goal.returns-then-k-eq0
unfolding former_end
returns-then-k-eq0 c = rw c.if-k-eq0.true

pub returns : goal.returns
returns c = c.end_at.ensures ∙ sym (former-behind _ _ c.if-k-eq0.false)
