-- `hasher::checks::check_read` meets its contract: the checks in order. Assumes nothing.
use mathlib.Core.Path.{sym, ◌∙◌}
use borrow.Author.Tests.{eq-eqb, ne_eqb}
use Rattle.hasher.specs.Reading.{read_status}
use Rattle.hasher.proofs.checks.check_read.Goals as goal

pub returns-then-not-is_well_formed : goal.returns-then-not-is_well_formed
unfolding read_status
returns-then-not-is_well_formed c = rw (sym c.is_well_formed.ensures ∙ c.if-not-is_well_formed.true)

pub returns-then-h-ne1 : goal.returns-then-h-ne1
unfolding read_status
returns-then-h-ne1 c = rw (sym c.is_well_formed.ensures ∙ c.if-not-is_well_formed.false, ne_eqb _ 1 c.if-h-ne1.true)

pub returns : goal.returns
unfolding read_status
returns c = rw (sym c.is_well_formed.ensures ∙ c.if-not-is_well_formed.false, eq-eqb _ 1 c.if-h-ne1.false) c.check_room.ensures
