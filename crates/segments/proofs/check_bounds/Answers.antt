-- `segments::check_bounds` meets its contract: refusal 10, then 11. Assumes nothing.
use native.Mathlib.Omega.{arith}
use borrow.Author.Tests.{lt-ltb, le-ltb}
use Rattle.segments.specs.Entries.{entry_checks}
use Rattle.segments.proofs.EntryLaws.{list-short}
use Rattle.segments.proofs.check_bounds.Goals as goal

pub overflow_cast-result : goal.overflow_cast-result
overflow_cast-result c = omega (arith, list-short _ c.requires.list_value)

pub returns-then-from-former_end : goal.returns-then-from-former_end
unfolding entry_checks
returns-then-from-former_end c = rw (← c.offset_at.ensures, ← c.former_end.ensures, lt-ltb c.offset_at.result c.former_end.result (omega arith))

pub overflow_cast-result-then-buffer-end_at : goal.overflow_cast-result-then-buffer-end_at
overflow_cast-result-then-buffer-end_at c = omega (arith, list-short _ c.requires.list_value)

pub returns-then-buffer-end_at : goal.returns-then-buffer-end_at
unfolding entry_checks
returns-then-buffer-end_at c = rw (← c.end_at.ensures, ← c.offset_at.ensures, ← c.former_end.ensures, le-ltb c.offset_at.result c.former_end.result (omega arith), lt-ltb _ _ c.if-buffer-end_at.true)

pub returns : goal.returns
unfolding entry_checks
returns c = rw (← c.end_at.ensures, ← c.offset_at.ensures, ← c.former_end.ensures, le-ltb c.offset_at.result c.former_end.result (omega arith), le-ltb _ _ c.if-buffer-end_at.false)
