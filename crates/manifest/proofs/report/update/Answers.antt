-- `manifest::report::update` meets its contract: what is left of the piece leads from here to the same report. Assumes
-- nothing.
use mathlib.Core.Path.{sym, ◌∙◌}
use Prim.Native.Nat.{◌≤◌}
use native.Mathlib.Omega.{arith}
use borrow.Author.Tests.{not-true, not-false, eqb-true}
use Rattle.manifest.specs.Tables.{max_tables}
use Rattle.manifest.specs.Progress.{tallied, piece_taken}
use Rattle.manifest.proofs.StrideLaws.{full-stays, nothing-stays, piece-read}
use Rattle.manifest.proofs.report.update.Goals as goal

pub returns-then-not-report : goal.returns-then-not-report
unfolding piece_taken
returns-then-not-report c = rw (not-true c.args.report.passed c.if-not-report.true)

pub returns-in_default : goal.returns-in_default
unfolding piece_taken
returns-in_default c = rw (not-false c.args.report.passed c.if-not-report.false, c.in_default.ensures)

pub returns-else-tallied-lt-MAX_TABLES : goal.returns-else-tallied-lt-MAX_TABLES
returns-else-tallied-lt-MAX_TABLES c =
    let full : max_tables ≤ tallied c.loop-ordered.latest.tally = omega (arith, c.tallied.ensures) in
    sym
    (piece-read _ _ c.args.piece.now (not-false c.args.report.passed c.if-not-report.false) c.in-Some.ensures.1
    ∙ c.loop-ordered.invariant
    ∙ full-stays _ c.loop-ordered.latest full c.loop-ordered.rest.now)

pub returns-after-loop-ordered : goal.returns-after-loop-ordered
returns-after-loop-ordered c =
    sym
    (piece-read _ _ c.args.piece.now (not-false c.args.report.passed c.if-not-report.false) c.in-Some.ensures.1
    ∙ c.loop-ordered.invariant
    ∙ nothing-stays _ c.loop-ordered.latest c.loop-ordered.rest.now (eqb-true _ 0 (sym c.is_empty.ensures ∙ c.loop-ordered-test.false)))
