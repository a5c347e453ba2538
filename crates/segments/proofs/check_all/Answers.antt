-- `segments::check_all` meets its contract: the entries passed so far are Done. Assumes nothing.
use mathlib.Core.Path.{sym, ◌∙◌}
use native.Mathlib.Omega.{arith}
use lib.ListN.{length}
use Rattle.answers.proofs.Statuses.{not_done, handed-on}
use Rattle.answers.proofs.Rows.{each_first, each-done}
use Rattle.segments.specs.Entries.{count, entry_checks}
use Rattle.segments.proofs.check_all.Goals as goal

pub returns-in_err-check_bounds : goal.returns-in_err-check_bounds
returns-in_err-check_bounds c =
    let a = c.args in
    let e = c.check_bounds.ensures in
    handed-on _ _ _ c.from_residual.ensures.1 c.in_err-check_bounds.was
    ∙ e ∙ sym (each_first (count a.list.now) (entry_checks a.list.now (length a.buffer.now)) c.loop-k.k (omega arith) c.loop-k.invariant (λ d. not_done _ (sym c.in_err-check_bounds.was ∙ e ∙ d)))

pub returns : goal.returns
returns c =
    let a = c.args in
    sym (each-done (count a.list.now) _ (λ j h. c.loop-k.invariant j (omega arith)))
