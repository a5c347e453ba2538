-- `manifest::records::check` meets its contract: the records passed so far are Done. Assumes nothing.
use mathlib.Core.Path.{sym, ◌∙◌}
use native.Mathlib.Omega.{arith}
use Rattle.answers.proofs.Statuses.{handed-on, not_done}
use Rattle.answers.proofs.Rows.{each_first, each-done}
use Rattle.manifest.specs.Records.{record_count, record_checks, manifest_status}
use Rattle.manifest.proofs.records.check.Goals as goal

pub returns-then-not-is_manifest : goal.returns-then-not-is_manifest
unfolding manifest_status
returns-then-not-is_manifest c = rw (sym c.is_manifest.ensures ∙ c.if-not-is_manifest.true)

pub returns-in_err-check_record : goal.returns-in_err-check_record
unfolding manifest_status
returns-in_err-check_record c =
    let manifest = c.args.manifest.now in
    let e = c.check_record.ensures in
    rw (handed-on _ _ _ c.from_residual.ensures.1 c.in_err-check_record.was, sym c.is_manifest.ensures ∙ c.if-not-is_manifest.false)
    (e ∙ sym (each_first (record_count manifest) (record_checks manifest) c.loop-k.k (omega arith) c.loop-k.invariant (λ d. not_done _ (sym c.in_err-check_record.was ∙ e ∙ d))))

pub returns : goal.returns
unfolding manifest_status
returns c =
    let manifest = c.args.manifest.now in
    rw (sym c.is_manifest.ensures ∙ c.if-not-is_manifest.false)
    (sym (each-done (record_count manifest) _ (λ j h. c.loop-k.invariant j (omega arith))))
