-- `manifest::records::check_record` meets its contract: the variant, then the filler, then the place. Assumes nothing.
use mathlib.Core.Path.{◌≡◌, sym, ◌∙◌}
use mathlib.Core.Bool.{true, false}
use Rattle.standard.specs.Variants.{known}
use Rattle.manifest.specs.Records.{variant_at, record_checks, filler_at}
use Rattle.octets.specs.Slices.{zeros}
use Rattle.manifest.proofs.records.check_record.Goals as goal

pub returns-then-not-is_known : goal.returns-then-not-is_known
unfolding record_checks
returns-then-not-is_known c =
    let named : known (variant_at c.args.manifest.now c.args.k) ≡ false = cc in
    rw named

pub returns-then-not-zero_from : goal.returns-then-not-zero_from
unfolding record_checks filler_at
returns-then-not-zero_from c =
    let named : known (variant_at c.args.manifest.now c.args.k) ≡ true = cc in
    let looked : zeros (filler_at c.args.manifest.now c.args.k) ≡ c.zero_from.result = rw (← c.variant_at-v.ensures, ← c.digest_bytes.ensures, ← c.digest_field_at.ensures) (sym c.zero_from.ensures) in
    rw (named, looked ∙ c.if-not-zero_from.true)

pub returns-then-not-rises_at : goal.returns-then-not-rises_at
unfolding record_checks filler_at
returns-then-not-rises_at c =
    let named : known (variant_at c.args.manifest.now c.args.k) ≡ true = cc in
    let looked : zeros (filler_at c.args.manifest.now c.args.k) ≡ c.zero_from.result = rw (← c.variant_at-v.ensures, ← c.digest_bytes.ensures, ← c.digest_field_at.ensures) (sym c.zero_from.ensures) in
    rw (named, looked ∙ c.if-not-zero_from.false, sym c.rises_at.ensures ∙ c.if-not-rises_at.true)

pub returns : goal.returns
unfolding record_checks filler_at
returns c =
    let named : known (variant_at c.args.manifest.now c.args.k) ≡ true = cc in
    let looked : zeros (filler_at c.args.manifest.now c.args.k) ≡ c.zero_from.result = rw (← c.variant_at-v.ensures, ← c.digest_bytes.ensures, ← c.digest_field_at.ensures) (sym c.zero_from.ensures) in
    rw (named, looked ∙ c.if-not-zero_from.false, sym c.rises_at.ensures ∙ c.if-not-rises_at.false)
