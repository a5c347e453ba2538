-- `manifest::records::is_ordered` meets its contract: every record rises. Assumes nothing.
use mathlib.Core.Path.{refl, sym, ◌∙◌}
use native.Mathlib.Omega.{arith}
use Rattle.std.proofs.Common.{rules}
use Rattle.std.proofs.lemmas.Iterator.{YieldsList-from_range}
use Rattle.std.proofs.lemmas.Iterator.Search.{all_from_yields_List}
use Rattle.manifest.specs.Records.{record_count, rises_at}
use Rattle.manifest.specs.Lookups.{is_ordered}
use Rattle.manifest.proofs.RecordLaws.{every-listed}
use Rattle.manifest.proofs.records.is_ordered.Goals as goal

pub returns-then-is_manifest : goal.returns-then-is_manifest
unfolding is_ordered
returns-then-is_manifest c =
    let manifest = c.args.manifest.now in
    rw (sym c.is_manifest.ensures ∙ c.if-is_manifest.true)
    (all_from_yields_List (rises_at manifest) _ _ _ c.all.ensures.ran (YieldsList-from_range 0 _ (record_count manifest) refl (omega arith)) (λ x b q k. search rules)
    ∙ every-listed _ (rises_at manifest))

pub returns-else-is_manifest : goal.returns-else-is_manifest
unfolding is_ordered
returns-else-is_manifest c = rw (sym c.is_manifest.ensures ∙ c.if-is_manifest.false) c.if-is_manifest.false
