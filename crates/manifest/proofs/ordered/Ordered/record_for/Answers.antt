-- `manifest::ordered::Ordered::record_for` meets its contract: a binary search among the records. Assumes nothing.
use mathlib.Core.Path.{◌∙◌}
use mathlib.Core.List.{List}
use Prim.Native.Nat.{ℕ}
use Rattle.std.proofs.Common.{rules}
use Rattle.std.proofs.lemmas.List.Sorted.{answers_always}
use Rattle.manifest.specs.Records.{axis_at}
use Rattle.manifest.proofs.RecordLaws.{manifest-few, found-few}
use Rattle.manifest.proofs.OrderLaws.{ordered-parts}
use Rattle.manifest.proofs.SearchLaws.{search-finds}
use Rattle.manifest.proofs.ordered.Ordered.record_for.Goals as goal

pub returns : goal.returns
returns c =
    let parts = ordered-parts _ c.records.ensures.ordered in
    let facts = c.binary_search_by_key.ensures in
    let by_axis = facts.position (λ (r : List ℕ). axis_at r 0) (answers_always _ _ _ (λ f a r g called. search rules)) in
    let found =
    c.ok.ensures.value
    ∙ search-finds _ parts.1 c.args.axis _ (rw c.records.ensures.chunks at facts.bound) (rw c.records.ensures.chunks at by_axis)
    in
    record { found = found; few = found-few _ _ _ found (manifest-few _ parts.0) }
