-- `manifest::records::is_manifest` meets its contract. Assumes nothing.
use borrow.Author.Tests.{eq-eqb, ne_eqb}
use Rattle.manifest.specs.Records.{is_manifest}
use Rattle.manifest.proofs.records.is_manifest.Goals as goal

pub returns-then-manifest-eq0 : goal.returns-then-manifest-eq0
unfolding is_manifest
returns-then-manifest-eq0 c = simp (eq-eqb _ _ c.if-manifest-eq0.true)

pub returns-else-manifest-eq0 : goal.returns-else-manifest-eq0
unfolding is_manifest
returns-else-manifest-eq0 c = simp (ne_eqb _ _ c.if-manifest-eq0.false)
