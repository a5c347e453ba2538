-- `manifest::ordered::Ordered::count` meets its contract: whole records, 512 at most. Assumes nothing.
use native.Mathlib.Omega.{arith}
use Rattle.manifest.proofs.RecordLaws.{manifest-few}
use Rattle.manifest.proofs.OrderLaws.{ordered-parts}
use Rattle.manifest.proofs.ordered.Ordered.count.Goals as goal

pub returns-clause-few : goal.returns-clause-few
returns-clause-few c = omega (arith, manifest-few _ (ordered-parts _ c.self.invariant).0)
