-- `manifest::tally::with_listed` meets its contract. Assumes nothing.
use Rattle.manifest.specs.Progress.{with_listed}
use Rattle.manifest.proofs.Counting.{byte-digit}
use Rattle.manifest.proofs.tally.with_listed.Goals as goal

pub returns : goal.returns
unfolding with_listed
returns c = rw (c.saturating_sub.ensures, c.from.ensures, c.from-2.ensures, c.from-3.ensures) (simp byte-digit)
