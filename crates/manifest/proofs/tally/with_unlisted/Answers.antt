-- `manifest::tally::with_unlisted` meets its contract. Assumes nothing.
use mathlib.Core.Path.{refl}
use Rattle.manifest.specs.Progress.{with_unlisted}
use Rattle.manifest.proofs.tally.with_unlisted.Goals as goal

pub returns : goal.returns
unfolding with_unlisted
returns c = refl
