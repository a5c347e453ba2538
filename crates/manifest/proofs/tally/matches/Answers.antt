-- `manifest::tally::matches` meets its contract. Assumes nothing.
use mathlib.Core.Path.{sym, ap, ◌∙◌}
use native.Mathlib.Omega.{arith}
use lib.ListN.{length}
use Rattle.manifest.specs.Progress.{matches}
use Rattle.manifest.proofs.RecordLaws.{filled-length}
use Rattle.manifest.proofs.tally.matches.Goals as goal

pub returns-in_default : goal.returns-in_default
unfolding matches
returns-in_default c = rw (← c.finish.ensures, sym c.digest.ensures.0 ∙ c.in_default.is)

pub is_same-requires : goal.is_same-requires
is_same-requires c = omega (arith, ap length c.digest_field_at.ensures ∙ filled-length _ _ c.requires)

pub returns : goal.returns
unfolding matches
returns c = rw (← c.finish.ensures, sym c.digest.ensures.0 ∙ c.in-Ok.is, ← c.digest.ensures.1, ← c.digest_field_at.ensures) c.is_same.ensures
