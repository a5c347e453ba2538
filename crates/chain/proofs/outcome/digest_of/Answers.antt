-- `chain::outcome::digest_of` meets its contract: no block runs through the state. Assumes nothing.
use mathlib.Core.Path.{sym, ap, ◌∙◌}
use native.Mathlib.Omega.{arith}
use Rattle.standard.specs.declared.Wanted.TheVariants.{Digest}
use Rattle.standard.specs.Variants.{variant}
use Rattle.chain.specs.Outcomes.{outcome}
use Rattle.chain.proofs.BlockRuns.{run-start}
use Rattle.chain.proofs.outcome.digest_of.Goals as goal

pub outcome_after-requires : goal.outcome_after-requires
outcome_after-requires c = (c.requires, omega arith)

pub returns : goal.returns
returns c = c.outcome_after.ensures ∙ ap (outcome (variant c.args.v) Digest) (sym (run-start c.args.v c.requires _ _))
