-- `chain::outcome::run_blocks` meets its contract. Assumes nothing.
use mathlib.Core.Path.{ap, ◌∙◌}
use Rattle.standard.specs.Variants.{variant}
use Rattle.standard.specs.Layout.{packed_state}
use Rattle.chain.proofs.BlockRuns.{run-start}
use Rattle.chain.proofs.outcome.run_blocks.Goals as goal

pub returns-then-count-eq0 : goal.returns-then-count-eq0
returns-then-count-eq0 c =
    let v = c.args.v in
    rw c.if-count-eq0.true (c.requires.holds ∙ ap (packed_state (variant v)) (run-start v c.requires.v_value _ _))

pub outcome_after-requires : goal.outcome_after-requires
outcome_after-requires c = (c.requires.v_value, c.requires.count_bound)

pub returns : goal.returns
returns c = c.outcome_after.ensures
