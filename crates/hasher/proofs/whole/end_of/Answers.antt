-- `hasher::whole::end_of` meets its contract: one run over the padded message of a sponge, and else the length's block after it. Assumes nothing.
use mathlib.Core.Path.{refl, sym, ap, ◌∙◌}
use Rattle.standard.specs.Variants.{variant}
use Rattle.standard.specs.Layout.{packed_state}
use Rattle.chain.specs.Outcomes.{outcome}
use Rattle.hasher.proofs.Calls.{outcome-front, other-front}
use Rattle.hasher.proofs.WholeRuns.{start-ready, count_most, sponge-run, marked-ready, marked-run}
use Rattle.hasher.proofs.whole.end_of.Goals as goal

pub returns-then-is_sponge : goal.returns-then-is_sponge
returns-then-is_sponge c =
    let a = c.args in
    let is-sponge = sym c.is_sponge.ensures ∙ c.if-is_sponge.true in
    let end = sponge-run a.v c.requires a.message _ c.data_blocks-count.ensures.0 _ _ c.of-stretch.ensures _ c.start-start.ensures is-sponge in
    outcome-front a.v c.requires a.wanted _ refl _ _ (c.outcome_after.ensures ∙ ap (outcome (variant a.v) a.wanted) end)

pub run_blocks-padded-requires : goal.run_blocks-padded-requires
run_blocks-padded-requires c =
    let a = c.args in
    record { v_value = c.requires; holds = start-ready a.v c.requires c.start-start.result c.start-start.ensures; count_bound = count_most a.v c.requires a.message _ c.data_blocks-count.ensures.0 }

pub ended-requires : goal.ended-requires
ended-requires c =
    let a = c.args in
    record { v_value = c.requires; holds = marked-ready a.v c.requires a.message _ c.data_blocks-count.ensures.0 _ _ c.of-stretch.ensures _ c.start-start.ensures _ c.run_blocks-padded.ensures }

pub returns : goal.returns
returns c =
    let a = c.args in
    let not-sponge = sym c.is_sponge.ensures ∙ c.if-is_sponge.false in
    let end = marked-run a.v c.requires a.message _ c.data_blocks-count.ensures.0 _ _ c.of-stretch.ensures _ c.start-start.ensures _ c.run_blocks-padded.ensures in
    other-front a.v c.requires a.wanted _ refl not-sponge _ _ (c.ended.ensures ∙ ap (packed_state (variant a.v)) end)
