-- `chain::padding::ended` meets its contract: no block more for a sponge, and else that of the length. Assumes nothing.
use mathlib.Core.Path.{sym, ap, ◌∙◌}
use mathlib.Core.Bool.{Bool, cond}
use mathlib.Core.List.{List, [], ◌∷◌}
use native.Mathlib.Omega.{arith}
use Rattle.standard.specs.Families.{state_in}
use Rattle.standard.specs.Chain.{run}
use Rattle.standard.specs.Variants.{variant}
use Rattle.standard.proofs.Streaming.{run_none}
use Rattle.standard.specs.Layout.{packed_state}
use Rattle.chain.specs.Padding.{length_block}
use Rattle.chain.proofs.LastBlocks.{length_run}
use Rattle.chain.proofs.padding.ended.Goals as goal

pub returns-then-is_sponge : goal.returns-then-is_sponge
returns-then-is_sponge c =
    let H = variant c.args.v in
    let told = sym c.is_sponge.ensures ∙ c.if-is_sponge.true in
    c.requires.holds
    ∙ ap (packed_state H)
    (sym (ap (λ (b : Bool). run H (state_in H c.args.s) (cond b [] (length_block c.args.bits ∷ []))) told ∙ run_none H (state_in H c.args.s)))

pub run_blocks-requires : goal.run_blocks-requires
run_blocks-requires c = record { v_value = c.requires.v_value; holds = c.requires.holds; count_bound = omega arith }

pub returns : goal.returns
returns c =
    let H = variant c.args.v in
    let told = sym c.is_sponge.ensures ∙ c.if-is_sponge.false in
    c.run_blocks.ensures
    ∙ ap (λ (bs : List (List Bool)). packed_state H (run H (state_in H c.args.s) bs)) (length_run c.args.v c.requires.v_value told c.args.bits c.length_block.result 0 c.length_block.ensures)
