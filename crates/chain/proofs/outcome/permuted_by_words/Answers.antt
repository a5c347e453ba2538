-- `chain::outcome::permuted_by_words` meets its contract: the step of a block of zeros is the permutation. Assumes nothing.
use mathlib.Core.Path.{ap, ap₂, ◌∙◌}
use mathlib.Core.List.{List}
use Prim.Native.Nat.{ℕ}
use native.Mathlib.Omega.{arith}
use Rattle.standard.specs.Families.{state_in}
use Rattle.standard.specs.Variants.{variant}
use Rattle.standard.specs.Layout.{packed_state}
use Rattle.chain.specs.declared.stretch.Held.{Held}
use Rattle.chain.specs.Blocks.{after_blocks}
use Rattle.chain.proofs.SqueezeLaws.{zero-run}
use Rattle.chain.proofs.outcome.permuted_by_words.Goals as goal

pub outcome_after-requires : goal.outcome_after-requires
outcome_after-requires c = (c.requires.0, omega arith)

pub returns : goal.returns
returns c =
    let H = variant c.args.v in
    let S = state_in H c.args.s in
    c.outcome_after.ensures
    ∙ ap₂ (λ (h : Held) (bytes : List ℕ). packed_state H (after_blocks H S h bytes 1)) c.none.ensures.0 c.none.ensures.1
    ∙ ap (packed_state H) (zero-run c.args.v c.requires.1 S _)
