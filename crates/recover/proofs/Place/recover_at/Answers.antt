-- `recover::Place::recover_at` meets its contract: the checks of the place, and then the search. Assumes nothing.
use mathlib.Core.Path.{◌≡◌, sym, ap, ◌∙◌}
use mathlib.Core.List.{List}
use Prim.Native.Nat.{ℕ}
use lib.ListN.{length}
use Rattle.answers.specs.Refusals.{Done}
use Rattle.answers.specs.Checks.{Check, first_refusal}
use Rattle.answers.proofs.Statuses.{handed-on, not_done}
use Rattle.standard.specs.Chain.{block_count}
use Rattle.standard.specs.Variants.{variant}
use Rattle.chain.specs.Splits.{message_held}
use Rattle.chain.proofs.MessageLaws.{held-length}
use Rattle.recover.specs.Recovering.{placed_checks, found_checks, recovered_block}
use Rattle.recover.proofs.RecoverLaws.{row-refuses, row-passes}
use Rattle.recover.proofs.Place.recover_at.Goals.{Start, After-check_place}
use Rattle.recover.proofs.Place.recover_at.Goals as goal

-- the checks of the place, those of the search, and the block
abbrev first : Start → List Check
first c = placed_checks (variant c.args.self.v) (block_count (variant c.args.self.v) (length (message_held c.args.self.message))) c.args.self.index c.args.image.now (length c.args.out.now)

abbrev second : Start → List Check
second c = found_checks c.args.self.v (message_held c.args.self.message) c.args.self.index c.args.image.now

abbrev block : Start → List ℕ
block c = recovered_block c.args.self.v (message_held c.args.self.message) c.args.self.index c.args.image.now

-- the checks of the place, as they are asked of the message's bits
answer : (c : After-check_place) → c.check_place.result ≡ first_refusal (placed_checks (variant c.args.self.v) (block_count (variant c.args.self.v) (length (message_held c.args.self.message))) c.args.self.index c.args.image.now (length c.args.out.now))
answer c =
    let a = c.args.self in
    c.check_place.ensures
    ∙ ap (λ (n : ℕ). first_refusal (placed_checks (variant a.v) n a.index c.args.image.now (length c.args.out.now))) (c.block_count-count.ensures ∙ ap (block_count (variant a.v)) (sym (held-length a.message.holds)))

pub block_count-count-requires : goal.block_count-count-requires
block_count-count-requires c = record { v_value = c.args.self.named; bits_le_max_bits = c.args.self.message.holds.short }

pub returns-in_err-check_place : goal.returns-in_err-check_place
returns-in_err-check_place c =
    let d = goal.at.returns-in_err-check_place c in
    let handed : c.from_residual.result ≡ c.check_place.result = handed-on _ _ _ c.from_residual.ensures.1 c.in_err-check_place.was in
    row-refuses (first d.Start) (second d.Start) (block d.Start) c.args.out.now c.from_residual.result (handed ∙ answer d.After-check_place) (λ e. not_done _ (sym c.in_err-check_place.was ∙ sym handed ∙ e))

pub put_block-requires : goal.put_block-requires
put_block-requires c = sym (answer (goal.at.put_block-requires c).After-check_place) ∙ c.in_ok-check_place.was

pub returns : goal.returns
returns c =
    let d = goal.at.returns c in
    let passed : first_refusal (first d.Start) ≡ Done = sym (answer d.After-check_place) ∙ c.in_ok-check_place.was in
    row-passes (first d.Start) (second d.Start) (block d.Start) c.args.out.now passed _ _ c.put_block.ensures
