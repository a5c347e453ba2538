-- Of what is no sponge, a place below the block count that is not the last gives 17, whatever the image and the output are.
-- Assumes nothing.
use mathlib.Core.Path.{◌≡◌, sym, ap, ◌∙◌, subst}
use mathlib.Core.Bool.{Bool, true, false, cond}
use mathlib.Core.List.{◌++◌}
use Prim.Native.Nat.{ℕ, suc, ◌<◌}
use lib.Dec.{ltb, eqb}
use lib.ListN.{length}
use borrow.Author.Tests.{lt-ltb, ne_eqb}
use Rattle.answers.specs.declared.Refusal.TheVariants.{NotSponge}
use Rattle.answers.specs.Refusals.{Refused}
use Rattle.answers.specs.Checks.{first_refusal}
use Rattle.answers.proofs.Statuses.{not_done}
use Rattle.answers.proofs.Rows.{row_first, row-second}
use Rattle.standard.specs.Chain.{block_count}
use Rattle.standard.specs.Messages.{given_bits}
use Rattle.standard.specs.Variants.{variant}
use Rattle.standard.proofs.Streaming.{block-count}
use Rattle.chain.specs.Messages.{message_checks}
use Rattle.chain.proofs.MessageLaws.{message-passes}
use Rattle.recover.specs.Recovering.{searchable, placed_checks, found_checks, recover_status}
use Rattle.recover.specs.Promises.{OtherPlace}

pub other_place : OtherPlace
unfolding recover_status
other_place v k other g fits few place within before image n =
    let H = variant v in
    let m = given_bits H g in
    let placed = placed_checks H (block_count H (length m)) place image n in
    let below : ltb place (block_count H (length m)) ≡ true = lt-ltb _ _ (subst (λ (n : ℕ). place < n) (block-count H m) within) in
    let may : searchable H (block_count H (length m)) place ≡ false =
    ap (λ (b : Bool). cond b true (eqb (suc place) (block_count H (length m)))) other ∙ ne_eqb _ _ (λ e. before (e ∙ sym (block-count H m))) in
    let first : first_refusal (message_checks v g ++ placed) ≡ Refused NotSponge = row-second (message_checks v g) placed (message-passes v g k fits few) ∙ rw (below, may) in
    row_first (message_checks v g ++ placed) (found_checks v m place image) (λ d. not_done NotSponge (sym first ∙ d)) ∙ first
