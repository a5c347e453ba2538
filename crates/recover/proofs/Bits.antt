-- Two ways to give the same bits are one to the operation. Assumes nothing.
use mathlib.Core.Path.{◌≡◌, sym, ap, ap₂, ◌∙◌}
use mathlib.Core.Bool.{Bool}
use mathlib.Core.List.{List, ◌++◌}
use lib.ListN.{length}
use Rattle.answers.specs.Refusals.{Status}
use Rattle.answers.specs.Checks.{Check, first_refusal}
use Rattle.answers.specs.Outputs.{when_done, written}
use Rattle.answers.proofs.Rows.{row-append}
use Rattle.standard.specs.Chain.{block_count}
use Rattle.standard.specs.Messages.{Given, given_bits}
use Rattle.standard.specs.Variants.{variant}
use Rattle.chain.specs.Messages.{message_checks}
use Rattle.chain.proofs.MessageLaws.{alike-asked}
use Rattle.recover.specs.Recovering.{placed_checks, found_checks, recovered_block, recover_status, recover_into}
use Rattle.recover.specs.Promises.{RecoverAlike}

pub recover-alike : RecoverAlike
unfolding recover_status recover_into
recover-alike v g g' a place image out =
    (answers, ap₂ (λ (s : Status) (m : List Bool). written s (recovered_block v m place image) out) answers a.same)
  where
    -- the checks of the place and of the search, of a bit string
    placed : List Bool → List Check
    placed m = placed_checks (variant v) (block_count (variant v) (length m)) place image (length out)

    rows : (h : Given) → Status
    rows h = first_refusal ((message_checks v h ++ placed (given_bits (variant v) h)) ++ found_checks v (given_bits (variant v) h) place image)

    -- from the answer of the first checks and the bits
    whole : Status → List Bool → Status
    whole s m =
        let t : Status = when_done s (first_refusal (placed m)) s in
        when_done t (first_refusal (found_checks v m place image)) t

    whole_is : (h : Given) → rows h ≡ whole (first_refusal (message_checks v h)) (given_bits (variant v) h)
    whole_is h =
        let m : List Bool = given_bits (variant v) h in
        row-append (message_checks v h ++ placed m) (found_checks v m place image)
        ∙ ap (λ (t : Status). when_done t (first_refusal (found_checks v m place image)) t) (row-append (message_checks v h) (placed m))

    answers : rows g ≡ rows g'
    answers = whole_is g ∙ ap₂ whole (alike-asked v g g' a) a.same ∙ sym (whole_is g')
