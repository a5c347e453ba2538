-- Two ways to give the same bits are one to an update and to a whole message.
-- Assumes nothing.
use mathlib.Core.Path.{◌≡◌, sym, ap, ap₂, ◌∙◌}
use mathlib.Core.Bool.{Bool}
use mathlib.Core.List.{List, ◌++◌}
use lib.ListN.{length}
use Rattle.standard.specs.Chain.{end_state}
use Rattle.standard.specs.Messages.{given_bits}
use Rattle.standard.specs.Variants.{variant}
use Rattle.answers.specs.Refusals.{Status}
use Rattle.answers.specs.Checks.{first_refusal}
use Rattle.answers.specs.Outputs.{when_done, written}
use Rattle.answers.proofs.Rows.{row-append}
use Rattle.chain.specs.Messages.{number_checks, message_checks}
use Rattle.chain.proofs.MessageLaws.{alike-row, alike-asked}
use Rattle.hasher.specs.Running.{variant_of, grown, open_checks, follow_checks, update_checks, updated}
use Rattle.hasher.specs.Reading.{result_of, room_checks, hash_status, hash_into}
use Rattle.hasher.specs.Promises.{UpdateAlike, WholeAlike}

pub update_alike : UpdateAlike
unfolding updated
update_alike h g g' a =
    ap₂ (λ (s : Status) (m : List Bool). record { status = s; hasher = when_done s (grown h m) h }) answers a.same
  where
    answers : first_refusal (update_checks h g) ≡ first_refusal (update_checks h g')
    answers =
        alike-row (open_checks h) (follow_checks h (length (given_bits (variant_of h) g))) g g' a.numbers
        ∙ ap (λ (m : List Bool). first_refusal (open_checks h ++ (number_checks g' ++ follow_checks h (length m)))) a.same

pub whole-alike : WholeAlike
unfolding hash_status hash_into
whole-alike v g g' a wanted out =
    (answers, ap₂ (λ (s : Status) (m : List Bool). written s (result_of (variant v) wanted (end_state (variant v) m)) out) answers a.same)
  where
    answers : first_refusal (message_checks v g ++ room_checks (variant v) wanted (length out)) ≡ first_refusal (message_checks v g' ++ room_checks (variant v) wanted (length out))
    answers =
        row-append (message_checks v g) (room_checks (variant v) wanted (length out))
        ∙ ap (λ (s : Status). when_done s (first_refusal (room_checks (variant v) wanted (length out))) s) (alike-asked v g g' a)
        ∙ sym (row-append (message_checks v g') (room_checks (variant v) wanted (length out)))
