-- `hasher::checks::check_hash` meets its contract: the checks of the message, and then that of the output. Assumes nothing.
use mathlib.Core.Path.{◌≡◌, sym, ◌∙◌}
use mathlib.Core.List.{List}
use Rattle.answers.specs.Refusals.{Done}
use Rattle.answers.specs.Checks.{Check, first_refusal}
use Rattle.answers.proofs.Rows.{refused-first, row-second}
use Rattle.standard.specs.Variants.{variant}
use Rattle.chain.specs.Messages.{message_checks}
use Rattle.chain.specs.MessageBytes.{given}
use Rattle.hasher.specs.Reading.{room_checks, hash_status}
use Rattle.answers.proofs.Statuses.{handed-on}
use Rattle.hasher.proofs.checks.check_hash.Goals as goal

pub returns-in_err-check_message : goal.returns-in_err-check_message
unfolding hash_status
returns-in_err-check_message c =
    let message : List Check = message_checks c.args.variant (given c.args.message.now c.args.ending) in
    let room : List Check = room_checks (variant c.args.variant) c.args.wanted c.args.room in
    handed-on _ _ _ c.from_residual.ensures.1 c.in_err-check_message.was ∙ refused-first message room _ _ c.check_message.ensures c.in_err-check_message.was

pub returns : goal.returns
unfolding hash_status
returns c =
    let message : List Check = message_checks c.args.variant (given c.args.message.now c.args.ending) in
    let room : List Check = room_checks (variant c.args.variant) c.args.wanted c.args.room in
    let passed : first_refusal message ≡ Done = sym c.check_message.ensures ∙ c.in_ok-check_message.was in
    c.check_room.ensures ∙ sym (row-second message room passed)
