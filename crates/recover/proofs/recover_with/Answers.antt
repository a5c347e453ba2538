-- `recover::recover_with` meets its contract: the checks of the variant and the message, and then the operation on its bits. Assumes nothing.
use mathlib.Core.Path.{◌≡◌, sym, ◌∙◌}
use native.Mathlib.Omega.{arith}
use Rattle.answers.specs.Refusals.{Done}
use Rattle.answers.specs.Checks.{first_refusal}
use Rattle.answers.proofs.Statuses.{handed-on, not_done}
use Rattle.standard.proofs.Variants.{known-high}
use Rattle.chain.specs.Messages.{message_checks}
use Rattle.chain.specs.MessageBytes.{given}
use Rattle.chain.proofs.MessageLaws.{Asked, message-passed, message-short}
use Rattle.recover.proofs.RecoverLaws.{left-refused, left_behind}
use Rattle.recover.proofs.recover_with.Goals.{In_ok-check_message}
use Rattle.recover.proofs.recover_with.Goals as goal

passed : (c : In_ok-check_message) → first_refusal (message_checks c.args.variant (given c.args.message.now c.args.ending)) ≡ Done
passed c = sym c.check_message.ensures ∙ c.in_ok-check_message.was

asked : (c : In_ok-check_message) → Asked c.args.variant (given c.args.message.now c.args.ending)
asked c = message-passed c.args.variant (given c.args.message.now c.args.ending) (passed c)

pub returns-in_err-check_message : goal.returns-in_err-check_message
returns-in_err-check_message c =
    let a = c.args in
    let handed : c.from_residual.result ≡ c.check_message.result = handed-on _ _ _ c.from_residual.ensures.1 c.in_err-check_message.was in
    left-refused a.variant (given a.message.now a.ending) a.place a.image.now a.out.now c.from_residual.result (handed ∙ c.check_message.ensures) (λ e. not_done _ (sym c.in_err-check_message.was ∙ sym handed ∙ e))

pub overflow_cast-v : goal.overflow_cast-v
overflow_cast-v c = omega (arith, known-high c.args.variant (asked (goal.at.overflow_cast-v c).In_ok-check_message).named)

pub split_of-message-requires : goal.split_of-message-requires
split_of-message-requires c =
    let a = c.args in
    let w = asked (goal.at.split_of-message-requires c).In_ok-check_message in
    (w.named, w.fits, message-short a.variant a.message.now a.ending w)

pub returns : goal.returns
returns c =
    let a = c.args in
    left_behind a.variant (given a.message.now a.ending) a.place a.image.now a.out.now (passed (goal.at.returns c).In_ok-check_message) _ c.split_of-message.ensures.message_value _ _ c.recover_at.ensures
