-- `chain::message::check_message` meets its contract: the checks in order. Assumes nothing.
use mathlib.Core.Path.{sym, ◌∙◌}
use native.Mathlib.Omega.{arith}
use Rattle.answers.proofs.Statuses.{handed-on}
use Rattle.answers.proofs.Rows.{refused-first}
use Rattle.standard.specs.Variants.{variant}
use Rattle.chain.specs.Messages.{number_checks}
use Rattle.chain.specs.MessageBytes.{given}
use Rattle.chain.proofs.MessageLaws.{given-most, given-least, message-long, message-passes}
use Rattle.chain.proofs.message.check_message.Goals as goal

pub returns-then-not-is_known : goal.returns-then-not-is_known
returns-then-not-is_known c = rw (sym c.is_known.ensures ∙ c.if-not-is_known.true)

pub returns-in_err-check_number : goal.returns-in_err-check_number
returns-in_err-check_number c =
    rw (handed-on _ _ _ c.from_residual.ensures.1 c.in_err-check_number.was, sym c.is_known.ensures ∙ c.if-not-is_known.false)
    (refused-first (number_checks (given c.args.message.now c.args.ending)) _ _ _ c.check_number.ensures c.in_err-check_number.was)

pub returns-then-message-gt-MAX_MESSAGE_BYTES : goal.returns-then-message-gt-MAX_MESSAGE_BYTES
returns-then-message-gt-MAX_MESSAGE_BYTES c =
    let fits = sym c.check_number.ensures ∙ c.in_ok-check_number.was in
    sym (message-long c.args.variant (given c.args.message.now c.args.ending) (sym c.is_known.ensures ∙ c.if-not-is_known.false) fits
    (omega (arith, given-least (variant c.args.variant) c.args.message.now c.args.ending fits, c.if-message-gt-MAX_MESSAGE_BYTES.true)))

pub returns : goal.returns
returns c =
    let fits = sym c.check_number.ensures ∙ c.in_ok-check_number.was in
    sym (message-passes c.args.variant (given c.args.message.now c.args.ending) (sym c.is_known.ensures ∙ c.if-not-is_known.false) fits
    (omega (arith, given-most (variant c.args.variant) c.args.message.now c.args.ending fits, c.if-message-gt-MAX_MESSAGE_BYTES.false)))
