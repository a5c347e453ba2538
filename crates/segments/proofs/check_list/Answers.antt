-- `segments::check_list` meets its contract: the checks in order. Assumes nothing.
use mathlib.Core.Path.{◌≡◌, sym, ◌∙◌}
use mathlib.Core.Bool.{true, false}
use borrow.Author.Tests.{lt-ltb, le-ltb}
use Rattle.answers.proofs.Statuses.{handed-on}
use Rattle.standard.specs.Variants.{known}
use Rattle.segments.specs.Digests.{list_status}
use Rattle.segments.proofs.DigestLaws.{list-entry, list-message}
use Rattle.segments.proofs.check_list.Goals as goal

pub returns-then-not-is_known : goal.returns-then-not-is_known
unfolding list_status
returns-then-not-is_known c = rw (sym c.is_known.ensures ∙ c.if-not-is_known.true)

pub returns-then-not-is_list : goal.returns-then-not-is_list
unfolding list_status
returns-then-not-is_list c =
    let named : known c.args.variant ≡ true = sym c.is_known.ensures ∙ c.if-not-is_known.false in
    rw (named, sym c.is_list.ensures ∙ c.if-not-is_list.true)

pub returns-in_err-check_all : goal.returns-in_err-check_all
returns-in_err-check_all c =
    handed-on _ _ _ c.from_residual.ensures.1 c.in_err-check_all.was
    ∙ c.in_err-check_all.was
    ∙ sym (list-entry _ _ _ _ _ (sym c.is_known.ensures ∙ c.if-not-is_known.false) (sym c.is_list.ensures ∙ c.if-not-is_list.false) _ (sym c.check_all.ensures ∙ c.in_err-check_all.was))

pub returns-then-message_length-gt-MAX_MESSAGE_BYTES : goal.returns-then-message_length-gt-MAX_MESSAGE_BYTES
returns-then-message_length-gt-MAX_MESSAGE_BYTES c =
    list-message _ _ _ _ (sym c.is_list.ensures ∙ c.if-not-is_list.false) (sym c.check_all.ensures ∙ c.in_ok-check_all.was)
    (sym c.is_known.ensures ∙ c.if-not-is_known.false) _ _ c.message_length.ensures true (lt-ltb _ _ c.if-message_length-gt-MAX_MESSAGE_BYTES.true)

pub returns : goal.returns
returns c =
    c.check_room.ensures
    ∙ list-message _ _ _ _ (sym c.is_list.ensures ∙ c.if-not-is_list.false) (sym c.check_all.ensures ∙ c.in_ok-check_all.was)
    (sym c.is_known.ensures ∙ c.if-not-is_known.false) c.args.n _ c.message_length.ensures false (le-ltb _ _ c.if-message_length-gt-MAX_MESSAGE_BYTES.false)
