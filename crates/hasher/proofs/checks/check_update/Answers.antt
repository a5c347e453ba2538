-- `hasher::checks::check_update` meets its contract: that it is open, the bit number, and then what follows. Assumes nothing.
use mathlib.Core.Path.{◌≡◌, sym, ◌∙◌}
use mathlib.Core.List.{◌++◌}
use Prim.Native.Nat.{ℕ}
use lib.ListN.{length}
use Rattle.answers.specs.Refusals.{Done}
use Rattle.answers.specs.Checks.{first_refusal}
use Rattle.answers.proofs.Rows.{refused-first, row-second}
use Rattle.answers.proofs.Statuses.{handed-on}
use Rattle.standard.specs.Messages.{Given, given_bits}
use Rattle.chain.specs.Messages.{number_checks}
use Rattle.chain.specs.MessageBytes.{given}
use Rattle.hasher.specs.Running.{variant_of, open_checks, follow_checks}
use Rattle.hasher.proofs.WellFormed.{facts}
use Rattle.hasher.proofs.Calls.{open-says, update-answer, same-room}
use Rattle.hasher.proofs.checks.check_update.Goals as goal

pub returns-in_err-check_number : goal.returns-in_err-check_number
returns-in_err-check_number c =
    let what : Given = given c.args.piece.now c.args.ending in
    let follow : ℕ = length (given_bits (variant_of c.args.h) what) in
    let passed : first_refusal (open_checks c.args.h) ≡ Done = sym c.check_open.ensures ∙ c.in_ok-check_open.was in
    handed-on _ _ _ c.from_residual-in_err-check_number.ensures.1 c.in_err-check_number.was
    ∙ refused-first (number_checks what) (follow_checks c.args.h follow) _ _ c.check_number.ensures c.in_err-check_number.was
    ∙ sym (row-second (open_checks c.args.h) (number_checks what ++ follow_checks c.args.h follow) passed)

pub check_follow-requires : goal.check_follow-requires
check_follow-requires c =
    let passed : first_refusal (open_checks c.args.h) ≡ Done = sym c.check_open.ensures ∙ c.in_ok-check_open.was in
    (facts _ (open-says _ passed).0).few

pub returns : goal.returns
returns c =
    let what : Given = given c.args.piece.now c.args.ending in
    let passed : first_refusal (open_checks c.args.h) ≡ Done = sym c.check_open.ensures ∙ c.in_ok-check_open.was in
    let fits = sym c.check_number.ensures ∙ c.in_ok-check_number.was in
    c.check_follow.ensures
    ∙ same-room c.args.h c.args.piece.now c.args.ending fits
    ∙ sym (update-answer c.args.h what (open-says c.args.h passed) fits)
