-- `hasher::whole::hash_with` meets its contract: the checks, and then one run. Assumes nothing.
use mathlib.Core.Path.{◌≡◌, refl, sym, ◌∙◌}
use lib.ListN.{length}
use native.Mathlib.Omega.{arith}
use Rattle.standard.specs.Messages.{Given, given_bits}
use Rattle.standard.specs.Variants.{variant}
use Rattle.standard.proofs.Variants.{known-high}
use Rattle.answers.specs.Refusals.{Done}
use Rattle.chain.specs.MessageBytes.{given}
use Rattle.chain.proofs.MessageLaws.{message-short}
use Rattle.hasher.specs.Reading.{hash_status, hash_into}
use Rattle.hasher.proofs.Calls.{Hashable, whole_says, result_fits, whole-read}
use Rattle.answers.proofs.Statuses.{handed-on}
use Rattle.hasher.proofs.whole.hash_with.Goals as goal

pub returns-in_err-check_hash : goal.returns-in_err-check_hash
unfolding hash_into
returns-in_err-check_hash c =
    let e = c.check_hash.ensures in
    (handed-on _ _ _ c.from_residual.ensures.1 c.in_err-check_hash.was ∙ e, rw (← e, c.in_err-check_hash.was))

pub overflow_cast-v : goal.overflow_cast-v
overflow_cast-v c =
    let what : Given = given c.args.message.now c.args.ending in
    let passed : hash_status c.args.variant what c.args.wanted (length c.args.out.now) ≡ Done = sym c.check_hash.ensures ∙ c.in_ok-check_hash.was in
    let hashable : Hashable c.args.variant what c.args.wanted (length c.args.out.now) = whole_says c.args.variant what c.args.wanted (length c.args.out.now) passed in
    omega (arith, known-high c.args.variant hashable.asked.named)

pub end_of_given-result-requires : goal.end_of_given-result-requires
end_of_given-result-requires c =
    let what : Given = given c.args.message.now c.args.ending in
    let passed : hash_status c.args.variant what c.args.wanted (length c.args.out.now) ≡ Done = sym c.check_hash.ensures ∙ c.in_ok-check_hash.was in
    let hashable : Hashable c.args.variant what c.args.wanted (length c.args.out.now) = whole_says c.args.variant what c.args.wanted (length c.args.out.now) passed in
    let q = hashable.asked in
    (q.named, q.fits, message-short c.args.variant c.args.message.now c.args.ending q)

pub copy_front-requires : goal.copy_front-requires
copy_front-requires c =
    let what : Given = given c.args.message.now c.args.ending in
    let passed : hash_status c.args.variant what c.args.wanted (length c.args.out.now) ≡ Done = sym c.check_hash.ensures ∙ c.in_ok-check_hash.was in
    let hashable : Hashable c.args.variant what c.args.wanted (length c.args.out.now) = whole_says c.args.variant what c.args.wanted (length c.args.out.now) passed in
    let a = c.args in
    let n = c.result_size in
    (omega (arith, result_fits a.variant hashable.asked.named a.wanted _ n.ensures), omega (arith, n.ensures, hashable.room))

pub returns : goal.returns
unfolding hash_into
returns c =
    let what : Given = given c.args.message.now c.args.ending in
    let passed : hash_status c.args.variant what c.args.wanted (length c.args.out.now) ≡ Done = sym c.check_hash.ensures ∙ c.in_ok-check_hash.was in
    let hashable : Hashable c.args.variant what c.args.wanted (length c.args.out.now) = whole_says c.args.variant what c.args.wanted (length c.args.out.now) passed in
    let n = c.result_size in
    let a = c.args in
    whole-read a.variant hashable.asked.named a.wanted n.result n.ensures _ _ a.out.now _ c.copy_front.ensures
    (given_bits (variant a.variant) what) _ refl passed c.end_of_given-result.ensures
