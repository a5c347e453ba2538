-- `hasher::results::read` meets its contract: the checks, and the result of the state over the front of the output. Assumes nothing.
use mathlib.Core.Path.{sym, ◌∙◌}
use lib.ListN.{length}
use Rattle.hasher.specs.Running.{state_of}
use Rattle.hasher.specs.Reading.{read_into}
use Rattle.hasher.proofs.Owned.{owned}
use Rattle.hasher.proofs.WellFormed.{facts, state-kept}
use Rattle.hasher.proofs.Calls.{read-says}
use Rattle.answers.proofs.Statuses.{handed-on}
use Rattle.hasher.proofs.results.read.Goals as goal

pub returns-in_err-check_read : goal.returns-in_err-check_read
unfolding read_into
returns-in_err-check_read c =
    let e = c.check_read.ensures in
    (handed-on _ _ _ c.from_residual.ensures.1 c.in_err-check_read.was ∙ e, rw (← e, c.in_err-check_read.was))

pub write_result-requires : goal.write_result-requires
write_result-requires c =
    let h = c.args.h in
    let r = read-says h c.args.wanted (length c.args.out.now) (sym c.check_read.ensures ∙ c.in_ok-check_read.was) in
    let f = facts h r.whole in
    record { v_value = f.named; holds = state-kept h f (owned h _ c.well_formed.0); wanted_in_bounds = r.room }

pub returns : goal.returns
unfolding read_into state_of
returns c =
    let e = sym c.check_read.ensures ∙ c.in_ok-check_read.was in
    (sym e, rw e c.write_result.ensures)
