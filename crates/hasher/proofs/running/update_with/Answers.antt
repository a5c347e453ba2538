-- `hasher::running::update_with` meets its contract: the checks, and the running hash that goes on. Assumes nothing.
use Rattle.hasher.specs.Running.{updated}
use Rattle.hasher.proofs.running.update_with.Goals as goal

pub returns-in-Ok : goal.returns-in-Ok
unfolding updated
returns-in-Ok c = rw (← c.check_update-status.ensures, c.in-Ok.is, c.grown_by-hasher.ensures)

pub returns-in-Err : goal.returns-in-Err
unfolding updated
returns-in-Err c = rw (← c.check_update-status.ensures, c.in-Err.is)
