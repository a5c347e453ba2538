-- `hasher::running::finish` meets its contract: the checks, and the running hash that has ended. Assumes nothing.
use Rattle.hasher.specs.Running.{finished}
use Rattle.hasher.proofs.running.finish.Goals as goal

pub returns-in-Ok : goal.returns-in-Ok
unfolding finished
returns-in-Ok c = rw (← c.check_open-status.ensures, c.in-Ok.is, c.ended-hasher.ensures)

pub returns-in-Err : goal.returns-in-Err
unfolding finished
returns-in-Err c = rw (← c.check_open-status.ensures, c.in-Err.is)
