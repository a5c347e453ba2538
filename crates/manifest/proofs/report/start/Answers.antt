-- `manifest::report::start` meets its contract. Assumes nothing.
use Rattle.manifest.specs.Progress.{begun}
use Rattle.manifest.proofs.report.start.Goals as goal

pub returns-in-Ok : goal.returns-in-Ok
unfolding begun
returns-in-Ok c = let passed = c.in-Ok.ensures in rw (passed.1, c.fresh_report.ensures, passed.0)

pub returns-in-Err : goal.returns-in-Err
unfolding begun
returns-in-Err c = rw (c.in-Err.ensures, c.empty_report.ensures)
