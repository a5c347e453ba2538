-- `manifest::report::fresh_report` meets its contract. Assumes nothing.
use Rattle.manifest.specs.Progress.{fresh_report}
use Rattle.manifest.proofs.report.fresh_report.Goals as goal

pub returns : goal.returns
unfolding fresh_report
returns c = rw (c.listed-n.ensures, c.awaited_all.ensures, c.unread.ensures)
