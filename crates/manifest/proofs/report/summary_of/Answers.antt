-- `manifest::report::summary_of` meets its contract. Assumes nothing.
use Rattle.manifest.specs.Progress.{counts_so_far}
use Rattle.manifest.proofs.report.summary_of.Goals as goal

pub returns : goal.returns
unfolding counts_so_far
returns c = rw (c.tallied.ensures, c.from.ensures, c.from-2.ensures, c.from-3.ensures, c.from-4.ensures, c.from-5.ensures)
