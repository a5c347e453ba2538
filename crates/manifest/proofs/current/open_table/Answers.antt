-- `manifest::current::open_table` meets its contract. Assumes nothing.
use Rattle.manifest.specs.Progress.{opened_table}
use Rattle.manifest.proofs.current.open_table.Goals as goal

pub returns : goal.returns
unfolding opened_table
returns c = rw (c.start.ensures, c.variant_for.ensures, c.axis_in.ensures, c.length_in-n.ensures)
