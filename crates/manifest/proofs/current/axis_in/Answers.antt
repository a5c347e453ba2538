-- `manifest::current::axis_in` meets its contract. Assumes nothing.
use Rattle.manifest.specs.Tables.{axis_in}
use Rattle.manifest.proofs.current.axis_in.Goals as goal

pub returns : goal.returns
unfolding axis_in
returns c = c.u16_at.ensures
