-- `manifest::current::length_in` meets its contract. Assumes nothing.
use Rattle.manifest.specs.Tables.{length_in}
use Rattle.manifest.proofs.current.length_in.Goals as goal

pub returns : goal.returns
unfolding length_in
returns c = c.u32_at.ensures
