-- `photon::words::entries_288` meets its contract. Assumes nothing.
use Rattle.standard.specs.Variants.{variant}
use Rattle.photon.specs.Parameters.{photon_of}
use Rattle.photon.proofs.words.entries_288.Goals as goal

pub returns : goal.returns
unfolding photon_of variant
returns c = c.shares_288.ensures
