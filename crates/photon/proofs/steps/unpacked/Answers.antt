-- `photon::steps::unpacked` meets its contract: the cells are the bytes, the lowest first. Assumes nothing.
use Rattle.photon.proofs.Lanes.{byte-lane}
use Rattle.photon.proofs.steps.unpacked.Goals as goal

pub returns : goal.returns
returns c j h = rw c.to_le_bytes.ensures (byte-lane j c.args.x h)
