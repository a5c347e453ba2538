-- `photon::steps::packed` meets its contract: the cells are the bytes, the lowest first. Assumes nothing.
use Rattle.octets.proofs.Elements.{bytes_lt}
use Rattle.photon.proofs.Lanes.{lane-of_bytes}
use Rattle.photon.proofs.steps.packed.Goals as goal

pub returns : goal.returns
returns c j h = lane-of_bytes c.args.row _ j c.well_formed.0.1.0.1 (bytes_lt 8 c.args.row _ c.well_formed.0) c.from_le_bytes.ensures h
