-- `photon::row_constants` meets its contract: its table holds the row constants of each variant. Assumes nothing.
use native.Mathlib.Omega.{arith}
use Rattle.photon.proofs.ParametersOf.{ic-of}
use Rattle.photon.proofs.row_constants.Goals as goal

pub returns : goal.returns
returns c = ic-of c.args.v (omega arith) (omega arith)
