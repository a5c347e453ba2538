-- `photon::steps::rotated` meets its contract. Assumes nothing.
use native.Mathlib.Omega.{arith}
use Rattle.photon.proofs.Lanes.{lane-turned}
use Rattle.photon.proofs.steps.rotated.Goals as goal

pub returns : goal.returns
returns c = λ j h. lane-turned c.args.d c.args.by j c.args.x (omega arith) (omega arith) (omega arith) h
