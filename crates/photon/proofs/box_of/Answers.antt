-- `photon::box_of` meets its contract: variant 5 has the 8-bit box, and the others the 4-bit box. Assumes nothing.
use native.Mathlib.Omega.{arith}
use Rattle.standard.specs.Photon.{aes}
use Rattle.standard.specs.Backward.{unaes}
use Rattle.standard.specs.Variants.{variant}
use Rattle.photon.specs.Parameters.{photon_of}
use Rattle.photon.proofs.ParametersOf.{present-of}
use Rattle.photon.proofs.box_of.Goals as goal

pub returns-in-Forward-eq5 : goal.returns-in-Forward-eq5
unfolding photon_of variant aes
returns-in-Forward-eq5 c k = let arm = c.in-Forward-eq5 in rw (arm.is-1, arm.is-0)

pub returns-in-Forward-default : goal.returns-in-Forward-default
returns-in-Forward-default c k =
    let arm = c.in-Forward-default in
    rw (arm.is-0, (present-of c.args.v (omega arith) (omega arith)).0) (c.widened.ensures k)

pub returns-in-Backward-eq5 : goal.returns-in-Backward-eq5
unfolding photon_of variant unaes
returns-in-Backward-eq5 c k = let arm = c.in-Backward-eq5 in rw (arm.is-1, arm.is-0)

pub returns-in-Backward-default : goal.returns-in-Backward-default
returns-in-Backward-default c k =
    let arm = c.in-Backward-default in
    rw (arm.is-0, (present-of c.args.v (omega arith) (omega arith)).1) (c.widened-in-Backward-default.ensures k)
