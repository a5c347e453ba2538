-- `chain::sizes::family_of` meets its contract: the numbers of each family. Assumes nothing.
use native.Mathlib.Omega.{arith}
use Rattle.standard.proofs.Variants.{known-low, known-high}
use Rattle.photon.proofs.ParametersOf.{photon-variant}
use Rattle.spongent.proofs.ParametersOf.{family-of}
use Rattle.chain.proofs.FamilyLaws.{lesamnta-only}
use Rattle.chain.proofs.sizes.family_of.Goals as goal

pub returns-in-0-to-5 : goal.returns-in-0-to-5
returns-in-0-to-5 c =
    let v = c.args.v in
    rw (photon-variant v (known-low v c.requires) (omega arith))

pub returns-in-6-to-10 : goal.returns-in-6-to-10
returns-in-6-to-10 c =
    let v = c.args.v in
    rw (family-of v (omega arith) (omega arith))

pub returns-in_default : goal.returns-in_default
returns-in_default c = lesamnta-only c.args.v (omega (arith, known-high c.args.v c.requires))
