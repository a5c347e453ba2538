-- `photon::size_of` meets its contract: each variant has its size. Assumes nothing.
use native.Mathlib.Omega.{arith}
use mathlib.Core.Path.{◌≡◌}
use Rattle.standard.specs.Variants.{variant}
use Rattle.photon.specs.Parameters.{photon_of}
use Rattle.photon.proofs.size_of.Goals as goal

pub returns-in-1 : goal.returns-in-1
unfolding photon_of variant
returns-in-1 c = rw c.in-1.is

pub returns-in-2 : goal.returns-in-2
unfolding photon_of variant
returns-in-2 c = rw c.in-2.is

pub returns-in-3 : goal.returns-in-3
unfolding photon_of variant
returns-in-3 c = rw c.in-3.is

pub returns-in-4 : goal.returns-in-4
unfolding photon_of variant
returns-in-4 c = rw c.in-4.is

pub returns-in_default : goal.returns-in_default
unfolding photon_of variant
returns-in_default c = let five : c.args.v ≡ 5 = omega arith in rw five
