-- `photon::cell_kind` meets its contract: the fifth variant has bytes, and the others nibbles. Assumes nothing.
use mathlib.Core.Path.{sym}
use native.Mathlib.Omega.{arith}
use Rattle.standard.specs.Variants.{variant}
use Rattle.photon.specs.Parameters.{photon_of}
use Rattle.photon.proofs.WordPlaces.{four-bits}
use Rattle.photon.proofs.cell_kind.Goals as goal

pub returns-then-v-eq5 : goal.returns-then-v-eq5
unfolding photon_of variant
returns-then-v-eq5 c = rw c.if-v-eq5.true

pub returns-else-v-eq5 : goal.returns-else-v-eq5
returns-else-v-eq5 c = sym (four-bits c.args.v (omega arith) (omega arith))
