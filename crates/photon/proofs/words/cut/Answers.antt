-- `photon::words::cut` meets its contract. Assumes nothing.
use mathlib.Core.Path.{refl}
use native.Mathlib.Omega.{arith}
use Rattle.photon.proofs.words.cut.Goals as goal

pub returns-in-Nibble : goal.returns-in-Nibble
returns-in-Nibble c = rw c.in-Nibble.is (refl, omega arith)

pub returns-in-Byte : goal.returns-in-Byte
returns-in-Byte c = rw c.in-Byte.is (refl, omega arith)
