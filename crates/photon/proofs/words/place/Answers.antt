-- `photon::words::place` meets its contract. Assumes nothing.
use mathlib.Core.Path.{ap}
use native.Mathlib.Omega.{arith}
use Rattle.photon.specs.Parameters.{width}
use Rattle.photon.proofs.words.place.Goals as goal

pub byte_bit-requires : goal.byte_bit-requires
byte_bit-requires c = omega (arith, c.requires.3 (ap width c.in-Byte.is))

pub returns-in-Nibble : goal.returns-in-Nibble
returns-in-Nibble c = rw c.in-Nibble.is (c.row_bit.ensures.0, omega (arith, c.row_bit.ensures.1))

pub returns-in-Byte : goal.returns-in-Byte
returns-in-Byte c = rw (c.requires.3 (ap width c.in-Byte.is), c.in-Byte.is) (c.byte_bit.ensures.0, omega (arith, c.byte_bit.ensures.1))
