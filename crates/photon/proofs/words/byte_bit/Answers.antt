-- `photon::words::byte_bit` meets its contract. Assumes nothing.
use native.Mathlib.Omega.{arith}
use borrow.Author.Tests.{eq-eqb, ne_eqb}
use Rattle.photon.proofs.WordPlaces.{byte-place}
use Rattle.photon.proofs.words.byte_bit.Goals as goal

pub returns-then-i-eq2 : goal.returns-then-i-eq2
returns-then-i-eq2 c = (rw (eq-eqb _ _ c.if-i-eq2.true) at (byte-place c.args.i c.requires), omega arith)

pub returns-else-i-eq2 : goal.returns-else-i-eq2
returns-else-i-eq2 c = (rw (ne_eqb _ _ c.if-i-eq2.false) at (byte-place c.args.i c.requires), omega arith)
