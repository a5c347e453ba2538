-- `photon::words::row_bit` meets its contract. Assumes nothing.
use native.Mathlib.Omega.{arith}
use borrow.Author.Tests.{eq-eqb, ne_eqb}
use Rattle.photon.proofs.WordPlaces.{row-place}
use Rattle.photon.proofs.words.row_bit.Goals as goal

pub returns-then-i-d : goal.returns-then-i-d
returns-then-i-d c = (rw (eq-eqb _ _ c.if-i-d.true) at (row-place c.args.d c.requires.1 c.requires.2 c.args.i c.requires.0), omega arith)

pub returns-else-i-d : goal.returns-else-i-d
returns-else-i-d c = (rw (ne_eqb _ _ c.if-i-d.false) at (row-place c.args.d c.requires.1 c.requires.2 c.args.i c.requires.0), omega arith)
