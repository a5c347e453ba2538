-- `photon::words::spot` meets its contract. Assumes nothing.
use native.Mathlib.Omega.{arith}
use borrow.Author.Tests.{eq-eqb, ne_eqb}
use Rattle.photon.proofs.words.spot.Goals as goal

pub returns-then-k-n : goal.returns-then-k-n
returns-then-k-n c = (rw (eq-eqb _ _ c.if-k-n.true), omega arith)

pub returns-else-k-n : goal.returns-else-k-n
returns-else-k-n c = (rw (ne_eqb _ _ c.if-k-n.false), omega arith)
