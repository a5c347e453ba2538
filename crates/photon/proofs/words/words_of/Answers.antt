-- `photon::words::words_of` meets its contract: the columns of the matrix of each variant. Assumes nothing.
use native.Mathlib.Omega.{arith}
use lib.Dec.{lit≤}
use Rattle.photon.proofs.WordSteps.{columns-hold}
use Rattle.photon.proofs.words.words_of.Goals as goal

pub returns-in-1 : goal.returns-in-1
returns-in-1 c = columns-hold 1 (lit≤ tt) (lit≤ tt) _ c.in-1.is _ _ (omega arith) c.columns.ensures

pub returns-in-2 : goal.returns-in-2
returns-in-2 c = columns-hold 2 (lit≤ tt) (lit≤ tt) _ c.in-2.is _ _ (omega arith) c.columns-in-2.ensures

pub returns-in-3 : goal.returns-in-3
returns-in-3 c = columns-hold 3 (lit≤ tt) (lit≤ tt) _ c.in-3.is _ _ (omega arith) c.columns-in-3.ensures

pub returns-in-4 : goal.returns-in-4
returns-in-4 c = columns-hold 4 (lit≤ tt) (lit≤ tt) _ c.in-4.is _ _ (omega arith) c.columns-in-4.ensures

pub returns-in_default : goal.returns-in_default
returns-in_default c = columns-hold 5 (lit≤ tt) (lit≤ tt) c.args.v (omega arith) _ _ (omega arith) c.columns-in_default.ensures
