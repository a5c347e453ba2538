-- `photon::words::front` meets its contract: the rows that hold the bits given out. Assumes nothing.
use native.Mathlib.Omega.{arith}
use lib.Dec.{lit≤}
use Rattle.photon.proofs.ImageRows.{sides, front-rows}
use Rattle.photon.proofs.words.front.Goals as goal

pub image_of-requires : goal.image_of-requires
image_of-requires c = sides 1 (lit≤ tt) (lit≤ tt) 1 (lit≤ tt)

pub returns-in-1 : goal.returns-in-1
returns-in-1 c = front-rows 1 (lit≤ tt) (lit≤ tt) _ c.in-1.is _ _ c.image_of.ensures

pub image_of-requires-in-2 : goal.image_of-requires-in-2
image_of-requires-in-2 c = sides 2 (lit≤ tt) (lit≤ tt) 1 (lit≤ tt)

pub returns-in-2 : goal.returns-in-2
returns-in-2 c = front-rows 2 (lit≤ tt) (lit≤ tt) _ c.in-2.is _ _ c.image_of-in-2.ensures

pub image_of-requires-in-3 : goal.image_of-requires-in-3
image_of-requires-in-3 c = sides 3 (lit≤ tt) (lit≤ tt) 2 (lit≤ tt)

pub returns-in-3 : goal.returns-in-3
returns-in-3 c = front-rows 3 (lit≤ tt) (lit≤ tt) _ c.in-3.is _ _ c.image_of-in-3.ensures

pub image_of-requires-in-4 : goal.image_of-requires-in-4
image_of-requires-in-4 c = sides 4 (lit≤ tt) (lit≤ tt) 1 (lit≤ tt)

pub returns-in-4 : goal.returns-in-4
returns-in-4 c = front-rows 4 (lit≤ tt) (lit≤ tt) _ c.in-4.is _ _ c.image_of-in-4.ensures

pub image_of-requires-in_default : goal.image_of-requires-in_default
image_of-requires-in_default c = sides 5 (lit≤ tt) (lit≤ tt) 1 (lit≤ tt)

pub returns-in_default : goal.returns-in_default
returns-in_default c = front-rows 5 (lit≤ tt) (lit≤ tt) c.args.v (omega arith) _ _ c.image_of-in_default.ensures
