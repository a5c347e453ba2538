-- `put` xors a lane into the pairs from its place on.
-- Assumes nothing.
use native.Mathlib.Omega.{arith}
use Rattle.spongent.proofs.LanePlaces.{put-pair}
use Rattle.spongent.proofs.words.put.Goals as goal

pub returns : goal.returns
returns c =
    let a = c.args in
    put-pair a.out.now a.p a.lane (omega arith) (omega arith) (omega arith) (omega arith)
