-- `vectors::text::bytes_in` meets its contract: the bytes said so far stand over the front of the old ones. Assumes nothing.
use native.Mathlib.Omega.{arith}
use Rattle.vectors.proofs.WordLaws.{byte_more}
use Rattle.vectors.proofs.text.bytes_in.Goals as goal

pub loop-i-preserved : goal.loop-i-preserved
loop-i-preserved c =
    let l = c.loop-i in
    byte_more c.args.word.now c.args.out.now l.out l.i c.byte_of.result (omega arith) (omega arith) l.invariant c.byte_of.ensures
