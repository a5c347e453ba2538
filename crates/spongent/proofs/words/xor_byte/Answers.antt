-- `xor_byte` changes one byte of the state alone.
-- Assumes nothing.
use native.Mathlib.Omega.{arith}
use Rattle.spongent.proofs.WordLaws.{byte-in-first}
use Rattle.spongent.proofs.words.xor_byte.Goals as goal

pub returns : goal.returns
returns c =
    let a = c.args in
    byte-in-first a.w.now a.k a.x c.byte_at.result (omega arith) (omega arith) c.byte_at.ensures.1 c.byte_at.ensures.0
