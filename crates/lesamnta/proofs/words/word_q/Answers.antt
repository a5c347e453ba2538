-- `word_q` sums what four bytes give.
-- Assumes nothing.
use native.Mathlib.Nat.{mod-lt}
use native.Mathlib.Omega.{arith}
use Rattle.lesamnta.proofs.CipherTableLaws.{look_up_lem}
use Rattle.lesamnta.proofs.words.word_q.Goals as goal

pub returns : goal.returns
returns c = (look_up_lem 64 c.args.table.now c.requires c.args.x, mod-lt _ {m = 0x100000000} (omega arith))
