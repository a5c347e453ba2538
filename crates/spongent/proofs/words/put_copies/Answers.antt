-- `put_copies` writes the look-ups of each byte of a word. The loop's invariant: the first i of them are written.
-- Assumes nothing.
use native.Mathlib.Omega.{arith}
use Rattle.standard.specs.Spongent.{nibbles}
use Rattle.octets.proofs.Upto.{upto-more}
use Rattle.spongent.proofs.TableLaws.{look-up-shifted}
use Rattle.spongent.proofs.words.put_copies.Goals as goal

pub loop-i-preserved : goal.loop-i-preserved
loop-i-preserved c =
    let l = c.loop-i in
    upto-more l.i _ l.out _ (omega arith) (look-up-shifted nibbles c.args.table.now c.requires.1 l.i (omega arith)) l.invariant
