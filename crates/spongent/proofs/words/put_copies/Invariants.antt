-- `put_copies` writes the look-ups of each byte of a word. The loop's invariant: the first i of them are written.
-- Assumes nothing.
use Rattle.standard.specs.Spongent.{nibbles}
use Rattle.spongent.proofs.TableLaws.{Copied}
use Rattle.spongent.proofs.words.put_copies.Given as goal

abbrev pub invariant-loop-i : goal.invariant-loop-i
invariant-loop-i l = Copied nibbles l.i l.initial.out l.out
