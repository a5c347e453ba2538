-- `words_of` holds the bytes of s. The loop's invariant: the first i bytes are in the words, and the others are zero.
-- Assumes nothing.
use mathlib.Core.Path.{◌≡◌}
use lib.ListN.{length}
use Rattle.spongent.proofs.WordLaws.{Filled}
use Rattle.spongent.proofs.words.words_of.Given as goal

abbrev pub invariant-loop-i : goal.invariant-loop-i
invariant-loop-i l = (length l.out ≡ 8) × Filled l.s l.i l.out
