-- `spread_word` sums the look-ups of n bytes. The loop's invariant: the sum of those of the first k.
-- Assumes nothing.
use mathlib.Core.Path.{◌≡◌}
use Rattle.standard.specs.Spongent.{nibbles}
use Rattle.spongent.specs.Words.{spread_word}
use Rattle.spongent.proofs.words.spread_word.Given as goal

abbrev pub invariant-loop-k : goal.invariant-loop-k
invariant-loop-k l = l.sum ≡ spread_word nibbles l.k l.w
