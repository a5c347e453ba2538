-- `deciphered` takes all rounds back. The loop's invariant: the first r rounds, taken back, make of the words what all make of the first ones.
-- Assumes nothing.
use mathlib.Core.Path.{◌≡◌}
use Rattle.lesamnta.proofs.RoundLaws.{back_to}
use Rattle.lesamnta.proofs.words.deciphered.Given as goal

abbrev pub invariant-loop-r : goal.invariant-loop-r
invariant-loop-r l = back_to l.r l.keys l.words ≡ back_to 64 l.keys l.initial.words
