-- `enciphered` runs all rounds forward. The loop's invariant: the rounds from r on make of the words what all make of the first ones.
-- Assumes nothing.
use mathlib.Core.Path.{◌≡◌}
use Rattle.lesamnta.proofs.RoundLaws.{to_go}
use Rattle.lesamnta.proofs.words.enciphered.Given as goal

abbrev pub invariant-loop-r : goal.invariant-loop-r
invariant-loop-r l = (to_go l.r l.words l.schedule ≡ to_go 0 l.initial.words l.initial.schedule)
