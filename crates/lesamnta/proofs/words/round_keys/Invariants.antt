-- `round_keys` writes the first word of each key state. The loop's invariant: the first r are written, and the key state gives the others.
-- Assumes nothing.
use Rattle.lesamnta.proofs.RoundLaws.{Keyed}
use Rattle.lesamnta.proofs.words.round_keys.Given as goal

abbrev pub invariant-loop-r : goal.invariant-loop-r
invariant-loop-r l = Keyed l.r l.initial.schedule l.schedule l.out
