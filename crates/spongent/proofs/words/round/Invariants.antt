-- `round` is a round by look-ups. The loop's invariant: the first j words are looked up, and nothing else is written.
-- Assumes nothing.
use Rattle.standard.specs.Spongent.{nibbles}
use Rattle.spongent.proofs.LookUpRound.{Looked}
use Rattle.spongent.proofs.words.round.Given as goal

abbrev pub invariant-loop-j : goal.invariant-loop-j
invariant-loop-j l = Looked nibbles l.n l.w l.j l.out
