-- `photon::words::rounds8` meets its contract: after r turns r rounds are made. Assumes nothing.
use Rattle.photon.proofs.WordRounds.{Rounded}
use Rattle.photon.proofs.words.rounds8.Given as goal

abbrev pub invariant-loop-r : goal.invariant-loop-r
invariant-loop-r l = Rounded 5 l.r l.initial.w l.w
