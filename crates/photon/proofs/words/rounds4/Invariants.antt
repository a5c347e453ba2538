-- `photon::words::rounds4` meets its contract: after r turns r rounds are made. Assumes nothing.
use Rattle.photon.proofs.WordRounds.{Rounded}
use Rattle.photon.proofs.words.rounds4.Given as goal

abbrev pub invariant-loop-r : goal.invariant-loop-r
invariant-loop-r l = Rounded l.v l.r l.initial.w l.w
