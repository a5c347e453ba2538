-- `photon::words::round4` meets its contract: after k turns the first k bytes of each column are summed. Assumes nothing.
use Rattle.photon.proofs.WordRounds.{Summed}
use Rattle.photon.proofs.words.round4.Given as goal

abbrev pub invariant-loop-k : goal.invariant-loop-k
invariant-loop-k l = Summed l.v l.w l.c l.k l.f
