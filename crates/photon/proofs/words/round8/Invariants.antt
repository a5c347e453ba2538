-- `photon::words::round8` meets its contract: after k turns the first k rows of each column are summed. Assumes nothing.
use Rattle.photon.proofs.WordRounds.{Shared}
use Rattle.photon.proofs.words.round8.Given as goal

abbrev pub invariant-loop-k : goal.invariant-loop-k
invariant-loop-k l = Shared l.w l.c l.k l.f
