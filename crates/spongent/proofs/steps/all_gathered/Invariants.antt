-- `all_gathered` gathers n bytes from the planes. The loop's invariant: the first i bytes have their pairs, and the others are zero.
-- Assumes nothing.
use Rattle.octets.proofs.Upto.{Upto}
use Rattle.spongent.proofs.Places.{Gathered}
use Rattle.spongent.proofs.steps.all_gathered.Given as goal

abbrev pub invariant-loop-i : goal.invariant-loop-i
invariant-loop-i l = Upto 0 (Gathered l.n l.pairs) 36 l.i l.initial.out l.out
