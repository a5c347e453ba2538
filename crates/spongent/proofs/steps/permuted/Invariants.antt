-- `permuted` is the permutation of the variant v on an image, or its inverse. The loop's invariant: the rounds that are left, from the k-th counter in turn on, lead to the end;
-- zeros stay after the t bits; and the two counters are those of the round k. Assumes nothing.
use Rattle.spongent.proofs.Carried.{Held}
use Rattle.spongent.proofs.steps.permuted.Given as goal

abbrev pub invariant-loop-k : goal.invariant-loop-k
invariant-loop-k l = Held l.v l.way l.initial.out l.out l._k l.counter l.reversed
