-- `rounds` is the permutation of the variant V. The loop's invariant: the rounds that are left lead to the end, and the
-- two counters are those of the round k. Assumes nothing.
use Rattle.standard.specs.declared.Direction.TheVariants.{Forward}
use Rattle.spongent.specs.Parameters.{spongent_of}
use Rattle.spongent.specs.Words.{state_of_bytes}
use Rattle.spongent.proofs.Carried.{Carried}
use Rattle.spongent.proofs.words.rounds.Given as goal

abbrev pub invariant-loop-k : goal.invariant-loop-k
invariant-loop-k g l =
    let p = spongent_of g.row.V in
    Carried g.row.V Forward (state_of_bytes p l.initial.w) (state_of_bytes p l.w) l._k l.counter l.reversed
