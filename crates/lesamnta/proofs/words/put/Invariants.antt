-- `put` writes numbers times a factor. The loop's invariant: the first k are written.
-- Assumes nothing.
use Prim.Native.Nat.{◌*◌}
use lib.ListN.{get_or}
use Rattle.octets.proofs.FilledFrom.{FilledFrom}
use Rattle.lesamnta.proofs.words.put.Given as goal

abbrev pub invariant-loop-k : goal.invariant-loop-k
invariant-loop-k l = FilledFrom l.at (λ k. get_or l.numbers k 0 * l.factor) l.k l.initial.out l.out
