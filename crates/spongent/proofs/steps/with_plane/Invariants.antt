-- `with_plane` writes plane b from a place on. The loop's invariant: the first i of its pairs are written, and those before the place are as they were.
-- Assumes nothing.
use lib.ListN.{get_or}
use Rattle.octets.proofs.FilledFrom.{FilledFrom}
use Rattle.spongent.specs.Pairs.{plane_pair}
use Rattle.spongent.proofs.steps.with_plane.Given as goal

abbrev pub invariant-loop-i : goal.invariant-loop-i
invariant-loop-i l = FilledFrom l.from (λ k. plane_pair l.b (get_or l.s k 0)) l.i l.initial.out l.out
