-- `put_lanes` puts the four lanes, the lowest first.
-- Assumes nothing.
use Prim.Native.Nat.{◌-◌, ◌*◌}
use Rattle.spongent.proofs.LanePlaces.{Put}
use Rattle.spongent.proofs.words.put_lanes.Given as goal

abbrev pub invariant-loop-p : goal.invariant-loop-p
invariant-loop-p l = Put l.lanes l.at l.n l.initial.out l.out l.rest l.p

abbrev pub decreases-loop-p : goal.decreases-loop-p
decreases-loop-p l = 8 * l.n - l.p
