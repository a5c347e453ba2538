-- `photon::steps::rounds` meets its contract: after n turns the first n rounds are done, and the cells are below their bound. Assumes nothing.
use mathlib.Core.Path.{◌≡◌}
use Prim.Native.Nat.{◌^◌}
use Rattle.standard.specs.ForCode.{window, Small}
use Rattle.photon.specs.Parameters.{photon_of}
use Rattle.photon.proofs.RoundsOf.{first}
use Rattle.photon.proofs.steps.rounds.Given as goal

abbrev pub invariant-loop-n : goal.invariant-loop-n
invariant-loop-n l = Small (photon_of l.v).d (2 ^ (photon_of l.v).s) l.out × (window (photon_of l.v).d l.out ≡ first (photon_of l.v) l.way (window (photon_of l.v).d l.initial.out) l.n)
