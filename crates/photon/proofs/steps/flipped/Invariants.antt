-- `photon::steps::flipped` meets its contract: after i turns the first i rows are the last, in reverse. Assumes nothing.
use mathlib.Core.Path.{◌≡◌}
use mathlib.Core.List.{[]}
use Prim.Native.Nat.{◌-◌}
use lib.ListN.{get_or}
use Rattle.octets.proofs.Upto.{Upto}
use Rattle.photon.proofs.steps.flipped.Given as goal

abbrev pub invariant-loop-i : goal.invariant-loop-i
invariant-loop-i l = Upto [] (λ k row. row ≡ get_or l.g (l.d - 1 - k) []) 8 l.i l.initial.out l.out
