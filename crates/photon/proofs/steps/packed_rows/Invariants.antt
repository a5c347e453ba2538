-- `photon::steps::packed_rows` meets its contract: after i turns the first i rows are packed. Assumes nothing.
use mathlib.Core.Path.{◌≡◌}
use Prim.Native.Nat.{ℕ, ◌<◌}
use Rattle.standard.specs.Grid.{at}
use Rattle.octets.proofs.Upto.{Upto}
use Rattle.photon.specs.Rows.{lane}
use Rattle.photon.proofs.steps.packed_rows.Given as goal

abbrev pub invariant-loop-i : goal.invariant-loop-i
invariant-loop-i l = Upto 0 (λ k x. (j : ℕ) → j < 8 → lane j x ≡ at l.g k j) 16 l.i l.initial.out l.out
