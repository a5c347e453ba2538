-- `photon::steps::unpacked_rows` meets its contract: after i turns the first i rows are unpacked. Assumes nothing.
use mathlib.Core.Path.{◌≡◌}
use mathlib.Core.List.{[]}
use Prim.Native.Nat.{ℕ, ◌+◌, ◌<◌}
use lib.ListN.{get_or}
use Rattle.octets.proofs.Upto.{Upto}
use Rattle.photon.specs.Rows.{lane}
use Rattle.photon.proofs.steps.unpacked_rows.Given as goal

abbrev pub invariant-loop-i : goal.invariant-loop-i
invariant-loop-i l = Upto [] (λ k row. (j : ℕ) → j < 8 → get_or row j 0 ≡ lane j (get_or l.rows (l.d + k) 0)) 8 l.i l.initial.out l.out
