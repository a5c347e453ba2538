-- `photon::steps::bit_sum` meets its contract: after i turns the sum has the first i rows whose cell is odd, and the rest holds the other cells. Assumes nothing.
use mathlib.Core.Path.{◌≡◌}
use Prim.Native.Nat.{ℕ, ◌+◌}
use lib.ListN.{get_or}
use Rattle.photon.specs.Rows.{lane, odd_sum}
use Rattle.photon.proofs.steps.bit_sum.Given as goal

abbrev pub invariant-loop-i : goal.invariant-loop-i
invariant-loop-i l = (l.sum ≡ odd_sum (λ k. lane k l.y) (λ k. get_or l.rows (l.n + k) 0) l.i) × ((k : ℕ) → lane k l.rest ≡ lane (k + l.i) l.y)
