-- `pairs_in` has the pairs of n bytes. The loop's invariant: those of the first k bytes are written.
-- Assumes nothing.
use mathlib.Core.Path.{◌≡◌}
use mathlib.Core.List.{List}
use Prim.Native.Nat.{ℕ, ◌*◌}
use Rattle.octets.proofs.Upto.{Upto}
use Rattle.spongent.specs.Pairs.{pair_at}
use Rattle.spongent.proofs.steps.pairs_in.Given as goal

abbrev pub Right : List ℕ → ℕ → ℕ → Type 0
Right s j y = y ≡ pair_at s j

abbrev pub invariant-loop-k : goal.invariant-loop-k
invariant-loop-k l = Upto 0 (Right l.s) 144 (4 * l.k) l.initial.out l.out
