-- `all_joined` packs pairs in n bytes. The loop's invariant: the first k bytes have their pairs, or are zero past the n.
-- Assumes nothing.
use mathlib.Core.Path.{◌≡◌}
use Prim.Native.Nat.{◌≤◌, ◌<◌}
use Rattle.octets.proofs.Upto.{Upto}
use Rattle.spongent.specs.Pairs.{Joined}
use Rattle.spongent.proofs.steps.all_joined.Given as goal

abbrev pub invariant-loop-k : goal.invariant-loop-k
invariant-loop-k l = Upto 0 (λ m x. (m < l.n → Joined l.pairs m x) × (l.n ≤ m → x ≡ 0)) 36 l.k l.initial.byte-items l.byte-items
