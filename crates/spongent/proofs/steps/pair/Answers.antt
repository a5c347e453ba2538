-- `pair` is what a byte gives to plane b.
-- Assumes nothing.
use mathlib.Core.Path.{ap}
use Prim.Native.Nat.{ℕ, ◌+◌, ◌*◌, ◌/◌, ◌%◌, ◌^◌}
use lib.Pow.{shr-shr}
use Rattle.spongent.specs.Pairs.{plane_pair}
use Rattle.spongent.proofs.steps.pair.Goals as goal

pub returns : goal.returns
unfolding plane_pair
returns c =
    let x : ℕ = c.args.x in
    let b : ℕ = c.args.b in
    ap (λ (y : ℕ). x / 2 ^ b % 2 + y % 2 * 2) (shr-shr x b 4)
