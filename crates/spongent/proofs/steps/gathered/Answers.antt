-- `gathered` gives its pairs to the planes: computed at all pairs.
-- Assumes nothing.
use Prim.Native.Nat.{◌+◌, ◌*◌, ◌/◌, ◌%◌}
use native.Mathlib.Omega.{arith}
use Rattle.spongent.specs.Pairs.{plane_pair}
use Rattle.spongent.proofs.Places.{pairs-back}
use Rattle.spongent.proofs.steps.gathered.Goals as goal

pub returns : goal.returns
unfolding plane_pair
returns c =
    let a = c.args in
    pairs-back (λ w x y z. w % 2 + x % 2 * 2 + y % 2 * 4 + z % 2 * 8 + w / 2 * 16 + x / 2 * 32 + y / 2 * 64 + z / 2 * 128)
    (plane_pair 0) (plane_pair 1) (plane_pair 2) (plane_pair 3) tt a.w a.x a.y a.z (omega arith) (omega arith) (omega arith) (omega arith)
