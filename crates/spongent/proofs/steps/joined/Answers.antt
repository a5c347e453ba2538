-- `joined` meets its contract: the byte from bit 24 on of the product has all four pairs. Computed at all pairs.
-- Assumes nothing.
use Prim.Native.Nat.{◌+◌, ◌*◌, ◌/◌, ◌%◌}
use native.Mathlib.Omega.{arith}
use Rattle.spongent.proofs.Places.{pairs-back}
use Rattle.spongent.proofs.steps.joined.Goals as goal

pub returns : goal.returns
returns c =
    let a = c.args in
    rw (c.from.ensures, c.from-2.ensures, c.from-3.ensures, c.from-4.ensures)
    (pairs-back (λ w x y z. (w + x * 0x100 + y * 0x10000 + z * 0x1000000) * 0x1041040 / 0x1000000 % 0x100)
    (λ r. r % 4) (λ r. r / 4 % 4) (λ r. r / 16 % 4) (λ r. r / 64 % 4) tt a.w a.x a.y a.z (omega arith) (omega arith) (omega arith) (omega arith))
