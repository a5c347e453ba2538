-- `photon::steps::doubled` meets its contract: no cell of the two terms runs over into the next. Assumes nothing.
use Prim.Native.Nat.{◌-◌, ◌/◌, ◌^◌, ◌≤◌}
use native.Mathlib.Nat.{mul-le-mul}
use native.Mathlib.Omega.{arith}
use lib.Bits.{and_le_r}
use Rattle.photon.proofs.Lanes.{sevens, ones, lane-double}
use Rattle.photon.proofs.steps.doubled.Goals as goal

pub overflow_mul-result : goal.overflow_mul-result
overflow_mul-result c = omega (arith, and_le_r c.args.x sevens)

pub overflow_mul-result-2 : goal.overflow_mul-result-2
overflow_mul-result-2 c =
    let a = c.args in
    let byte : c.reduction.result ≤ 255 = omega (arith, c.reduction.ensures) in
    omega (arith, mul-le-mul (and_le_r (a.x / 2 ^ (a.s - 1)) ones) byte)

pub returns : goal.returns
returns c = λ j hj h.
    let a = c.args in
    rw c.reduction.ensures (lane-double a.s a.poly a.x j c.requires.le_s.0 c.requires.le_s.1 c.requires.modulus hj h)
