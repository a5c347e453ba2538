-- `octets::numbers::u16_at` meets its contract. Assumes nothing.
use native.Mathlib.Omega.{arith}
use Rattle.octets.proofs.NumberLaws.{two_bytes}
use Rattle.octets.proofs.numbers.u16_at.Goals as goal

pub returns : goal.returns
returns c =
    let a = c.args in
    omega (arith, two_bytes a.bytes.now a.i (omega arith))
