-- `octets::numbers::u32_at` meets its contract. Assumes nothing.
use native.Mathlib.Omega.{arith}
use Rattle.octets.proofs.NumberLaws.{four_bytes}
use Rattle.octets.proofs.numbers.u32_at.Goals as goal

pub returns : goal.returns
returns c =
    let a = c.args in
    omega (arith, four_bytes a.bytes.now a.i (omega arith))
