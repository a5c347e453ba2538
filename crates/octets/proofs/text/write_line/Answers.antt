-- `octets::text::write_line` meets its contract: the four parts of a line, one after the other. Assumes nothing.
use native.Mathlib.Omega.{arith}
use Rattle.octets.proofs.DecimalLaws.{decimal-short}
use Rattle.octets.proofs.LineLaws.{line-short, line-written}
use Rattle.octets.proofs.text.write_line.Goals as goal

pub write_decimal-counted-requires : goal.write_decimal-counted-requires
write_decimal-counted-requires c =
    let a = c.args in
    omega (arith, decimal-short a.n (omega arith))

pub write_bytes-requires : goal.write_bytes-requires
write_bytes-requires c =
    let a = c.args in
    omega (arith, decimal-short a.n (omega arith))

pub returns : goal.returns
returns c =
    let a = c.args in
    let all = line-written a.at a.name.now a.n a.out.now (omega (arith, decimal-short a.n (omega arith))) (c.write_bytes-named.ensures.out_after, c.write_bytes-named.ensures.value) (c.write_bytes-spaced.ensures.out_after, c.write_bytes-spaced.ensures.value) (c.write_decimal-counted.ensures.out_after, c.write_decimal-counted.ensures.value) (c.write_bytes.ensures.out_after, c.write_bytes.ensures.value) in
    record { out_after = all.0; value = (all.1, omega (arith, all.1, line-short a.name.now a.n (omega arith))) }
