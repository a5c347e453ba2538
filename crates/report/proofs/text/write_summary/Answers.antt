-- `report::text::write_summary` meets its contract: the six lines, one after the other. Assumes nothing.
use native.Mathlib.Omega.{arith}
use Rattle.report.proofs.LineLaws.{lines-written}
use Rattle.report.proofs.text.write_summary.Goals as goal

pub returns : goal.returns
returns c =
    let a = c.args in
    let all = lines-written a.s a.out.now (omega arith) (c.write_line-listed.ensures.out_after, c.write_line-listed.ensures.value.0) (c.write_line-tables.ensures.out_after, c.write_line-tables.ensures.value.0) (c.write_line-equal.ensures.out_after, c.write_line-equal.ensures.value.0) (c.write_line-unequal.ensures.out_after, c.write_line-unequal.ensures.value.0) (c.write_line-untold.ensures.out_after, c.write_line-untold.ensures.value.0) (c.write_line.ensures.out_after, c.write_line.ensures.value.0) in
    record { out_after = all.0; value = (all.1, omega arith) }
