-- `answers::text::write_refusal` meets its contract: the line of "refused" and the number. Assumes nothing.
use native.Mathlib.Omega.{arith}
use Rattle.answers.proofs.text.write_refusal.Goals as goal

pub returns : goal.returns
returns c =
    let n = c.number.ensures in
    rw (← n, ← c.from.ensures) (record { out_after = c.write_line.ensures.out_after; value = (omega (arith, c.write_line.ensures.value.0), omega (arith, c.write_line.ensures.value.1)) })
