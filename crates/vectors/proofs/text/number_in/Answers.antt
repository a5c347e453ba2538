-- `vectors::text::number_in` meets its contract: the digits read so far are a number, modulo 2 ^ 32. Assumes nothing.
use mathlib.Core.Path.{refl}
use native.Mathlib.Omega.{arith}
use Rattle.octets.specs.Text.{from_decimal}
use Rattle.vectors.proofs.WordLaws.{number_more}
use Rattle.vectors.proofs.text.number_in.Goals as goal

pub loop-c-init : goal.loop-c-init
unfolding from_decimal
loop-c-init c = refl

pub loop-c-preserved : goal.loop-c-preserved
loop-c-preserved c =
    let l = c.loop-c in
    number_more c.args.word.now l.c-index l.n _ (omega arith) l.invariant (omega arith)
