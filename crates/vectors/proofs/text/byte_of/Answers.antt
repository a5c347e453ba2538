-- `vectors::text::byte_of` meets its contract. Assumes nothing.
use native.Mathlib.Omega.{arith}
use Rattle.vectors.specs.Words.{pair_value}
use Rattle.vectors.proofs.WordLaws.{digit-small}
use Rattle.vectors.proofs.text.byte_of.Goals as goal

pub overflow_mul-result : goal.overflow_mul-result
overflow_mul-result c =
    let upper = rw c.digit.ensures at c.unwrap_or.ensures in
    omega (arith, upper, digit-small c.args.upper)

pub overflow_add-result : goal.overflow_add-result
overflow_add-result c =
    let upper = rw c.digit.ensures at c.unwrap_or.ensures in
    let lower = rw c.digit-2.ensures at c.unwrap_or-2.ensures in
    omega (arith, upper, lower, digit-small c.args.upper, digit-small c.args.lower)

pub returns : goal.returns
unfolding pair_value
returns c = cc
