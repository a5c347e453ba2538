-- `xor_block` xors the one byte or the two of a block into the first of the state.
-- Assumes nothing.
use native.Mathlib.Omega.{arith}
use Rattle.spongent.proofs.WordStates.{rate-of, with-one, with_two}
use Rattle.spongent.proofs.words.xor_block.Goals as goal

pub bounds-bytes-at : goal.bounds-bytes-at
bounds-bytes-at c = omega (arith, rate-of c.args.v (omega arith) (omega arith))

pub bounds-bytes-at-then-v-gt7 : goal.bounds-bytes-at-then-v-gt7
bounds-bytes-at-then-v-gt7 c = omega (arith, rate-of c.args.v (omega arith) (omega arith))

pub returns-then-v-gt7 : goal.returns-then-v-gt7
returns-then-v-gt7 c =
    let a = c.args in
    with_two a.v c.requires.0 c.requires.1 a.bytes.now a.at c.requires.2 a.w.now _ (omega arith) c.xor_byte.ensures _ c.xor_byte-then-v-gt7.ensures

pub returns-else-v-gt7 : goal.returns-else-v-gt7
returns-else-v-gt7 c =
    let a = c.args in
    with-one a.v c.requires.0 c.requires.1 a.bytes.now a.at c.requires.2 a.w.now _ (omega arith) c.xor_byte.ensures
