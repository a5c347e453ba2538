-- `chain::message::is_bit_number` meets its contract: the tests one by one. Assumes nothing.
use mathlib.Core.Path.{sym}
use native.Mathlib.Omega.{arith}
use borrow.Author.Tests.{lt-ltb, le-ltb}
use Rattle.chain.proofs.message.is_bit_number.Goals as goal

pub returns-else-n-gt0 : goal.returns-else-n-gt0
returns-else-n-gt0 c = sym (rw (le-ltb 0 c.args.n (omega arith)))

pub returns-in_default : goal.returns-in_default
returns-in_default c =
    let a = c.args in
    sym (rw (lt-ltb 0 a.n (omega arith), le-ltb 0 a.bits (omega arith)))
