-- `chain::padding::with_padding_bit` meets its contract: the bits, and the 1 bit behind them. Assumes nothing.
use native.Mathlib.Omega.{arith}
use Rattle.chain.proofs.MessageLaws.{one-lt, one-bits}
use Rattle.chain.proofs.padding.with_padding_bit.Goals as goal

-- the sum is a byte
pub overflow_add-result : goal.overflow_add-result
overflow_add-result c = omega (arith, one-lt c.args.k c.args.n c.requires.0 c.requires.1)

pub overflow_cast-result-3 : goal.overflow_cast-result-3
overflow_cast-result-3 c = omega (arith, one-lt c.args.k c.args.n c.requires.0 c.requires.1)

pub returns : goal.returns
returns c = one-bits c.args.k c.args.n c.requires.0 c.requires.1
