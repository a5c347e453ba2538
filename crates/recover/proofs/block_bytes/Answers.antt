-- `recover::block_bytes` meets its contract: the bytes that r bits take. Assumes nothing.
use native.Mathlib.Omega.{arith}
use Rattle.recover.proofs.block_bytes.Goals as goal

pub returns : goal.returns
returns c = omega (arith, c.div_ceil.ensures, c.block_bits.ensures)
