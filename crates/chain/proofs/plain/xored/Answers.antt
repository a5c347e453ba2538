-- `chain::plain::xored` meets its contract: the bytes passed are xored in. Assumes nothing.
use mathlib.Core.Path.{sym}
use native.Mathlib.Omega.{arith}
use native.Mathlib.Numerals.{add-one}
use lib.Seq.{take_all}
use Rattle.standard.proofs.BitLaws.{bytes_xor-none, bytes_xor-more, bits_in-bytes_xor}
use Rattle.chain.proofs.plain.xored.Goals as goal

pub loop-i-init : goal.loop-i-init
loop-i-init c = sym (bytes_xor-none c.args.s)

pub loop-i-preserved : goal.loop-i-preserved
loop-i-preserved c = rw (add-one, c.loop-i.invariant) (bytes_xor-more c.args.s c.args.b.now c.loop-i.i (omega arith) (omega arith))

pub returns : goal.returns
returns c o =
    let b = c.args.b.now in
    rw (c.loop-i.invariant, take_all c.loop-i.i b (omega arith)) (bits_in-bytes_xor o c.args.s b)
