-- `octets::text::write_hex` meets its contract: the digits of the bytes passed are written. Assumes nothing.
use mathlib.Core.Path.{sym}
use native.Mathlib.Omega.{arith}
use Rattle.octets.proofs.HexLaws.{hex-none, hex-more}
use Rattle.octets.proofs.text.write_hex.Goals as goal

pub loop-b-init : goal.loop-b-init
loop-b-init c = (omega arith, sym (hex-none c.args.at c.args.bytes.now c.args.out.now))

pub loop-b-preserved : goal.loop-b-preserved
loop-b-preserved c =
    let l = c.loop-b in
    let a = c.args in
    let more = hex-more a.at a.bytes.now a.out.now l.b-index l.p (omega arith) (omega arith) l.invariant.0 in
    (omega arith, rw (c.write_bytes-p.ensures.out_after, l.invariant.1, c.hex_digit.ensures, c.hex_digit-in-loop-b.ensures) more)
