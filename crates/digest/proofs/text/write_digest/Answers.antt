-- `digest::text::write_digest` meets its contract: the digits, and the line end after them. Assumes nothing.
use native.Mathlib.Omega.{arith}
use Rattle.octets.proofs.HexLaws.{length-hex_of}
use Rattle.digest.proofs.LineLaws.{digest-written}
use Rattle.digest.proofs.text.write_digest.Goals as goal

pub returns : goal.returns
returns c =
    let a = c.args in
    let all = digest-written a.digest.now a.out.now (omega (arith, c.write_hex-end.ensures.value))
    (c.write_hex-end.ensures.out_after, omega (arith, c.write_hex-end.ensures.value, length-hex_of a.digest.now)) (c.write_bytes.ensures.out_after, c.write_bytes.ensures.value) in
    record { out_after = all.0; value = (omega (arith, all.1), omega (arith, c.write_bytes.ensures.value, c.write_hex-end.ensures.value)) }
