-- `recover::cipher_difference` meets its contract. Assumes nothing.
use native.Mathlib.Omega.{arith}
use Rattle.octets.proofs.Elements.{bytes_lt}
use Rattle.standard.specs.Layout.{state_room}
use Rattle.recover.proofs.Runs.{cipher-between}
use Rattle.recover.proofs.cipher_difference.Goals as goal

pub returns : goal.returns
returns c =
    let r = c.xored in
    cipher-between c.args.s c.args.end c.requires (omega arith) c.decrypt_front.result c.at_front-enciphered.result c.second_half-half.result r.result
    c.decrypt_front.ensures c.at_front-enciphered.ensures c.second_half-half.ensures (bytes_lt state_room r.result _ r.type_inv) (omega arith) r.ensures
