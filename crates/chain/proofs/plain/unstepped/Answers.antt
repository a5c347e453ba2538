-- `chain::plain::unstepped` meets its contract: the permutation is taken back, and the block xored out. Assumes nothing.
use native.Mathlib.Omega.{arith}
use Rattle.octets.proofs.Elements.{bytes_lt}
use Rattle.standard.specs.Layout.{state_room}
use Rattle.chain.proofs.States.{taken_back}
use Rattle.chain.proofs.plain.unstepped.Goals as goal

pub returns : goal.returns
returns c =
    let a = c.args in
    let p = c.permuted-before in
    let x = c.xored in
    taken_back a.v c.requires.v_value.0 c.requires.v_value.1 a.s p.result x.result a.b (omega arith) (omega arith) (omega arith)
    (bytes_lt state_room x.result _ x.type_inv) (omega arith) p.ensures c.requires.holds_block x.ensures
