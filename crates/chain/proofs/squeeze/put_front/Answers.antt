-- `chain::squeeze::put_front` meets its contract: the half bytes passed are appended. Assumes nothing.
use mathlib.Core.Path.{◌≡◌, sym, ap, ◌∙◌}
use mathlib.Core.List.{append-nil}
use Prim.Native.Nat.{ℕ, ◌+◌, ◌*◌}
use native.Mathlib.Omega.{arith}
use lib.ListN.{length}
use Rattle.standard.specs.Bits.{high_first, pack, unpack}
use Rattle.standard.proofs.BitLaws.{length-pack}
use Rattle.standard.specs.Layout.{state_room}
use Rattle.octets.proofs.CellLaws.{cell-in-lt, nibble-is}
use Rattle.chain.proofs.SqueezeLaws.{front-size, front_kept, front-next}
use Rattle.chain.proofs.squeeze.put_front.Goals as goal

pub loop-i-init : goal.loop-i-init
loop-i-init c = c.requires.out_value ∙ ap (pack high_first state_room) (sym (append-nil _))

pub put_nibble-requires : goal.put_nibble-requires
put_nibble-requires c =
    let l = c.loop-i in
    let a = c.args in
    let size = front-size a.out.now a.s.now c.requires.out_len.0 c.requires.out_len.1 a.p l.i (omega arith) l.out l.invariant in
    let cell = nibble-is a.s.now (λ i. omega (arith, c.type_inv.s i)) l.i (omega arith) in
    record {
      p_bound = (omega (arith, size), omega (arith, c.nibble_of.ensures, cell, cell-in-lt 4 a.s.now l.i));
      out_value = front_kept a.out.now a.s.now c.requires.out_len.0 c.requires.out_len.1 a.p l.i (omega arith) l.out l.invariant
          ∙ ap (λ (n : ℕ). pack high_first n (unpack high_first (4 * (a.p + l.i)) l.out)) (sym size);
    }

pub loop-i-preserved : goal.loop-i-preserved
loop-i-preserved c =
    let l = c.loop-i in
    let a = c.args in
    let cell = nibble-is a.s.now (λ i. omega (arith, c.type_inv.s i)) l.i (omega arith) in
    front-next a.out.now a.s.now c.requires.out_len.0 c.requires.out_len.1 a.p l.i (omega arith) l.out l.invariant (omega arith) _ _
    (c.nibble_of.ensures ∙ cell) c.put_nibble.ensures

pub shape_of-out : goal.shape_of-out
shape_of-out c = ap length c.loop-i.invariant ∙ length-pack high_first state_room _ ∙ sym c.requires.out_len.0

pub returns : goal.returns
returns c =
    let e : c.loop-i.i ≡ c.args.q = omega arith in
    rw e at c.loop-i.invariant
