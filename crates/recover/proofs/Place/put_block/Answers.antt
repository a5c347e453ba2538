-- `recover::Place::put_block` meets its contract: the difference of two states, looked at and written. Assumes nothing.
use mathlib.Core.Path.{sym, ◌∙◌}
use Prim.Native.Nat.{ℕ, ◌<◌}
use native.Mathlib.Omega.{arith}
use lib.ListN.{length, get_or}
use Rattle.standard.proofs.Variants.{bounds}
use Rattle.octets.proofs.Elements.{bytes_lt}
use Rattle.chain.proofs.ImageLaws.{image-length}
use Rattle.chain.specs.Splits.{message_held}
use Rattle.recover.proofs.RecoverLaws.{Placed, checks-passed, ready, none_found, one_found}
use Rattle.recover.proofs.Place.put_block.Goals.{Start, After-at_front-end}
use Rattle.recover.proofs.Place.put_block.Goals as goal

placed : (c : Start) → Placed c.args.self.v (message_held c.args.self.message) c.args.self.index c.args.image.now (length c.args.out.now)
placed c = checks-passed c.args.self.v c.args.self.named (message_held c.args.self.message) c.args.self.index c.args.image.now (length c.args.out.now) c.requires

end_byte : (c : After-at_front-end) → (i : ℕ) → get_or c.at_front-end.result i 0 < 256
end_byte c = bytes_lt 36 c.at_front-end.result _ c.at_front-end.type_inv

pub at_front-end-requires : goal.at_front-end-requires
at_front-end-requires c =
    let a = c.args.self in
    omega (arith, image-length a.v a.named c.args.image.now (placed (goal.at.at_front-end-requires c).Start).good, (bounds a.v a.named).image-most)

pub difference-block-requires : goal.difference-block-requires
difference-block-requires c =
    let a = c.args.self in
    let d = goal.at.difference-block-requires c in
    let w = placed d.Start in
    record { place_in_bounds = w.within; place_value = w.way; holds = ready a.v _ a.index c.args.image.now c.args.out.now w (end_byte d.After-at_front-end) c.at_front-end.ensures }

pub returns-then-not-clear_from : goal.returns-then-not-clear_from
returns-then-not-clear_from c =
    let a = c.args.self in
    let d = goal.at.returns-then-not-clear_from c in
    none_found a.v _ a.index c.args.image.now c.args.out.now (placed d.Start) (end_byte d.After-at_front-end) c.at_front-end.ensures c.difference-block.ensures
    (rw (← c.block_bits.ensures) (sym c.clear_from.ensures ∙ c.if-not-clear_from.true))

pub copy_front-requires : goal.copy_front-requires
copy_front-requires c =
    let n = c.block_bytes.ensures in
    (omega (arith, n, (bounds c.args.self.v c.args.self.named).rate-most), omega (arith, n, (placed (goal.at.copy_front-requires c).Start).long))

pub returns : goal.returns
returns c =
    let a = c.args.self in
    let d = goal.at.returns c in
    one_found a.v _ a.index c.args.image.now c.args.out.now (placed d.Start) (end_byte d.After-at_front-end) c.at_front-end.ensures c.difference-block.ensures
    (rw (← c.block_bits.ensures) (sym c.clear_from.ensures ∙ c.if-not-clear_from.false)) _
    (rw (← c.block_bytes.ensures) c.copy_front.ensures)
