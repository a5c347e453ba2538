-- `chain::stretch::Stretch::block_at` meets its contract: the bytes passed are the packed ones, and those after them are zero. Assumes nothing.
use mathlib.Core.Path.{refl, ◌∙◌}
use Prim.Native.Nat.{◌*◌}
use native.Mathlib.Omega.{arith}
use lib.ListN.{drop, replicate, get_or-replicate}
use Rattle.octets.proofs.Upto.{upto-none, upto-more}
use Rattle.standard.specs.Layout.{block_room}
use Rattle.chain.specs.Blocks.{bits_after, bytes_in}
use Rattle.chain.proofs.BlockHalves.{bytes-are}
use Rattle.chain.proofs.stretch.Stretch.block_at.Goals as goal

pub loop-k-init : goal.loop-k-init
loop-k-init c = upto-none (replicate block_room 0) refl

pub byte_at-requires : goal.byte_at-requires
byte_at-requires c = (omega arith, omega arith, omega arith)

pub loop-k-preserved : goal.loop-k-preserved
loop-k-preserved c =
    let l = c.loop-k in
    upto-more l.k (replicate block_room 0) l.out c.byte_at.result (omega arith) c.byte_at.ensures l.invariant

pub returns : goal.returns
returns c =
    let l = c.loop-k in
    let a = c.args in
    bytes-are (drop (4 * a.first) (bits_after a.self.held (bytes_in a.self))) a.q l.out l.invariant.len
    (λ k h. l.invariant.done k (omega arith)) (λ k h i. l.invariant.rest k (omega arith) ∙ get_or-replicate block_room k 0 0 i)
