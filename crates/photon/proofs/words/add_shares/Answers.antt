-- `photon::words::add_shares` meets its contract: after m turns the first m sums have what their column gives. Assumes nothing.
use mathlib.Core.Path.{ap₂}
use Prim.Native.Nat.{ℕ, ◌+◌, ◌*◌}
use native.Mathlib.Omega.{arith}
use lib.Bits.{bit_xor}
use lib.ListN.{get_or}
use Rattle.octets.proofs.Upto.{upto-none, upto-more}
use Rattle.photon.proofs.words.add_shares.Goals as goal

pub loop-m-init : goal.loop-m-init
loop-m-init c = upto-none _ (omega arith)

pub loop-m-preserved : goal.loop-m-preserved
loop-m-preserved c =
    let l = c.loop-m in
    let a = c.args in
    upto-more l.m _ l.f _ (omega arith)
    (ap₂ (λ (x y : ℕ). bit_xor x (get_or a.table.now (16 + 256 * a.k + y) 0)) (l.invariant.rest l.m (omega arith)) c.byte_of_six.ensures)
    l.invariant

pub returns : goal.returns
returns c m h = c.loop-m.invariant.done m (omega arith)
