-- `photon::words::fill` meets its contract: after x turns the first x entries are filled. Assumes nothing.
use mathlib.Core.Path.{ap}
use Prim.Native.Nat.{ℕ}
use native.Mathlib.Omega.{arith}
use lib.Bits.{bit_xor}
use Rattle.octets.proofs.FilledFrom.{filled_none, filled_more}
use Rattle.photon.proofs.words.fill.Goals as goal

pub loop-x-init : goal.loop-x-init
loop-x-init c = filled_none _ _ _

pub bounds-out-at : goal.bounds-out-at
bounds-out-at c = omega (arith, c.loop-x.invariant.len)

pub loop-x-preserved : goal.loop-x-preserved
loop-x-preserved c =
    let l = c.loop-x in
    let a = c.args in
    filled_more a.at _ l.x _ l.out _ (omega arith) (ap (λ (x : ℕ). bit_xor x a.above) c.from.ensures) l.invariant

pub shape_of-out : goal.shape_of-out
shape_of-out c = c.loop-x.invariant.len

pub returns : goal.returns
returns c =
    let u = c.loop-x.invariant in
    (u.len, (λ x h. u.done x (omega arith)), u.before)
