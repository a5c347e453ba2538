-- `photon::steps::bit_sum` meets its contract: after i turns the sum has the first i rows whose cell is odd, and the rest holds the other cells. Assumes nothing.
use mathlib.Core.Path.{◌≡◌, refl}
use Prim.Native.Nat.{suc, ◌+◌, ◌%◌}
use native.Mathlib.Nat.{add-zero, zero-add}
use native.Mathlib.Numerals.{add-one}
use native.Mathlib.Omega.{arith}
use Rattle.photon.specs.Rows.{lane}
use Rattle.photon.proofs.steps.bit_sum.Goals as goal

pub loop-i-init : goal.loop-i-init
loop-i-init c = (refl, λ k. rw add-zero)

pub loop-i-preserved : goal.loop-i-preserved
unfolding lane
loop-i-preserved c =
    let l = c.loop-i in
    let first : l.rest % 2 ≡ lane l.i c.args.y % 2 = omega (arith, rw zero-add at (l.invariant.1 0)) in (
      rw (add-one, c.low_bit-sum.ensures, first, l.invariant.0),
      λ k. let on : k + (l.i + 1) ≡ suc k + l.i = omega arith in rw on (l.invariant.1 (suc k)),
    )

pub returns : goal.returns
returns c =
    let l = c.loop-i in
    let end : l.i ≡ 8 = omega arith in
    rw end at l.invariant.0
