-- `photon::steps::read_row` meets its contract: the cells passed are read. Assumes nothing.
use mathlib.Core.Path.{refl}
use Prim.Native.Nat.{◌+◌, ◌≤◌}
use native.Mathlib.Nat.{mul-le-mul_left}
use native.Mathlib.Omega.{arith}
use Rattle.octets.proofs.Upto.{upto-none, upto-more}
use Rattle.photon.specs.Parameters.{width}
use Rattle.photon.proofs.steps.read_row.Goals as goal

pub loop-j-init : goal.loop-j-init
loop-j-init c = upto-none _ refl

pub cell_of-requires : goal.cell_of-requires
cell_of-requires c =
    let a = c.args in
    let l = c.loop-j in
    let h : a.base + l.j + 1 ≤ a.base + a.d = omega arith in
    omega (arith, mul-le-mul_left (width a.cell) h)

pub loop-j-preserved : goal.loop-j-preserved
loop-j-preserved c =
    let l = c.loop-j in
    upto-more l.j _ l.out c.cell_of.result (omega arith) c.cell_of.ensures.0 l.invariant

pub returns : goal.returns
returns c = λ j h. c.loop-j.invariant.done j (omega arith)
