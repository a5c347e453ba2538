-- `photon::steps::grid_of` meets its contract: the rows passed are read. Assumes nothing.
use mathlib.Core.Path.{refl, sym, ◌∙◌}
use Prim.Native.Nat.{◌+◌, ◌*◌, ◌≤◌}
use native.Mathlib.Nat.{mul-le-mul_left, mul-le-mul_right, suc-mul}
use native.Mathlib.Omega.{arith}
use Rattle.standard.specs.Bits.{high_first, bits_in}
use Rattle.standard.specs.Grid.{at}
use Rattle.standard.specs.Photon.{matrix_of}
use Rattle.standard.proofs.Tab.{window-is, grid-self}
use Rattle.standard.proofs.MatrixLaws.{matrix_of-square, at-matrix_of}
use Rattle.octets.proofs.Upto.{upto-none, upto-more}
use Rattle.octets.specs.Cells.{cell_in}
use Rattle.photon.specs.Parameters.{width}
use Rattle.photon.proofs.steps.grid_of.Goals as goal

pub loop-i-init : goal.loop-i-init
loop-i-init c = upto-none _ refl

pub read_row-requires : goal.read_row-requires
read_row-requires c =
    let l = c.loop-i in
    let a = c.args in
    let h : l.i + 1 ≤ a.d = omega arith in
    let rows : l.i * a.d + a.d ≤ a.d * a.d = omega (arith, mul-le-mul_right a.d h, suc-mul l.i a.d) in
    (omega arith, omega (arith, mul-le-mul_left (width a.cell) rows))

pub overflow_mul-i : goal.overflow_mul-i
overflow_mul-i c =
    let h : c.loop-i.i ≤ 7 = omega arith in
    omega (arith, mul-le-mul_right c.args.d h)

pub loop-i-preserved : goal.loop-i-preserved
loop-i-preserved c =
    let l = c.loop-i in
    upto-more l.i _ l.out c.read_row.result (omega arith) c.read_row.ensures l.invariant

pub returns : goal.returns
unfolding cell_in
returns c =
    let l = c.loop-i in
    let a = c.args in
    let bits = bits_in high_first a.s in
    window-is a.d l.out (at (matrix_of a.d (width a.cell) bits))
    (λ i j hi hj. l.invariant.done i (omega arith) j hj ∙ sym (at-matrix_of a.d (width a.cell) bits i j hi hj))
    ∙ grid-self a.d (matrix_of a.d (width a.cell) bits) (matrix_of-square a.d (width a.cell) bits)
