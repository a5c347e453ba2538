-- `photon::words::add_cells` meets its contract: the words passed have their cell, the others are as they were. Assumes nothing.
use mathlib.Core.Path.{◌≡◌, ap, ap₂, ◌∙◌}
use Prim.Native.Nat.{ℕ, ◌+◌, ◌*◌, ◌%◌, ◌^◌, ◌≤◌}
use native.Mathlib.Nat.{mul-le-mul_left}
use native.Mathlib.Omega.{arith}
use lib.Bits.{bit_xor}
use lib.Pow.{shl_exact}
use Rattle.octets.specs.Cells.{cell_in}
use Rattle.octets.proofs.Upto.{upto-none, upto-more}
use Rattle.photon.specs.Parameters.{width}
use Rattle.photon.proofs.words.add_cells.Goals as goal

pub loop-j-init : goal.loop-j-init
loop-j-init c = upto-none _ (omega arith)

within : (w x y z : ℕ) → x + 1 ≤ y → w * y ≤ z → w * (x + 1) ≤ z
within w x y z h l = omega (arith, mul-le-mul_left w h)

pub cell_of-requires : goal.cell_of-requires
cell_of-requires c = within (width c.args.cell) _ (c.args.first + c.args.n) _ (omega arith) (omega arith)

pub loop-j-preserved : goal.loop-j-preserved
loop-j-preserved c =
    let l = c.loop-j in
    let a = c.args in
    let e : c.from.result ≡ cell_in (width a.cell) a.bytes.now (a.first + l.j) = c.from.ensures ∙ c.cell_of.ensures.0 in
    let moved : c.from.result * 2 ^ a.bit % 2 ^ 64 ≡ cell_in (width a.cell) a.bytes.now (a.first + l.j) * 2 ^ a.bit =
    shl_exact (width a.cell) a.bit 64 (rw c.from.ensures c.cell_of.ensures.1) (omega arith) ∙ ap (λ (y : ℕ). y * 2 ^ a.bit) e in
    upto-more l.j _ l.w _ (omega arith) (ap₂ bit_xor (l.invariant.rest l.j (omega arith)) moved) l.invariant

pub returns : goal.returns
returns c =
    let u = c.loop-j.invariant in
    ((λ j h. u.done j (omega arith)), (λ j h. u.rest j (omega arith)))
