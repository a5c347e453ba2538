-- `photon::words::columns` meets its contract: the cells of the rows passed are in their columns. Assumes nothing.
use mathlib.Core.Path.{ap, ap₂, ◌∙◌}
use Prim.Native.Nat.{ℕ, ◌+◌, ◌*◌, ◌^◌}
use native.Mathlib.Omega.{arith}
use lib.Bits.{bit_xor}
use lib.ListN.{get_or}
use Rattle.octets.specs.Cells.{cell_in}
use Rattle.photon_tables.specs.Columns.{place_in}
use Rattle.photon.specs.Parameters.{width}
use Rattle.photon.proofs.WordSteps.{shape-of, row-room, row_room, rows_none, rows_more, rows_all, none-at}
use Rattle.photon.proofs.words.columns.Goals as goal

pub loop-i-init : goal.loop-i-init
loop-i-init c = rows_none c.args.v c.requires.0 c.requires.1 c.args.s.now _

pub overflow_mul-i : goal.overflow_mul-i
overflow_mul-i c =
    let q = c.requires in
    omega (arith, row_room c.loop-i.i c.size_of-d.result (omega arith) (shape-of c.args.v c.size_of-d.result (width c.cell_kind-cell.result) q.0 q.1 c.size_of-d.ensures c.cell_kind-cell.ensures).1)

pub place-requires : goal.place-requires
place-requires c =
    let q = c.requires in
    let z = shape-of c.args.v c.size_of-d.result (width c.cell_kind-cell.result) q.0 q.1 c.size_of-d.ensures c.cell_kind-cell.ensures in
    (omega arith, z.0, z.1, z.2)

pub add_cells-requires : goal.add_cells-requires
add_cells-requires c =
    let q = c.requires in
    let a = c.args in
    let z = shape-of a.v c.size_of-d.result (width c.cell_kind-cell.result) q.0 q.1 c.size_of-d.ensures c.cell_kind-cell.ensures in
    (z.1, c.place.ensures.1, omega (arith, row-room a.v c.size_of-d.result (width c.cell_kind-cell.result) q.0 q.1 c.size_of-d.ensures c.cell_kind-cell.ensures c.loop-i.i (omega arith)))

pub loop-i-preserved : goal.loop-i-preserved
loop-i-preserved c =
    let l = c.loop-i in
    let q = c.requires in
    let a = c.args in
    let s : ℕ = width c.cell_kind-cell.result in
    rows_more a.v q.0 q.1 a.s.now l.i c.place.result (l.i * c.size_of-d.result) (omega (arith, c.size_of-d.ensures)) (c.place.ensures.0 ∙ ap₂ (λ (x y : ℕ). place_in x y l.i) c.size_of-d.ensures c.cell_kind-cell.ensures)
    (ap (λ (x : ℕ). l.i * x) c.size_of-d.ensures) _ l.out c.add_cells.new.w l.invariant
    (λ j h. c.add_cells.ensures.0 j (omega (arith, c.size_of-d.ensures)) ∙ ap (λ (x : ℕ). bit_xor (get_or l.out j 0) (cell_in x a.s.now (l.i * c.size_of-d.result + j) * 2 ^ c.place.result)) c.cell_kind-cell.ensures)
    (λ j h. c.add_cells.ensures.1 j (omega (arith, c.size_of-d.ensures)))

pub returns : goal.returns
returns c =
    let l = c.loop-i in
    let q = c.requires in
    rows_all c.args.v q.0 q.1 c.args.s.now _ l.out (none-at 8) l.i (omega (arith, c.size_of-d.ensures)) l.invariant
