-- `photon::words::image_of` meets its contract: the bytes are those of the rows passed. Assumes nothing.
use mathlib.Core.Path.{sym}
use Prim.Native.Nat.{ℕ, ◌+◌, ◌*◌, ◌≤◌}
use native.Mathlib.Omega.{arith}
use Rattle.photon.specs.Parameters.{width}
use Rattle.photon.proofs.CellWidths.{halves, nibbles, room_before, some, rows_of}
use Rattle.photon.proofs.WordSteps.{shape-of, row-room, row_room}
use Rattle.photon.proofs.ImageRows.{image-none, image-kept, image-more, image-size, image-rows}
use Rattle.photon.proofs.words.image_of.Goals as goal

pub loop-i-init : goal.loop-i-init
loop-i-init c = image-none c.size_of-d.result (width c.cell_kind-cell.result) c.args.w.now

pub slice_bounds-put_row-end : goal.slice_bounds-put_row-end
slice_bounds-put_row-end c = sym (image-size c.size_of-d.result (width c.cell_kind-cell.result) c.args.w.now c.loop-i.i c.loop-i.out c.loop-i.invariant)

pub place-requires : goal.place-requires
place-requires c =
    let q = c.requires in
    let z = shape-of c.args.v c.size_of-d.result (width c.cell_kind-cell.result) q.0 q.1 c.size_of-d.ensures c.cell_kind-cell.ensures in
    (omega arith, z.0, z.1, z.2)

pub overflow_mul-i : goal.overflow_mul-i
overflow_mul-i c =
    let q = c.requires in
    omega (arith, row_room c.loop-i.i c.size_of-d.result (omega arith) (shape-of c.args.v c.size_of-d.result (width c.cell_kind-cell.result) q.0 q.1 c.size_of-d.ensures c.cell_kind-cell.ensures).1)

pub put_row-requires : goal.put_row-requires
put_row-requires c =
    let l = c.loop-i in
    let a = c.args in
    let q = c.requires in
    let s : ℕ = width c.cell_kind-cell.result in
    let k : ℕ = l.i * c.size_of-d.result in
    let room : s * (k + c.size_of-d.result) ≤ 288 = row-room a.v c.size_of-d.result s q.0 q.1 c.size_of-d.ensures c.cell_kind-cell.ensures l.i (omega arith) in
    record {
      out_len = (omega arith, (shape-of a.v c.size_of-d.result s q.0 q.1 c.size_of-d.ensures c.cell_kind-cell.ensures).1, omega (arith, c.place.ensures.1, some c.cell_kind-cell.result), room);
      out_value = rw (nibbles c.cell_kind-cell.result k) (image-kept c.size_of-d.result s a.w.now l.i (halves c.cell_kind-cell.result * k) (omega arith) (rows_of c.cell_kind-cell.result l.i c.size_of-d.result) (room_before c.cell_kind-cell.result k c.size_of-d.result room) l.out l.invariant);
    }

pub loop-i-preserved : goal.loop-i-preserved
loop-i-preserved c =
    let l = c.loop-i in
    let a = c.args in
    let q = c.requires in
    let s : ℕ = width c.cell_kind-cell.result in
    let k : ℕ = l.i * c.size_of-d.result in
    let room : s * (k + c.size_of-d.result) ≤ 288 = row-room a.v c.size_of-d.result s q.0 q.1 c.size_of-d.ensures c.cell_kind-cell.ensures l.i (omega arith) in
    image-more c.size_of-d.result s a.w.now l.i (halves c.cell_kind-cell.result * k) (omega arith) (rows_of c.cell_kind-cell.result l.i c.size_of-d.result) (room_before c.cell_kind-cell.result k c.size_of-d.result room) l.out l.invariant _ _ c.place.ensures.0
    (rw (nibbles c.cell_kind-cell.result k) at c.put_row.ensures)

pub returns : goal.returns
returns c =
    let l = c.loop-i in
    let q = c.requires in
    image-rows c.args.v c.size_of-d.result (width c.cell_kind-cell.result) c.size_of-d.ensures c.cell_kind-cell.ensures c.args.w.now l.i c.args.rows (omega arith) l.out l.invariant
