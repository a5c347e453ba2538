-- `photon::words::put_row` meets its contract: the cells passed are after what was there. Assumes nothing.
use mathlib.Core.Path.{◌≡◌, sym, ap, ◌∙◌}
use Prim.Native.Nat.{ℕ, ◌+◌, ◌*◌, ◌/◌, ◌%◌, ◌^◌}
use native.Mathlib.Omega.{arith}
use lib.ListN.{length, get_or}
use Rattle.standard.specs.Bits.{high_first}
use Rattle.standard.proofs.BitLaws.{length-pack}
use Rattle.standard.specs.Layout.{state_room}
use Rattle.octets.proofs.RowsIntoBytes.{behind-none, behind-kept, behind-size, behind_more}
use Rattle.photon.specs.Parameters.{width}
use Rattle.photon.proofs.CellWidths.{halves, whole, nibbles, spread, fits}
use Rattle.photon.proofs.words.put_row.Goals as goal

pub loop-j-init : goal.loop-j-init
loop-j-init c =
    let a = c.args in
    let q = c.requires.out_len in
    (q.0, behind-none a.out.now q.0 (halves a.cell) (halves a.cell * a.n) (λ k. k) (rw (nibbles a.cell a.n) at c.requires.out_value))

pub put-requires : goal.put-requires
put-requires c =
    let l = c.loop-j in
    let a = c.args in
    let f : ℕ → ℕ = λ k. get_or a.w.now k 0 / 2 ^ a.bit % 2 ^ width a.cell in
    let u : ℕ = halves a.cell in
    let room = fits a.cell a.n l.j a.d c.requires.out_len.3 (omega arith) in
    let kept = behind-kept a.out.now l.invariant.0 u (u * a.n) f l.j (u * (a.n + l.j)) (spread a.cell a.n l.j) room.0 l.out l.invariant.1 in
    let size = behind-size a.out.now l.invariant.0 u (u * a.n) f l.j (u * (a.n + l.j)) (spread a.cell a.n l.j) room.0 l.out l.invariant.1 in
    record { out_len = (size, room.1, c.cut.ensures.1); out_value = rw (nibbles a.cell (a.n + l.j)) kept }

pub loop-j-preserved : goal.loop-j-preserved
loop-j-preserved c =
    let l = c.loop-j in
    let a = c.args in
    let f : ℕ → ℕ = λ k. get_or a.w.now k 0 / 2 ^ a.bit % 2 ^ width a.cell in
    let u : ℕ = halves a.cell in
    let room = fits a.cell a.n l.j a.d c.requires.out_len.3 (omega arith) in (
      l.invariant.0,
      behind_more a.out.now l.invariant.0 u (u * a.n) f l.j (u * (a.n + l.j)) (spread a.cell a.n l.j) room.0 l.out l.invariant.1 _ _ c.cut.ensures.0
          (rw (nibbles a.cell (a.n + l.j), whole a.cell) at c.put.ensures),
    )

pub shape_of-out : goal.shape_of-out
shape_of-out c = ap length c.loop-j.invariant.1 ∙ length-pack high_first state_room _ ∙ sym c.loop-j.invariant.0

pub returns : goal.returns
returns c =
    let a = c.args in
    let e : c.loop-j.j ≡ a.d = omega arith in
    rw (← nibbles a.cell a.n, ← whole a.cell) at (rw e at c.loop-j.invariant.1)
