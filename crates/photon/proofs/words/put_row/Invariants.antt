-- `photon::words::put_row` meets its contract: the cells passed are after what was there. Assumes nothing.
use mathlib.Core.Path.{◌≡◌}
use Prim.Native.Nat.{◌*◌, ◌/◌, ◌%◌, ◌^◌}
use lib.ListN.{length, get_or}
use Rattle.standard.specs.Bits.{high_first, pack}
use Rattle.standard.specs.Layout.{state_room}
use Rattle.octets.proofs.RowsIntoBytes.{row_behind}
use Rattle.photon.specs.Parameters.{width}
use Rattle.photon.proofs.CellWidths.{halves}
use Rattle.photon.proofs.words.put_row.Given as goal

abbrev pub invariant-loop-j : goal.invariant-loop-j
invariant-loop-j l =
    (length l.initial.out ≡ state_room)
    × (l.out ≡ pack high_first state_room (row_behind l.initial.out (halves l.cell) (halves l.cell * l.n) (λ k. get_or l.w k 0 / 2 ^ l.bit % 2 ^ width l.cell) l.j))
