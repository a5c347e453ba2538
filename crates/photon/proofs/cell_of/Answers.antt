-- `photon::cell_of` meets its contract: a byte, or one of its halves. Assumes nothing.
use mathlib.Core.Path.{sym, ◌∙◌}
use Prim.Native.Nat.{ℕ, ◌/◌, ◌<◌}
use native.Mathlib.Omega.{arith}
use lib.ListN.{get_or}
use Rattle.octets.proofs.CellLaws.{cell-wide, nibble-is, nibble-below}
use Rattle.photon.proofs.cell_of.Goals as goal

pub returns-in-Nibble : goal.returns-in-Nibble
returns-in-Nibble c =
    let b = c.args.bytes.now in
    let n = c.args.n in
    let small : (i : ℕ) → get_or b i 0 < 256 = λ i. omega (arith, c.type_inv.bytes i) in
    let room = rw c.in-Nibble.is at c.requires in
    rw c.in-Nibble.is
    (c.nibble_of.ensures ∙ nibble-is b small n (omega (arith, room)), omega (arith, c.nibble_of.ensures, nibble-below (get_or b (n / 2) 0) n (small (n / 2))))

pub returns-in-Byte : goal.returns-in-Byte
returns-in-Byte c =
    let b = c.args.bytes.now in
    let n = c.args.n in
    let small : (i : ℕ) → get_or b i 0 < 256 = λ i. omega (arith, c.type_inv.bytes i) in
    let room = rw c.in-Byte.is at c.requires in
    rw c.in-Byte.is (sym (cell-wide b small n (omega (arith, room))), small n)
