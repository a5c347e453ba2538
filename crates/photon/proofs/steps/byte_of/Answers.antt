-- `photon::steps::byte_of` meets its contract: one cell, or two. Assumes nothing.
use mathlib.Core.Path.{ap, ◌∙◌}
use Prim.Native.Nat.{◌+◌, ◌*◌}
use native.Mathlib.Omega.{arith}
use Rattle.photon.specs.Parameters.{width}
use Rattle.photon.proofs.MatrixImage.{cell-lt, byte-narrow, byte-wide}
use Rattle.photon.proofs.steps.byte_of.Goals as goal

pub overflow_mul-result : goal.overflow_mul-result
overflow_mul-result c =
    let a = c.args in
    omega (arith, c.cell_at.ensures, cell-lt (width a.cell) a.d a.g c.requires.small c.requires.d_nonzero.0 (ap width c.in-Nibble.is) (a.k * 2))

pub overflow_add-result : goal.overflow_add-result
overflow_add-result c =
    let a = c.args in
    let lt = cell-lt (width a.cell) a.d a.g c.requires.small c.requires.d_nonzero.0 (ap width c.in-Nibble.is) in
    omega (arith, c.cell_at.ensures, c.cell_at-in-Nibble.ensures, lt (a.k * 2), lt (a.k * 2 + 1))

pub returns-in-Nibble : goal.returns-in-Nibble
returns-in-Nibble c =
    let a = c.args in
    rw (c.cell_at.ensures, c.cell_at-in-Nibble.ensures) (byte-narrow (width a.cell) a.d a.g c.requires.small c.requires.d_nonzero.0 (ap width c.in-Nibble.is) a.k c.requires.k_lt_state_room)

pub returns-in-Byte : goal.returns-in-Byte
returns-in-Byte c =
    let a = c.args in
    c.cell_at-in-Byte.ensures ∙ byte-wide (width a.cell) a.d a.g c.requires.small c.requires.d_nonzero.0 (ap width c.in-Byte.is) a.k c.requires.k_lt_state_room
