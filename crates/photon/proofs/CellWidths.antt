-- The cells of a matrix by their width: of one nibble or of two.
-- Assumes nothing.
use mathlib.Core.Path.{◌≡◌, refl, sym, ◌∙◌}
use Prim.Native.Nat.{ℕ, ◌+◌, ◌*◌, ◌≤◌, ◌<◌}
use native.Mathlib.Nat.{mul_comm, mul_assoc}
use native.Mathlib.Omega.{arith}
use Rattle.photon.specs.declared.Cell.{Cell}
use Rattle.photon.specs.declared.Cell.TheVariants.{Nibble, Byte}
use Rattle.photon.specs.Parameters.{width}

abbrev pub halves : Cell → ℕ
halves Nibble = 1
halves Byte = 2

pub whole : (cell : Cell) → width cell ≡ 4 * halves cell
whole Nibble = refl
whole Byte = refl

-- n cells are as many nibbles
pub nibbles : (cell : Cell) (n : ℕ) → width cell * n ≡ 4 * (halves cell * n)
nibbles Nibble n = omega arith
nibbles Byte n = omega arith

pub spread : (cell : Cell) (n j : ℕ) → halves cell * (n + j) ≡ halves cell * n + j * halves cell
spread Nibble n j = omega arith
spread Byte n j = omega arith

-- among the cells of a row that has room, each has
pub fits : (cell : Cell) (n j d : ℕ) → width cell * (n + d) ≤ 288 → j < d → (halves cell * (n + j) ≤ 72) × (width cell * (n + j + 1) ≤ 288)
fits Nibble n j d h l = (omega arith, omega arith)
fits Byte n j d h l = (omega arith, omega arith)

pub room_before : (cell : Cell) (n d : ℕ) → width cell * (n + d) ≤ 288 → halves cell * n ≤ 72
room_before Nibble n d h = omega arith
room_before Byte n d h = omega arith

pub some : (cell : Cell) → 0 < width cell
some Nibble = omega arith
some Byte = omega arith

-- the cells of i rows of d
pub rows_of : (cell : Cell) (i d : ℕ) → 4 * (halves cell * (i * d)) ≡ i * (d * width cell)
rows_of cell i d = sym (nibbles cell (i * d)) ∙ mul_comm (width cell) (i * d) ∙ mul_assoc i d (width cell)
