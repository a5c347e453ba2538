-- For the code: what its contracts cite and its laws ask beyond the standard.
-- Assumes nothing.
use Rattle.std.specs.Prelude.{◌≡◌, List, [], ℕ, ◌*◌, ◌^◌, ◌≤◌, ◌<◌, get_or, length}
use Rattle.standard.specs.Grid.{Grid, tab, at}
use Rattle.standard.specs.Families.{Family, sponge, lesamnta, Variant}

-- the bits of an output block of a sponge; Lesamnta-LW has none
abbrev pub output_of : Family → ℕ
output_of (sponge P r') = r'
output_of lesamnta = 0

abbrev pub output_bits : Variant → ℕ
output_bits H = output_of H.family

-- ---- matrices of eight rows and columns

-- the first d cells of a row
abbrev pub cells : ℕ → List ℕ → List ℕ
cells d row = tab d (λ j. get_or row j 0)

-- the first d rows and columns of g
unfoldable pub window : ℕ → Grid → Grid
window d g = tab d (λ i. cells d (get_or g i []))

-- d rows of d cells
pub record Square (d : ℕ) (g : Grid) : Type 0 where
  pub rows : length g ≡ d
  pub cols : (i : ℕ) → i < d → length (get_or g i []) ≡ d

-- each cell of the first d rows and columns is below top
pub record Small (d top : ℕ) (g : Grid) : Type 0 where
  pub cell : (i j : ℕ) → i < d → j < d → at g i j < top

-- top is a power of two of at most eight bits, and poly has one bit more
pub record Modulus (top poly : ℕ) : Type 0 where
  pub s : ℕ
  pub is : top ≡ 2 ^ s
  pub most : top ≤ 256
  pub low : top ≤ poly
  pub high : poly < top * 2
