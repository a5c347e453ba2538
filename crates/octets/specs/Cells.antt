-- For the code: the cells of bytes, one after the other.
-- Assumes nothing.
use Rattle.std.specs.Prelude.{List, ℕ, ◌*◌, take, drop}
use Rattle.standard.specs.Bits.{high_first, value_of, bits_in}

-- the n-th cell of w bits in bytes
unfoldable pub cell_in : ℕ → List ℕ → ℕ → ℕ
cell_in w bytes n = value_of high_first (take w (drop (n * w) (bits_in high_first bytes)))
