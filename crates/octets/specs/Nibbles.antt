-- For the code: the nibbles of bytes and of bits, the upper one of a byte first.
-- Assumes nothing.
use Rattle.std.specs.Prelude.{Bool, cond, List, ℕ, ◌*◌, ◌/◌, ◌%◌, eqb, drop}
use Rattle.standard.specs.Bits.{high_first, value_of, filled}

-- the nibble n of bytes, of which x is the byte n / 2: its upper half if n is even, its lower half if n is odd
abbrev pub nibble_of : ℕ → ℕ → ℕ
nibble_of x n = cond (eqb (n % 2) 0) (x / 16) (x % 16)

-- the nibble n of bits, and zeros past their end
abbrev pub nibble_in : List Bool → ℕ → ℕ
nibble_in bs n = value_of high_first (filled 4 (drop (4 * n) bs))
