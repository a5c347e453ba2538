-- For the code: rows of eight cells, each held in one number of eight bytes, the first cell lowest; and the cells of a matrix in a row.
-- Assumes nothing.
use Rattle.std.specs.Prelude.{◌≡◌, cond, List, ℕ, zero, suc, ◌+◌, ◌/◌, ◌%◌, ◌^◌, ◌≤◌, ◌<◌, eqb, get_or}
use Rattle.std.specs.Int.Bits.{bit_xor}
use Rattle.standard.specs.Grid.{Grid, tab, at}
use Rattle.standard.specs.ForCode.{Modulus}

-- cell j of a row
unfoldable pub lane : ℕ → ℕ → ℕ
lane zero x = x % 256
lane (suc j) x = lane j (x / 256)

-- the first d cells of a row
abbrev pub lanes : ℕ → ℕ → List ℕ
lanes d x = tab d (λ j. lane j x)

-- column j of the d rows from row n on
abbrev pub column_from : ℕ → List ℕ → ℕ → ℕ → List ℕ
column_from d rows n j = tab d (λ i. lane j (get_or rows (n + i) 0))

-- the sum of those of g 0, .., g (n - 1) whose f is odd
abbrev pub odd_sum : (ℕ → ℕ) → (ℕ → ℕ) → ℕ → ℕ
odd_sum f g zero = 0
odd_sum f g (suc n) = bit_xor (odd_sum f g n) (cond (eqb (f n % 2) 1) (g n) 0)

-- what the steps of MixColumnsSerial ask of the matrix's size and of the field
pub record Mixing (d s poly : ℕ) : Type 0 where
  pub some : 0 < d
  pub most : d ≤ 8
  pub bits : 1 ≤ s
  pub byte : s ≤ 8
  pub modulus : Modulus (2 ^ s) poly

-- of the eight cells of z, those from cell d on are zero
pub record NoneFrom (d z : ℕ) : Type 0 where
  pub none : (i : ℕ) → d ≤ i → i < 8 → lane i z ≡ 0

-- the first d cells of the d rows from row n on are below top
pub record SmallRows (d top : ℕ) (rows : List ℕ) (n : ℕ) : Type 0 where
  pub cell : (i j : ℕ) → i < d → j < d → lane j (get_or rows (n + i) 0) < top

-- the n-th cell of a matrix of d rows and columns, row by row
abbrev pub nth : ℕ → Grid → ℕ → ℕ
nth d g n = at g (n / d) (n % d)
