-- The field GF(2^s) modulo a polynomial (5.2.4.5): a cell is a number below top = 2^s, its bits the coefficients. Sums
-- are XOR.
-- Assumes nothing.
use Rattle.std.specs.Prelude.{ℕ, zero, suc, ◌*◌, ◌/◌, ◌%◌, cond, List, [], ◌∷◌, ltb, eqb}
use Rattle.std.specs.Int.Bits.{bit_xor}

-- x times the variable: shifted by one bit and, where it runs over, reduced by the polynomial
unfoldable pub double : ℕ → ℕ → ℕ → ℕ
double top poly x = cond (ltb (x * 2) top) (x * 2) (bit_xor (x * 2) poly)

-- the n lowest bits of a times x: x for each bit that is set, doubled for each bit passed
unfoldable pub times : ℕ → ℕ → ℕ → ℕ → ℕ → ℕ
times top poly zero a x = 0
times top poly (suc n) a x = bit_xor (cond (eqb (a % 2) 1) x 0) (times top poly n (a / 2) (double top poly x))

-- the product of two cells, of at most eight bits
unfoldable pub mul : ℕ → ℕ → ℕ → ℕ → ℕ
mul top poly a x = times top poly 8 a x

-- the sum of z_j times x_j
unfoldable pub dot : ℕ → ℕ → List ℕ → List ℕ → ℕ
dot top poly [] xs = 0
dot top poly (z ∷ zs) [] = 0
dot top poly (z ∷ zs) (x ∷ xs) = bit_xor (mul top poly z x) (dot top poly zs xs)
