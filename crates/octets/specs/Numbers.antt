-- Numbers in bytes, the most significant byte first (document 01: big-endian).
-- Assumes nothing.
use mathlib.Core.List.{List, [], ◌∷◌, ◌++◌, foldl}
use Rattle.std.specs.Prelude.{ℕ, zero, suc, ◌+◌, ◌*◌, ◌/◌, ◌%◌, ◌<◌, get_or}

-- numbers that are bytes
abbrev pub Bytes : List ℕ → Type 0
Bytes xs = (i : ℕ) → get_or xs i 0 < 256

-- the number that bytes stand for
unfoldable pub big_endian : List ℕ → ℕ
big_endian bytes = foldl (λ n b. n * 256 + b) 0 bytes

-- a number in w bytes
unfoldable pub in_bytes : ℕ → ℕ → List ℕ
in_bytes zero n = []
in_bytes (suc w) n = in_bytes w (n / 256) ++ n % 256 ∷ []
