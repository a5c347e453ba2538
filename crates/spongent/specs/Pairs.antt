-- For the code: pairs of bits, in which the code moves bits. p_layer takes bit b of each nibble, one nibble after the
-- other, to plane b, a quarter of the state, and the four planes lie one after the other. A byte has two nibbles, so it
-- gives a pair of bits to each plane.
-- Assumes nothing.
use Rattle.std.specs.Prelude.{◌≡◌, List, ℕ, ◌+◌, ◌*◌, ◌/◌, ◌%◌, ◌^◌, get_or}

-- the j-th pair of the bits in bytes
unfoldable pub pair_at : List ℕ → ℕ → ℕ
pair_at s j = get_or s (j / 4) 0 / 2 ^ (2 * (j % 4)) % 4

-- what a byte gives to plane b: its bits b and b + 4
unfoldable pub plane_pair : ℕ → ℕ → ℕ
plane_pair b x = x / 2 ^ b % 2 + x / 2 ^ (b + 4) % 2 * 2

-- the pairs of byte k are those from 4 * k on
abbrev pub Joined : List ℕ → ℕ → ℕ → Type 0
Joined pairs k x =
    (x % 4 ≡ get_or pairs (4 * k) 0)
    × ((x / 4 % 4 ≡ get_or pairs (4 * k + 1) 0)
    × ((x / 16 % 4 ≡ get_or pairs (4 * k + 2) 0) × (x / 64 % 4 ≡ get_or pairs (4 * k + 3) 0)))
