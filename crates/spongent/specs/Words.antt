-- For the code: the state in eight words of 64 bits, and the table by which the code replaces and moves a byte of it at
-- a time.
-- Assumes nothing.
use Rattle.std.specs.Prelude.{◌≡◌, Bool, List, ℕ, zero, suc, ◌+◌, ◌*◌, ◌/◌, ◌%◌, ◌^◌, ◌<◌, length, get_or}
use Rattle.std.specs.Int.Bits.{bit_xor}
use Rattle.standard.specs.Bits.{low_first, unpack}
use Rattle.standard.specs.declared.Direction.TheVariants.{Forward}
use Rattle.standard.specs.Grid.{tab}
use Rattle.standard.specs.Spongent.{SpongentParameters, spongent_permutation}
use Rattle.spongent.specs.Pairs.{plane_pair}
use Rattle.spongent.specs.Parameters.{spongent_of}

-- the 36 bytes that eight words hold, eight to a word, the lowest first
unfoldable pub bytes_in : List ℕ → List ℕ
bytes_in w = tab 36 (λ i. get_or w (i / 8) 0 / 2 ^ (8 * (i % 8)) % 256)

-- the state of t bits that they hold
unfoldable pub state_of_bytes : SpongentParameters → List ℕ → List Bool
state_of_bytes p words = unpack low_first p.t (bytes_in words)

-- the m-th pair of the bits in words
unfoldable pub pair_in : List ℕ → ℕ → ℕ
pair_in w m = get_or w (m / 32) 0 / 2 ^ (2 * (m % 32)) % 4

-- a byte through a table of nibbles
unfoldable pub s_box_byte : List ℕ → ℕ → ℕ
s_box_byte box x = get_or box (x % 16) 0 + 16 * get_or box (x / 16) 0

-- the pairs that a byte gives to the four planes, each in a lane of 16 bits
unfoldable pub spread_of : ℕ → ℕ
spread_of y = plane_pair 0 y + plane_pair 1 y * 2 ^ 16 + plane_pair 2 y * 2 ^ 32 + plane_pair 3 y * 2 ^ 48

-- the same of the byte k of a word, at that byte's place in each lane
unfoldable pub look_up : List ℕ → ℕ → ℕ → ℕ
look_up box k x = spread_of (s_box_byte box x) * 2 ^ (2 * k)

-- the first n bytes of a word looked up: lane b has the pairs that they give to plane b
unfoldable pub spread_word : List ℕ → ℕ → ℕ → ℕ
spread_word box zero w = 0
spread_word box (suc k) w = bit_xor (spread_word box k w) (look_up box k (w / 2 ^ (8 * k) % 256))

-- the pair m of words, x before, after the first b of four lanes were xored in: the first from the bit p on, each other
-- 2 * n bits after the one before
unfoldable pub lanes_into : ℕ → ℕ → ℕ → ℕ → ℕ → ℕ → ℕ
lanes_into lanes p n m zero x = x
lanes_into lanes p n m (suc b) x =
    bit_xor (lanes_into lanes p n m b x) (lanes / 2 ^ (16 * b) % 65536 * 2 ^ (p + b * (2 * n)) / 2 ^ (2 * m) % 4)

-- a table of what each byte gives to the planes
pub record ByteTable (box table : List ℕ) : Type 0 where
  pub size : length table ≡ 256
  pub entry : (x : ℕ) → x < 256 → get_or table x 0 ≡ spread_of (s_box_byte box x)

-- the words of the table that the block step looks up
abbrev pub word_table_size : ℕ
word_table_size = 2048

-- such tables for each of the eight bytes of a word, one after the other
pub record WordTable (box table : List ℕ) : Type 0 where
  pub size : length table ≡ word_table_size
  pub entry : (k x : ℕ) → k < 8 → x < 256 → get_or table (256 * k + x) 0 ≡ look_up box k x

-- the state of the variant v in words, permuted, is that in others
abbrev pub Permuted : ℕ → List ℕ → List ℕ → Type 0
Permuted v before after =
    state_of_bytes (spongent_of v) after ≡ spongent_permutation (spongent_of v) Forward (state_of_bytes (spongent_of v) before)
