-- For the code: what the tables of this crate hold: what a byte gives to Q through S-box and MixColumns, and the
-- constants of the rounds.
-- Assumes nothing.
use Rattle.std.specs.Prelude.{◌≡◌, List, map, ℕ, ◌+◌, ◌*◌, ◌^◌, ◌<◌, length, get_or}
use Rattle.standard.specs.Field.{mul}
use Rattle.standard.specs.Photon.{aes}
use Rattle.standard.specs.Lesamnta.{word_of, mix_matrix, generated}

-- what the byte x gives as byte k of a word: column k of the matrix, times the S-box's value
unfoldable pub boxed_byte : ℕ → ℕ → ℕ
boxed_byte k x = word_of (map (λ row. mul 256 0x11b (get_or row k 0) (get_or aes x 0)) mix_matrix)

-- the tables that are written out
pub record BoxTable (table : List ℕ) : Type 0 where
  pub size : length table ≡ 256
  pub entry : (x : ℕ) → x < 256 → get_or table x 0 ≡ boxed_byte 0 x

pub record ConstantTable (table : List ℕ) : Type 0 where
  pub size : length table ≡ 64
  pub entry : (r : ℕ) → r < 64 → get_or table r 0 ≡ generated r

-- the words of the table of the rounds
abbrev pub cipher_table_size : ℕ
cipher_table_size = 320

-- it has each entry of the first twice in a word, and after them the first n constants
pub record CipherTable (n : ℕ) (table : List ℕ) : Type 0 where
  pub size : length table ≡ cipher_table_size
  pub box : (x : ℕ) → x < 256 → get_or table x 0 ≡ boxed_byte 0 x * (2 ^ 32 + 1)
  pub constant : (r : ℕ) → r < n → get_or table (256 + r) 0 ≡ generated r
