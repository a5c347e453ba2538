-- For the code: what the combined tables of PHOTON hold: the constants of the rounds as columns, and shares.
-- Assumes nothing.
use Rattle.std.specs.Prelude.{◌≡◌, cond, List, ℕ, ◌+◌, ◌-◌, ◌*◌, ◌/◌, ◌%◌, ◌^◌, ◌≤◌, ◌<◌, ltb, length, get_or}
use Rattle.standard.specs.Photon.{PhotonParameters}
use Rattle.photon_tables.specs.Columns.{place_of, share, constant_column}

-- entry k: the constants of the rounds are the first sixteen, then come the shares, row by row
unfoldable pub entry_of : PhotonParameters → ℕ → ℕ
entry_of p k =
    cond (ltb k 16) (constant_column (place_of p) p k) (share (place_of p) p ((k - 16) / 2 ^ p.s) ((k - 16) % 2 ^ p.s))

-- a table of n entries, which are those
pub record Entries (n : ℕ) (p : PhotonParameters) (table : List ℕ) : Type 0 where
  pub size : length table ≡ n
  pub entry : (k : ℕ) → k < n → get_or table k 0 ≡ entry_of p k

-- two rows of cells of four bits in one entry: for the byte x of a column, the share of its low nibble in row 2 k and,
-- 32 bits higher, that of its high nibble in row 2 k + 1
unfoldable pub share_pair : (ℕ → ℕ) → PhotonParameters → ℕ → ℕ → ℕ
share_pair place p k x = share place p (2 * k + 1) (x / 16) * 2 ^ 32 + share place p (2 * k) (x % 16)

-- a table of such pairs, after the constants of the rounds
pub record Pairs (p : PhotonParameters) (table : List ℕ) : Type 0 where
  pub size : 16 + 256 * ((p.d + 1) / 2) ≤ length table
  pub constant : (r : ℕ) → r < 13 → get_or table r 0 ≡ constant_column (place_of p) p r
  pub pair : (k x : ℕ) → 2 * k < p.d → x < 256 → get_or table (16 + 256 * k + x) 0 ≡ share_pair (place_of p) p k x
