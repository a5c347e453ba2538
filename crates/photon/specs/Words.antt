-- For the code: the state in words, as the look-ups of this crate hold it, and the tables that they look up.
-- Assumes nothing.
use Rattle.std.specs.Prelude.{◌≡◌, Bool, List, ℕ, ◌^◌, ◌≤◌}
use Rattle.standard.specs.Grid.{Grid}
use Rattle.standard.specs.Photon.{PhotonParameters, sub_cells, shift_rows, mix_columns, bits_of_matrix}
use Rattle.photon_tables.specs.Columns.{matrix_of_words, with_column, place_of}
use Rattle.photon_tables.specs.Tables.{Entries, Pairs}
use Rattle.photon.specs.Parameters.{photon_of}

-- the matrix of the variant v, 1 to 5, that the words hold
abbrev pub matrix_in : ℕ → List ℕ → Grid
matrix_in v words = matrix_of_words (place_of (photon_of v)) (photon_of v) words

-- 5.2.4.1: a round but for its constants
abbrev pub unadded : PhotonParameters → Grid → Grid
unadded p g = mix_columns (2 ^ p.s) p.poly p.d p.z (shift_rows p.d 1 (sub_cells p.d p.box g))

-- that round, with the column c added after it
abbrev pub round_then : ℕ → ℕ → Grid → Grid
round_then v c g = with_column (place_of (photon_of v)) (photon_of v) c (unadded (photon_of v) g)

-- the state that the words hold, a column of its matrix in each
unfoldable pub state_of_columns : PhotonParameters → List ℕ → List Bool
state_of_columns p words = bits_of_matrix p.s (matrix_of_words (place_of p) p words)

-- the table that the block step of the variant v, 1 to 5, looks up
pub record TableFor (v : ℕ) (table : List ℕ) : Type 0 where
  pub pairs : v ≤ 4 → Pairs (photon_of v) table
  pub shares : v ≡ 5 → Entries 1552 (photon_of 5) table
