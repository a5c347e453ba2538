-- For the code: states in words, as the look-ups of each family hold them, and the tables that they look up.
-- Assumes nothing.
use Rattle.std.specs.Prelude.{◌≡◌, Bool, List, ℕ, ◌≤◌}
use Rattle.standard.specs.Spongent.{nibbles}
use Rattle.standard.specs.Families.{photon, spongent, Family, sponge, lesamnta, Variant}
use Rattle.photon.specs.Words.{state_of_columns, TableFor}
use Rattle.spongent.specs.Words.{state_of_bytes, WordTable}
use Rattle.lesamnta.specs.CipherTables.{CipherTable}
use Rattle.lesamnta.specs.Words.{state_of_four}

-- by family: PHOTON's matrix has a column in each word, SPONGENT's bytes stand in order, eight to a word, and Lesamnta-LW's words are its own
abbrev pub state_of_words : Family → List ℕ → List Bool
state_of_words (sponge (photon p) r') words = state_of_columns p words
state_of_words (sponge (spongent p) r') words = state_of_bytes p words
state_of_words lesamnta words = state_of_four words

-- the state of a variant that words hold
unfoldable pub state_in_words : Variant → List ℕ → List Bool
state_in_words H words = state_of_words H.family words

-- the table that the block step of the variant v looks up
pub record TableOf (v : ℕ) (table : List ℕ) : Type 0 where
  pub photon : v ≤ 5 → TableFor v table
  pub spread : 6 ≤ v → v ≤ 10 → WordTable nibbles table
  pub boxes : v ≡ 11 → CipherTable 64 table
