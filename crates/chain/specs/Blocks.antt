-- For the code: a bit string that comes as held nibbles with bytes after them, its blocks, with zeros after the bits where they end, and the state
-- after the first of them.
-- Assumes nothing.
use Rattle.std.specs.Prelude.{Bool, List, [], ◌∷◌, ◌++◌, ℕ, ◌*◌, drop, replicate}
use Rattle.standard.specs.Bits.{high_first, bits_in, unpack, filled, cut}
use Rattle.standard.specs.Families.{Variant}
use Rattle.standard.specs.Chain.{run}
use Rattle.standard.specs.Layout.{block_room}
use Rattle.chain.specs.declared.stretch.Held.{Held}
use Rattle.chain.specs.declared.stretch.Stretch.{Stretch}

-- nothing is held
abbrev pub none_held : Held
none_held = record { bytes = replicate block_room 0; nibbles = 0 }

-- the first p nibbles of bytes, and other bytes after them
abbrev pub held_then : List ℕ → ℕ → List ℕ → List Bool
held_then held p bytes = unpack high_first (4 * p) held ++ bits_in high_first bytes

-- what is held, and bytes after it
abbrev pub bits_after : Held → List ℕ → List Bool
bits_after held bytes = held_then held.bytes held.nibbles bytes

-- the bytes of a stretch that come after what is held
abbrev pub bytes_in : Stretch → List ℕ
bytes_in s = s.piece.now ++ s.last ∷ []

-- q nibbles of them from the nibble `first` on
abbrev pub block_from : Held → List ℕ → ℕ → ℕ → List Bool
block_from held bytes first q = filled (4 * q) (drop (4 * first) (bits_after held bytes))

-- the first n blocks of r bits
unfoldable pub first_blocks : ℕ → ℕ → List Bool → List (List Bool)
first_blocks r n bs = cut r n (filled (n * r) bs)

-- the state s after the first n blocks of what is held and bytes after it
abbrev pub after_blocks : Variant → List Bool → Held → List ℕ → ℕ → List Bool
after_blocks H s held bytes n = run H s (first_blocks H.r n (bits_after held bytes))
