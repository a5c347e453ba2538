-- For the code: bytes that hold a state or a block, and zeros after it.
-- Assumes nothing.
use Rattle.std.specs.Prelude.{◌≡◌, Bool, List, ℕ}
use Rattle.standard.specs.Bits.{high_first, unpack}
use Rattle.standard.specs.Families.{Variant, state_in}
use Rattle.standard.specs.Variants.{variant}
use Rattle.standard.specs.Layout.{packed_state, packed_block}

-- the block at the front of bytes
abbrev pub block_in : Variant → List ℕ → List Bool
block_in H bytes = unpack high_first H.r bytes

-- the bytes hold a state of the variant v: its image, and zeros after
abbrev pub Holds : ℕ → List ℕ → Type 0
Holds v bytes = bytes ≡ packed_state (variant v) (state_in (variant v) bytes)

-- the bytes hold a block of the variant v, and zeros after
abbrev pub HoldsBlock : ℕ → List ℕ → Type 0
HoldsBlock v bytes = bytes ≡ packed_block (block_in (variant v) bytes)
