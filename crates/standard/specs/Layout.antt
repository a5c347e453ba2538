-- How the code holds a state and a block: an image, or a block's bits, at the front of bytes that have room for those
-- of every variant.
-- Assumes nothing.
use Rattle.std.specs.Prelude.{Bool, true, not, ◌&&◌, List, [], ◌∷◌, ℕ}
use Rattle.standard.specs.Bits.{high_first, pack}
use Rattle.standard.specs.Families.{Variant, order}

-- the bytes that have room for the state of every variant, for a block and for a digest
abbrev pub state_room : ℕ
state_room = 36

abbrev pub block_room : ℕ
block_room = 16

abbrev pub digest_room : ℕ
digest_room = 32

-- an image at the front of the bytes that hold a state
abbrev pub packed_state : Variant → List Bool → List ℕ
packed_state H s = pack (order H) state_room s

-- a block, packed like an image (SPONGENT's are whole bytes, which both orders pack alike); held bits from the high end
-- of their bytes on, in every variant (document 02, Q-6)
abbrev pub packed_block : List Bool → List ℕ
packed_block b = pack high_first block_room b

-- no bit is set
abbrev pub clear : List Bool → Bool
clear [] = true
clear (b ∷ bs) = not b && clear bs
