-- The families of the variants, their sizes, and how a state stands in bytes.
-- Assumes nothing.
use Rattle.std.specs.Prelude.{Bool, true, false, List, ℕ}
use Rattle.standard.specs.Bits.{Order, low_first, high_first, pack, unpack, bytes_for}
use Rattle.standard.specs.Photon.{PhotonParameters}
use Rattle.standard.specs.Spongent.{SpongentParameters}

-- the internal permutation of a sponge, with its own parameters
pub data Permutation : Type 0 where
  photon : PhotonParameters → Permutation
  spongent : SpongentParameters → Permutation

-- a sponge over a permutation, with the bits given out per block (r'), or Lesamnta-LW, which chains a block cipher
-- (6.2.4)
pub data Family : Type 0 where
  sponge : Permutation → ℕ → Family
  lesamnta : Family

-- a variant: bits of the state (t), bits taken in per block (r), bits of the digest (n)
pub record Variant : Type 0 where
  pub t : ℕ
  pub r : ℕ
  pub n : ℕ
  pub family : Family

-- whether a family is a sponge
abbrev pub sponge_of : Family → Bool
sponge_of (sponge P r') = true
sponge_of lesamnta = false

-- whether a variant is
abbrev pub is_sponge : Variant → Bool
is_sponge H = sponge_of H.family

-- ---- states in bytes

-- which bit of a byte comes first in the state. PHOTON: the leftmost bit is the most significant (5.2.3, note).
-- SPONGENT: bit 0 is the least significant bit of byte 0 (5.3.2).
abbrev pub bit_order : Permutation → Order
bit_order (photon p) = high_first
bit_order (spongent p) = low_first

-- Lesamnta-LW: the leftmost bit is the most significant (6.2.1)
abbrev pub order_of : Family → Order
order_of (sponge P r') = bit_order P
order_of lesamnta = high_first

-- the order of a variant's state
abbrev pub order : Variant → Order
order H = order_of H.family

-- how many bytes an image has, a state packed in bytes
abbrev pub image_size : Variant → ℕ
image_size H = bytes_for H.t

-- the image of a state: zeros after its bits (document 01)
unfoldable pub image_of : Variant → List Bool → List ℕ
image_of H s = pack (order H) (image_size H) s

-- the state in an image
unfoldable pub state_in : Variant → List ℕ → List Bool
state_in H bytes = unpack (order H) H.t bytes
