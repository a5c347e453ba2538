-- What a caller gives as a message or as a piece of one (document 02, Q-6), and the bit string that it stands for.
-- Assumes nothing.
use Rattle.std.specs.Prelude.{Bool, List, [], ◌∷◌, ◌++◌, ℕ, ◌-◌, ◌/◌, ◌%◌, ◌^◌}
use Rattle.standard.specs.Bits.{high_first, bits_of, bits_in}
use Rattle.standard.specs.Families.{photon, spongent, Family, sponge, lesamnta, Variant}

-- bytes all of whose bits count, or bytes of whose last one k bits count
pub data Given : Type 0 where
  bytes : List ℕ → Given
  partial : List ℕ → ℕ → Given

-- the bits of whole bytes, each byte from its most significant bit on (5.2.3, note; for SPONGENT by Annex B.2; 6.2.1)
abbrev pub byte_bits : List ℕ → List Bool
byte_bits m = bits_in high_first m

-- document 02, Q-6 and Q-7: the number that the k counting bits of a byte make, SPONGENT's k low ones and the k high
-- ones of PHOTON and Lesamnta-LW
abbrev pub counted_of : Family → ℕ → ℕ → ℕ
counted_of (sponge (photon p) r') k b = b / 2 ^ (8 - k)
counted_of (sponge (spongent p) r') k b = b % 2 ^ k
counted_of lesamnta k b = b / 2 ^ (8 - k)

-- The bits of a message of bytes of whose last one k bits count: they join the bit string from the highest of them on,
-- so that eight are the whole byte, and the padding's 1 follows them there. SPONGENT's low bits cannot stay in place
-- with the 1 above them: whole bytes are followed by 80 (docs/DECISIONS.md, D-1), which seven 0 bits and a 1 above them
-- would be too (D-22).
unfoldable pub message_bits : Variant → List ℕ → ℕ → List Bool
message_bits H [] k = []
message_bits H (b ∷ []) k = bits_of high_first k (counted_of H.family k b)
message_bits H (b ∷ c ∷ bs) k = bits_of high_first 8 b ++ message_bits H (c ∷ bs) k

-- the bit string that is given
abbrev pub given_bits : Variant → Given → List Bool
given_bits H (bytes m) = byte_bits m
given_bits H (partial m k) = message_bits H m k
