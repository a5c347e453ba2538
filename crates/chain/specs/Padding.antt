-- For the code: how a padded message ends: blocks of its bits with the padding's 1 bit and zeros after them, and in Lesamnta-LW a block with the
-- length.
-- Assumes nothing.
use Rattle.std.specs.Prelude.{◌≡◌, Bool, true, false, cond, List, [], ◌∷◌, ◌++◌, ℕ, ◌+◌, ◌-◌, ◌*◌, ◌/◌, ◌%◌, eqb, length, replicate}
use Rattle.standard.specs.Bits.{high_first, bits_of, bits_in}
use Rattle.standard.specs.Families.{Variant, is_sponge}

-- the bytes hold the bits m, the 1 bit that the padding adds after them (5.2.3, 5.3.3), and zeros
abbrev pub Padded : List Bool → List ℕ → Type 0
Padded m held = bits_in high_first held ≡ m ++ true ∷ replicate (8 * length held - length m - 1) false

-- the number of blocks of n bits and the 1 bit after them. In Lesamnta-LW a 1 bit that would begin a block stands in the length's.
abbrev pub data_blocks : Variant → ℕ → ℕ
data_blocks H n = cond (is_sponge H) (n / H.r + 1) ((n + 127) / 128)

-- 6.2.2: the last block of a message of n bits in Lesamnta-LW: the length in its second half, and the 1 bit before it if the message fills its blocks
abbrev pub length_block : ℕ → List Bool
length_block n = eqb (n % 128) 0 ∷ replicate 63 false ++ bits_of high_first 64 n

-- the blocks after that of the 1 bit
abbrev pub length_blocks : Variant → ℕ → List (List Bool)
length_blocks H n = cond (is_sponge H) [] (length_block n ∷ [])
