-- Another reading of SPONGENT's padding, which nothing uses: the added 1 bit is the lowest free bit, so that whole
-- bytes are followed by 01. Document 01 words it so; Annex B.2 rules it out (docs/DECISIONS.md). It is kept for the two
-- known values that are stated by it.
-- Assumes nothing.
use Rattle.std.specs.Prelude.{List, map, ◌++◌, ℕ, length}
use Rattle.standard.specs.Bits.{low_first, bits_in, pack, bytes_for}
use Rattle.standard.specs.Sponge.{sponge_padding}
use Rattle.standard.specs.Chain.{whole_blocks}

-- the blocks of r bits, in bytes
unfoldable pub lowest_free_bit : ℕ → List ℕ → List (List ℕ)
lowest_free_bit r m =
    map (pack low_first (bytes_for r))
    (whole_blocks r (bits_in low_first m ++ sponge_padding r (length (bits_in low_first m))))
