-- The sponge (5.2.3 and 5.3.3), one for PHOTON and SPONGENT: start, padding, block step and output blocks. The chain of
-- blocks over it is `Chain`.
-- Assumes nothing.
use Rattle.std.specs.Prelude.{Bool, true, false, ℕ, ◌+◌, ◌-◌, ◌/◌, ◌%◌, take, replicate}
use mathlib.Core.List.{List, ◌∷◌, ◌++◌, flat_map}
use Rattle.standard.specs.Bits.{high_first, bits_of, turned, xor_into}
use Rattle.standard.specs.Rounds.{iterate}
use Rattle.standard.specs.declared.Direction.{Direction}
use Rattle.standard.specs.declared.Direction.TheVariants.{Forward}
use Rattle.standard.specs.Grid.{tab}
use Rattle.standard.specs.Photon.{photon_permutation}
use Rattle.standard.specs.Spongent.{spongent_permutation}
use Rattle.standard.specs.Families.{Permutation, photon, spongent, Variant, bit_order}

-- 5.2.4, 5.3.4: the internal permutation on all t bits, or its inverse
unfoldable pub permutation : Permutation → Direction → List Bool → List Bool
permutation (photon p) = photon_permutation p
permutation (spongent p) = spongent_permutation p

-- 5.2.3, 5.3.3: IV. PHOTON: t - 24 zeros, then n/4, r and r', eight bits each; SPONGENT: zeros.
abbrev pub sponge_start : Permutation → ℕ → Variant → List Bool
sponge_start (photon p) r' H =
    replicate (H.t - 24) false
    ++ (bits_of high_first 8 (H.n / 4) ++ (bits_of high_first 8 H.r ++ bits_of high_first 8 r'))
sponge_start (spongent p) r' H = replicate H.t false

-- 5.2.3, 5.3.3: what is added to a message of n bits: a 1 bit, and then the fewest zeros that fill the last block of r
-- bits
unfoldable pub sponge_padding : ℕ → ℕ → List Bool
sponge_padding r n = true ∷ replicate (r - 1 - n % r) false

-- 5.2.3, 5.3.3, the block step: the block is xored into the first r bits, and the permutation runs. Byte 0 of the block
-- goes into byte 0 of the state (5.3.2).
unfoldable pub sponge_step : Permutation → List Bool → List Bool → List Bool
sponge_step P s b = permutation P Forward (xor_into s (turned (bit_order P) b))

-- how many output blocks of r' bits a digest of n bits takes: n / r' rounded up (docs/DECISIONS.md, D-2)
abbrev pub output_count : ℕ → ℕ → ℕ
output_count r' n = (n + (r' - 1)) / r'

-- 5.2.3, 5.3.3, z_0, z_1, ..: the first r' bits of the end state, and of each state that the permutation leads to from
-- it
unfoldable pub output_blocks : Permutation → ℕ → ℕ → List Bool → List (List Bool)
output_blocks P r' n s = tab (output_count r' n) (λ i. take r' (iterate i (permutation P Forward) s))

-- 5.2.3, 5.3.3: the n bits of the digest, the output blocks one after the other and cut at its end. Byte 0 of an output
-- block comes first, each byte's most significant bit first (document 01; for SPONGENT B.2 agrees).
unfoldable pub squeezed : Permutation → ℕ → ℕ → List Bool → List Bool
squeezed P r' n s = take n (flat_map (turned (bit_order P)) (output_blocks P r' n s))
