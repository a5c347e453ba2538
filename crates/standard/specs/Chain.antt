-- From a message to its end state and digest, for every family: start, padding, blocks, a step for each block, and what
-- is given out. What differs between families is by cases on `Family`, a line for the sponges and a line for
-- Lesamnta-LW. A message is a bit string; `Messages` has what a caller gives for one.
-- Assumes nothing.
use Rattle.std.specs.Prelude.{◌≡◌, Bool, ℕ, ◌+◌, ◌*◌, ◌/◌, ◌<◌, length, get_or, drop}
use mathlib.Core.List.{List, [], ◌∷◌, ◌++◌, foldl}
use Rattle.standard.specs.Bits.{high_first, pack, cut}
use Rattle.standard.specs.Lesamnta.{lesamnta_start, lesamnta_padding, lesamnta_step}
use Rattle.standard.specs.Families.{Family, sponge, lesamnta, Variant}
use Rattle.standard.specs.Sponge.{sponge_start, sponge_padding, sponge_step, squeezed}

-- ---- padding

-- by family, from the rate and the message's length in bits
abbrev pub padding_of : Family → ℕ → ℕ → List Bool
padding_of (sponge P r') r n = sponge_padding r n
padding_of lesamnta r n = lesamnta_padding n

-- 5.2.3, 5.3.3, 6.2.2: what is added to a message of n bits
unfoldable pub padding : Variant → ℕ → List Bool
padding H n = padding_of H.family H.r n

-- a message and its padding
unfoldable pub padded : Variant → List Bool → List Bool
padded H m = m ++ padding H (length m)

-- ---- blocks

-- the whole blocks of r bits
unfoldable pub whole_blocks : ℕ → List Bool → List (List Bool)
whole_blocks r bs = cut r (length bs / r) bs

-- the bits after them, which fill no block
unfoldable pub rest_of : ℕ → List Bool → List Bool
rest_of r bs = drop (length bs / r * r) bs

-- 5.2.3, 5.3.3, 6.2.4: m_0, .., m_{l-1}, the blocks of the padded message
unfoldable pub blocks_of : Variant → List Bool → List (List Bool)
blocks_of H m = whole_blocks H.r (padded H m)

-- 5.2.3, 5.3.3, 6.2.2: l, how many blocks a message of n bits has
unfoldable pub block_count : Variant → ℕ → ℕ
block_count H n = (n + length (padding H n)) / H.r

-- every block of the row has r bits
abbrev pub Blocks : ℕ → List (List Bool) → Type 0
Blocks r [] = Unit {0}
Blocks r (b ∷ bs) = (length b ≡ r) × Blocks r bs

-- two rows of equal count that differ at exactly the place i
pub record DifferAt (i : ℕ) (xs ys : List (List Bool)) : Type 0 where
  pub count : length xs ≡ length ys
  pub within : i < length xs
  pub differs : get_or xs i [] ≡ get_or ys i [] → ⊥
  pub elsewhere : (j : ℕ) → (j ≡ i → ⊥) → get_or xs j [] ≡ get_or ys j []

-- ---- start and steps

-- by family: IV, or H(0)
abbrev pub start_of : Family → Variant → List Bool
start_of (sponge P r') H = sponge_start P r' H
start_of lesamnta H = lesamnta_start

-- 5.2.3, 5.3.3, 6.2.4: the state before the first block
unfoldable pub start_state : Variant → List Bool
start_state H = start_of H.family H

-- by family
abbrev pub step_of : Family → List Bool → List Bool → List Bool
step_of (sponge P r') s b = sponge_step P s b
step_of lesamnta s b = lesamnta_step s b

-- 5.2.3, 5.3.3, 6.2.4: the block step, from a state and a block to the next state
unfoldable pub step : Variant → List Bool → List Bool → List Bool
step H s b = step_of H.family s b

-- 5.2.3, 5.3.3, 6.2.4: the state after a row of blocks
unfoldable pub run : Variant → List Bool → List (List Bool) → List Bool
run H s bs = foldl (step H) s bs

-- 5.2.3, 5.3.3, 6.2.4: the state after the last block of a message
unfoldable pub end_state : Variant → List Bool → List Bool
end_state H m = run H (start_state H) (blocks_of H m)

-- ---- the digest

-- by family, the digest's bits. 6.2.4: the last chaining value is the output of Lesamnta-LW.
abbrev pub given_out : Family → Variant → List Bool → List Bool
given_out (sponge P r') H s = squeezed P r' H.n s
given_out lesamnta H s = s

-- those bits in bytes
abbrev pub digest_from : Variant → List Bool → List ℕ
digest_from H s = pack high_first (H.n / 8) (given_out H.family H s)

-- 5.2.3, 5.3.3, 6.2.4: hash(M), in bytes
unfoldable pub digest_of : Variant → List Bool → List ℕ
digest_of H m = digest_from H (end_state H m)
