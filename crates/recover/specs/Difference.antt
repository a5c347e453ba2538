-- For the code: the states on both sides of a place of a message, and what has to change between them.
-- Assumes nothing.
use Rattle.std.specs.Prelude.{Bool, false, List, ◌++◌, ℕ, suc, take, drop, replicate}
use Rattle.standard.specs.Bits.{xor_into}
use Rattle.standard.specs.declared.Direction.TheVariants.{Backward}
use Rattle.standard.specs.Lesamnta.{cipher}
use Rattle.standard.specs.Families.{Family, sponge, lesamnta, Variant}
use Rattle.standard.specs.Chain.{start_state, blocks_of, run}
use Rattle.chain.specs.TakenBack.{permuted_state, unrun}

-- the state before the block at the place
abbrev pub state_before : Variant → List Bool → ℕ → List Bool
state_before H m place = run H (start_state H) (take place (blocks_of H m))

-- the state after it, if the message ends in the state s
abbrev pub state_behind : Variant → List Bool → ℕ → List Bool → List Bool
state_behind H m place s = unrun H s (drop (suc place) (blocks_of H m))

-- by family, what lies between the states s and e: s and the one that the permutation has to take to e, xored; in Lesamnta-LW what the cipher has to take to e under the
-- key in s, with the half of s that goes in beside the block xored out. A block leads from s to e just where this is the block and zeros.
abbrev pub between : Family → Variant → List Bool → List Bool → List Bool
between (sponge P r') H s e = xor_into s (permuted_state H Backward e)
between lesamnta H s e = xor_into (cipher Backward (take 128 s) e) (replicate 128 false ++ drop 128 s)

-- between the states on both sides of the place
abbrev pub difference : Variant → List Bool → ℕ → List Bool → List Bool
difference H m place s = between H.family H (state_before H m place) (state_behind H m place s)
