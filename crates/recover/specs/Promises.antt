-- What this crate promises of the lost block (demand 3), each a statement that is proved under the same name.
-- Assumes nothing.
use Rattle.std.specs.Prelude.{◌≡◌, Bool, true, false, List, [], ◌++◌, ◌↔◌, ℕ, suc, ◌≤◌, ◌<◌, length, drop, get_or}
use Rattle.answers.specs.declared.Refusal.TheVariants.{NoBlock, NotSponge}
use Rattle.answers.specs.Refusals.{Done, Refused}
use Rattle.answers.specs.Checks.{first_refusal}
use Rattle.answers.specs.Outputs.{max_bits}
use Rattle.standard.specs.Bits.{high_first, pack}
use Rattle.standard.specs.Families.{is_sponge, image_of, state_in}
use Rattle.standard.specs.Chain.{blocks_of, end_state}
use Rattle.standard.specs.Messages.{Given, given_bits}
use Rattle.standard.specs.Variants.{variant, known}
use Rattle.chain.specs.Messages.{Fits, Alike}
use Rattle.recover.specs.Leading.{end_state_with, NoneLeads, OnlyLeads}
use Rattle.recover.specs.Recovering.{block_size, searchable, recovered_block, asked_checks, recover_status, recover_into}

-- ---- of every image

-- Once the earlier checks have passed, the answer is 8 exactly when no block leads to the state of the image.
abbrev pub EightExactly : Type 0
EightExactly =
    (v : ℕ) (g : Given) (place : ℕ) (image : List ℕ) (n : ℕ) → first_refusal (asked_checks v g place image n) ≡ Done
    → (recover_status v g place image n ≡ Refused NoBlock) ↔ NoneLeads (variant v) (given_bits (variant v) g) place (state_in (variant v) image)

-- Otherwise the block that is given leads there, and every other block leads to a different state.
abbrev pub BlockGiven : Type 0
BlockGiven =
    (v : ℕ) (g : Given) (place : ℕ) (image : List ℕ) (n : ℕ) → first_refusal (asked_checks v g place image n) ≡ Done
    → recover_status v g place image n ≡ Done
    → (b : List Bool) × OnlyLeads (variant v) (given_bits (variant v) g) place (state_in (variant v) image) b
    × (recovered_block v (given_bits (variant v) g) place image ≡ pack high_first (block_size (variant v)) b)

-- ---- of every state, and of the bytes that the caller finds

-- a message within the limit, a place below its block count that may be searched, and an output with room for a block
pub record Searched (v : ℕ) (g : Given) (place : ℕ) (out : List ℕ) : Type 0 where
  pub named : known v ≡ true
  pub fits : Fits g
  pub few : length (given_bits (variant v) g) ≤ max_bits
  pub within : place < length (blocks_of (variant v) (given_bits (variant v) g))
  pub way : searchable (variant v) (length (blocks_of (variant v) (given_bits (variant v) g))) place ≡ true
  pub room : block_size (variant v) ≤ length out

-- the caller finds the block b, and after it what was there
abbrev pub Found : ℕ → List ℕ → List Bool → List ℕ → Type 0
Found v out b out' = out' ≡ pack high_first (block_size (variant v)) b ++ drop (block_size (variant v)) out

-- the call is done, and the caller finds the block b, the only one that leads to the state s
abbrev pub Gives : (v : ℕ) (g : Given) (place : ℕ) (out : List ℕ) (s b : List Bool) → Type 0
Gives v g place out s b =
    (recover_status v g place (image_of (variant v) s) (length out) ≡ Done)
    × OnlyLeads (variant v) (given_bits (variant v) g) place s b
    × Found v out b (recover_into v g place (image_of (variant v) s) out)

-- For every state of t bits the answer is 8 exactly when no block leads to it,
abbrev pub StateEight : Type 0
StateEight =
    (v : ℕ) (g : Given) (place : ℕ) (out : List ℕ) → Searched v g place out → (s : List Bool) → length s ≡ (variant v).t
    → (recover_status v g place (image_of (variant v) s) (length out) ≡ Refused NoBlock) ↔ NoneLeads (variant v) (given_bits (variant v) g) place s

-- and the output is then as it was;
abbrev pub StateKept : Type 0
StateKept =
    (v : ℕ) (g : Given) (place : ℕ) (out : List ℕ) → Searched v g place out → (s : List Bool) → length s ≡ (variant v).t
    → recover_status v g place (image_of (variant v) s) (length out) ≡ Refused NoBlock → recover_into v g place (image_of (variant v) s) out ≡ out

-- otherwise the caller finds the only block that does.
abbrev pub StateGiven : Type 0
StateGiven =
    (v : ℕ) (g : Given) (place : ℕ) (out : List ℕ) → Searched v g place out → (s : List Bool) → length s ≡ (variant v).t
    → (recover_status v g place (image_of (variant v) s) (length out) ≡ Refused NoBlock → ⊥) → (b : List Bool) × Gives v g place out s b

-- Every block is found again from the end state that it leads to,
abbrev pub BlockFound : Type 0
BlockFound =
    (v : ℕ) (g : Given) (place : ℕ) (out : List ℕ) → Searched v g place out → (b : List Bool) → length b ≡ (variant v).r
    → Gives v g place out (end_state_with (variant v) (given_bits (variant v) g) place b) b

-- and so is the message's own block from its own end state.
abbrev pub OwnBlock : Type 0
OwnBlock =
    (v : ℕ) (g : Given) (place : ℕ) (out : List ℕ) → Searched v g place out
    → Gives v g place out (end_state (variant v) (given_bits (variant v) g)) (get_or (blocks_of (variant v) (given_bits (variant v) g)) place [])

-- ---- which places may be searched

-- Of a sponge all may.
abbrev pub SpongeWay : Type 0
SpongeWay = (v : ℕ) → is_sponge (variant v) ≡ true → (count place : ℕ) → searchable (variant v) count place ≡ true

-- The last may of every variant.
abbrev pub LastWay : Type 0
LastWay = (v count place : ℕ) → suc place ≡ count → searchable (variant v) count place ≡ true

-- Of what is no sponge, a place below the block count that is not the last gives 17, whatever the image and the output are.
abbrev pub OtherPlace : Type 0
OtherPlace =
    (v : ℕ) → known v ≡ true → is_sponge (variant v) ≡ false → (g : Given) → Fits g → length (given_bits (variant v) g) ≤ max_bits
    → (place : ℕ) → place < length (blocks_of (variant v) (given_bits (variant v) g)) → (suc place ≡ length (blocks_of (variant v) (given_bits (variant v) g)) → ⊥)
    → (image : List ℕ) (n : ℕ) → recover_status v g place image n ≡ Refused NotSponge

-- ---- the message

-- Two ways to give the same bits are one to the operation.
abbrev pub RecoverAlike : Type 0
RecoverAlike =
    (v : ℕ) (g g' : Given) → Alike (variant v) g g' → (place : ℕ) (image out : List ℕ)
    → (recover_status v g place image (length out) ≡ recover_status v g' place image (length out)) × (recover_into v g place image out ≡ recover_into v g' place image out)
