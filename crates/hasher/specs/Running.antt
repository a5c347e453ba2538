-- The running hash: when it is well formed, and what starting, updating and finishing make of it.
-- Assumes nothing.
use Rattle.std.specs.Prelude.{Bool, cond, ◌&&◌, List, [], ◌∷◌, ◌++◌, ℕ, ◌+◌, ◌%◌, eqb, ltb, leb, length, drop, replicate}
use Rattle.standard.specs.Bits.{high_first, bits_in, unpack}
use Rattle.standard.specs.Families.{Variant, order, state_in}
use Rattle.standard.specs.Chain.{start_state, padding, whole_blocks, rest_of, run}
use Rattle.standard.specs.Messages.{Given, given_bits}
use Rattle.standard.specs.Variants.{variant, known}
use Rattle.answers.specs.declared.Refusal.TheVariants.{UnknownVariant, Malformed, WrongStage, TooLong, InsideByte}
use Rattle.answers.specs.Checks.{Check, unless, when, first_refusal}
use Rattle.answers.specs.Outputs.{when_done, max_bits}
use Rattle.standard.specs.Layout.{state_room, block_room, packed_state, packed_block, clear}
use Rattle.chain.specs.Messages.{number_checks}
use Rattle.hasher.specs.declared.Hasher.{Hasher}
use Rattle.hasher.specs.declared.Advanced.{Advanced}

-- the variant that it names
abbrev pub variant_of : Hasher → Variant
variant_of h = variant h.variant

-- stage 0 is open, 1 is closed
abbrev pub closed : Hasher → Bool
closed h = eqb h.stage 1

-- document 02, Q-6: the total counts bits. Those of them that fill no block are held; a closed running hash holds none
unfoldable pub held_count : Hasher → ℕ
held_count h = cond (closed h) 0 (h.total % (variant_of h).r)

-- the message so far ends with a byte, so that a piece may follow
abbrev pub whole_so_far : Hasher → Bool
whole_so_far h = eqb (h.total % 8) 0

-- the held bits, and the state
unfoldable pub held_in : Hasher → List Bool
held_in h = unpack high_first (held_count h) h.held

unfoldable pub state_of : Hasher → List Bool
state_of h = state_in (variant_of h) h.state

-- document 01, the running hash: the variant is known, the stage open or closed, the total within the limit, and no bit past the state's and past the held ones is set
unfoldable pub well_formed : Hasher → Bool
well_formed h =
    known h.variant
    && leb h.stage 1
    && leb h.total max_bits
    && clear (drop (variant_of h).t (bits_in (order (variant_of h)) h.state))
    && clear (drop (held_count h) (bits_in high_first h.held))

-- ---- the next running hash, from the one before it

-- the running hash h with this stage, total, state and held bits; what else it records stays
abbrev pub going : Hasher → ℕ → ℕ → List Bool → List Bool → Hasher
going h stage total s b =
    record { total = total; variant = h.variant; stage = stage; state = packed_state (variant_of h) s; held = packed_block b }

-- a variant's number, open, and all else zero
abbrev pub blank : ℕ → Hasher
blank v = record { total = 0; variant = v; stage = 0; state = replicate state_room 0; held = replicate block_room 0 }

-- the running hash of no bits yet
abbrev pub fresh : ℕ → Hasher
fresh v = going (blank v) 0 0 (start_state (variant v)) []

-- the message goes on with these bits: the held bits and they together, their whole blocks run through the state, the rest held
unfoldable pub grown : Hasher → List Bool → Hasher
grown h bits =
    going h h.stage (h.total + length bits)
    (run (variant_of h) (state_of h) (whole_blocks (variant_of h).r (held_in h ++ bits)))
    (rest_of (variant_of h).r (held_in h ++ bits))

-- the message has ended: its padding goes after the held bits, and the blocks that they make run through the state
unfoldable pub ended : Hasher → Hasher
ended h =
    going h 1 h.total
    (run (variant_of h) (state_of h) (whole_blocks (variant_of h).r (held_in h ++ padding (variant_of h) h.total))) []

-- ---- the calls

-- the answer of a row of checks, with the next running hash where all pass, and the old one where one refuses
abbrev pub advanced : List Check → Hasher → Hasher → Advanced
advanced row next old = record { status = first_refusal row; hasher = when_done (first_refusal row) next old }

-- Start: 1
abbrev pub start_checks : ℕ → List Check
start_checks v = unless (known v) UnknownVariant ∷ []

-- what every call on an open running hash asks, and Close asks alone: 2, 3
abbrev pub open_checks : Hasher → List Check
open_checks h =
    unless (well_formed h) Malformed
    ∷ when (closed h) WrongStage
    ∷ []

-- n bits may follow: 16, 4
abbrev pub follow_checks : Hasher → ℕ → List Check
follow_checks h n = unless (whole_so_far h) InsideByte ∷ when (ltb max_bits (h.total + n)) TooLong ∷ []

-- Take a piece: 2, 3, 15, 16, 4
abbrev pub update_checks : Hasher → Given → List Check
update_checks h g = open_checks h ++ (number_checks g ++ follow_checks h (length (given_bits (variant_of h) g)))

-- a start over a running hash that is there
unfoldable pub started_over : Hasher → ℕ → Advanced
started_over h v = advanced (start_checks v) (fresh v) h

-- a start where none is there: a refused one yields variant 0, open, all else zero
unfoldable pub started : ℕ → Advanced
started v = started_over (blank 0) v

-- a piece taken
unfoldable pub updated : Hasher → Given → Advanced
updated h g = advanced (update_checks h g) (grown h (given_bits (variant_of h) g)) h

-- the running hash closed
unfoldable pub finished : Hasher → Advanced
finished h = advanced (open_checks h) (ended h) h
