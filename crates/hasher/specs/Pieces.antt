-- A message taken in pieces: start, an update for each piece in turn, finish, and a read. A refusal ends it: the calls after it are not made.
-- Assumes nothing.
use Rattle.std.specs.Prelude.{◌≡◌, Bool, ℕ, ◌%◌, ◌≤◌, length, take, drop}
use mathlib.Core.List.{List, [], ◌∷◌, ◌++◌, flat_map, map}
use Rattle.standard.specs.Families.{Variant}
use Rattle.standard.specs.Chain.{end_state}
use Rattle.standard.specs.Messages.{Given, bytes, given_bits}
use Rattle.standard.specs.Variants.{variant}
use Rattle.answers.specs.Refusals.{Status, Done}
use Rattle.answers.specs.Outputs.{when_done}
use Rattle.chain.specs.Messages.{Fits}
use Rattle.hasher.specs.declared.Hasher.{Hasher}
use Rattle.hasher.specs.declared.Advanced.{Advanced}
use Rattle.standard.specs.declared.Wanted.{Wanted}
use Rattle.hasher.specs.Running.{started, updated, finished}
use Rattle.hasher.specs.Reading.{result_of, result_size, read_status, read_into}

-- ---- pieces

-- the bits of pieces, one piece after the other
unfoldable pub joined_bits : Variant → List Given → List Bool
joined_bits H pieces = flat_map (given_bits H) pieces

-- A message is cut between bytes (document 02, Q-6): each bit number fits its piece, and every piece but the last has whole bytes.
abbrev pub Cut : Variant → List Given → Type 0
Cut H [] = Unit {0}
Cut H (g ∷ []) = Fits g
Cut H (g ∷ next ∷ pieces) = Fits g × (length (given_bits H g) % 8 ≡ 0) × Cut H (next ∷ pieces)

-- pieces all of whose bits count, and the bytes that they make together
abbrev pub plain : List (List ℕ) → List Given
plain pieces = map bytes pieces

unfoldable pub joined : List (List ℕ) → List ℕ
joined [] = []
joined (p ∷ ps) = p ++ joined ps

-- the running hash after a byte more, where it takes one
abbrev pub with_byte : Hasher → ℕ → Hasher
with_byte h b = (updated h (bytes (b ∷ []))).hasher

-- ---- the calls in turn

-- the next call, on the running hash of a call that was Done; a refusal stays the answer
abbrev pub and_then : Advanced → (Hasher → Advanced) → Advanced
and_then a next = when_done a.status (next a.hasher) a

-- every piece in turn
unfoldable pub all_updated : Advanced → List Given → Advanced
all_updated a [] = a
all_updated a (g ∷ pieces) = all_updated (and_then a (λ h. updated h g)) pieces

-- start, every piece, finish
unfoldable pub hashed : ℕ → List Given → Advanced
hashed v pieces = and_then (all_updated (started v) pieces) finished

-- and then a read of what is wanted: the answer, and the caller's output
abbrev pub then_status : Advanced → Wanted → ℕ → Status
then_status a wanted n = when_done a.status (read_status a.hasher wanted n) a.status

abbrev pub then_into : Advanced → Wanted → List ℕ → List ℕ
then_into a wanted out = when_done a.status (read_into a.hasher wanted out) out

unfoldable pub hashed_status : ℕ → List Given → Wanted → ℕ → Status
hashed_status v pieces wanted n = then_status (hashed v pieces) wanted n

unfoldable pub hashed_into : ℕ → List Given → Wanted → List ℕ → List ℕ
hashed_into v pieces wanted out = then_into (hashed v pieces) wanted out

-- ---- what they should give

-- A read of h gives what the standard says of the message m: into an output that is long enough it is Done and puts the digest, or the image
-- of the end state, in front of the rest of the output.
abbrev pub Reads : ℕ → Hasher → List Bool → Type 0
Reads v h m =
    (wanted : Wanted) (out : List ℕ) → result_size (variant v) wanted ≤ length out
    → (read_status h wanted (length out) ≡ Done)
    × (read_into h wanted out ≡ result_of (variant v) wanted (end_state (variant v) m) ++ drop (result_size (variant v) wanted) out)

-- The pieces hash to what the standard says of the message m: each call is Done.
pub record Hashes (v : ℕ) (pieces : List Given) (m : List Bool) : Type 0 where
  pub every-update : (k : ℕ) → (all_updated (started v) (take k pieces)).status ≡ Done
  pub finish : (hashed v pieces).status ≡ Done
  pub read : Reads v (hashed v pieces).hasher m
