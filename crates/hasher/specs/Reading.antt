-- What is read from a finished running hash into the caller's bytes, and the whole message in one call.
-- Assumes nothing.
use Rattle.std.specs.Prelude.{Bool, List, [], ◌∷◌, ◌++◌, ℕ, ◌/◌, ltb, length}
use Rattle.standard.specs.Families.{Variant, image_size, image_of}
use Rattle.standard.specs.Chain.{digest_from, end_state}
use Rattle.standard.specs.Messages.{Given, given_bits}
use Rattle.standard.specs.Variants.{variant}
use Rattle.answers.specs.declared.Refusal.TheVariants.{Malformed, WrongStage, OutputTooShort}
use Rattle.answers.specs.Refusals.{Status}
use Rattle.answers.specs.Checks.{Check, unless, when, first_refusal}
use Rattle.answers.specs.Outputs.{written}
use Rattle.chain.specs.Messages.{message_checks}
use Rattle.hasher.specs.declared.Hasher.{Hasher}
use Rattle.standard.specs.declared.Wanted.{Wanted}
use Rattle.standard.specs.declared.Wanted.TheVariants.{Digest, EndState}
use Rattle.hasher.specs.Running.{variant_of, closed, state_of, well_formed}

-- what is wanted of an end state: its image, or the digest squeezed out of it
abbrev pub result_of : Variant → Wanted → List Bool → List ℕ
result_of H Digest s = digest_from H s
result_of H EndState s = image_of H s

-- how many bytes that is
abbrev pub result_size : Variant → Wanted → ℕ
result_size H Digest = H.n / 8
result_size H EndState = image_size H

-- the result has room: 5
abbrev pub room_checks : Variant → Wanted → ℕ → List Check
room_checks H wanted room = when (ltb room (result_size H wanted)) OutputTooShort ∷ []

-- Read digest or end state, into n bytes: 2, 3, 5
abbrev pub read_checks : Hasher → Wanted → ℕ → List Check
read_checks h wanted n =
    unless (well_formed h) Malformed
    ∷ unless (closed h) WrongStage
    ∷ room_checks (variant_of h) wanted n

-- the answer of a read
unfoldable pub read_status : Hasher → Wanted → ℕ → Status
read_status h wanted n = first_refusal (read_checks h wanted n)

-- the caller's output after a read
unfoldable pub read_into : Hasher → Wanted → List ℕ → List ℕ
read_into h wanted out = written (read_status h wanted (length out)) (result_of (variant_of h) wanted (state_of h)) out

-- Whole message: 1, 15, 4, 5
abbrev pub hash_checks : ℕ → Given → Wanted → ℕ → List Check
hash_checks v g wanted room = message_checks v g ++ room_checks (variant v) wanted room

-- the answer for a whole message, and the caller's output after it
unfoldable pub hash_status : ℕ → Given → Wanted → ℕ → Status
hash_status v g wanted room = first_refusal (hash_checks v g wanted room)

unfoldable pub hash_into : ℕ → Given → Wanted → List ℕ → List ℕ
hash_into v g wanted out =
    written (hash_status v g wanted (length out)) (result_of (variant v) wanted (end_state (variant v) (given_bits (variant v) g))) out
