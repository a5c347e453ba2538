-- The digest or end state over a list and its segments (document 01: mark of a sheet).
-- Assumes nothing.
use Rattle.std.specs.Prelude.{List, ◌∷◌, ◌++◌, ℕ, ltb, length}
use Rattle.answers.specs.declared.Refusal.TheVariants.{UnknownVariant, TooLong, BadList}
use Rattle.answers.specs.Refusals.{Status}
use Rattle.answers.specs.Checks.{Check, unless, when, first_refusal}
use Rattle.answers.specs.Outputs.{written, max_bytes}
use Rattle.standard.specs.Chain.{end_state}
use Rattle.standard.specs.Messages.{byte_bits}
use Rattle.standard.specs.Variants.{variant, known}
use Rattle.standard.specs.declared.Wanted.{Wanted}
use Rattle.hasher.specs.Reading.{result_of, room_checks}
use Rattle.segments.specs.Entries.{is_list, entries_checks, message_of}

-- Mark of a sheet: 1; 9; entry by entry 10, then 11; 4; 5
abbrev pub list_checks : ℕ → List ℕ → List ℕ → Wanted → ℕ → List Check
list_checks v list buffer wanted n =
    unless (known v) UnknownVariant
    ∷ unless (is_list list) BadList
    ∷ (entries_checks list (length buffer)
    ++ when (ltb max_bytes (length (message_of list buffer))) TooLong
    ∷ room_checks (variant v) wanted n)

-- its answer
unfoldable pub list_status : ℕ → List ℕ → List ℕ → Wanted → ℕ → Status
list_status v list buffer wanted n = first_refusal (list_checks v list buffer wanted n)

-- the caller's output: the standard's digest, or the image of the end state, of the message
unfoldable pub list_into : ℕ → List ℕ → List ℕ → Wanted → List ℕ → List ℕ
list_into v list buffer wanted out =
    written (list_status v list buffer wanted (length out)) (result_of (variant v) wanted (end_state (variant v) (byte_bits (message_of list buffer)))) out
