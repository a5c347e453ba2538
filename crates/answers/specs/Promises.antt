-- What a row of checks and the number of an answer tell a caller.
-- Assumes nothing.
use Rattle.std.specs.Prelude.{◌≡◌, false, List, ◌∷◌, ◌++◌, ◌/◌, ◌%◌}
use Rattle.answers.specs.declared.Refusal.{Refusal}
use Rattle.answers.specs.Refusals.{Status, Done, Refused, number, entry, answer}
use Rattle.answers.specs.Checks.{Check, first_refusal, Pass}

-- A check that fails after checks that pass gives its refusal, whatever comes after it.
abbrev pub RefusedHere : Type 0
RefusedHere = (before : List Check) (c : Check) (after : List Check) → Pass before → c.passes ≡ false
    → first_refusal (before ++ c ∷ after) ≡ Refused c.refusal

-- A row of which every check passes is Done.
abbrev pub PassedAll : Type 0
PassedAll = (row : List Check) → Pass row → first_refusal row ≡ Done

-- Of a row that is Done, every check has passed.
abbrev pub PassingSays : Type 0
PassingSays = (row : List Check) → first_refusal row ≡ Done → Pass row

-- Two different answers never have the same number.
abbrev pub AnswerTells : Type 0
AnswerTells = (s t : Status) → answer s ≡ answer t → s ≡ t

-- The low byte of an answer's number is the number of its refusal,
abbrev pub AnswerNumber : Type 0
AnswerNumber = (r : Refusal) → answer (Refused r) % 256 ≡ number r

-- and what is above the low byte is the entry that the refusal names.
abbrev pub AnswerEntry : Type 0
AnswerEntry = (r : Refusal) → answer (Refused r) / 256 ≡ entry r
