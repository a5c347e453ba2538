-- A step over a segment list (document 01: a walker over the sheet): what it gives, its answer, and which entry is
-- next after it.
-- Assumes nothing.
use Rattle.std.specs.Prelude.{List, ℕ, ◌+◌, Result, Ok, Err}
use Rattle.answers.specs.declared.Refusal.{Refusal}
use Rattle.answers.specs.Refusals.{Status, Done, Refused, answer}
use Rattle.answers.specs.Checks.{first_refusal}
use Rattle.answers.specs.Outputs.{when_done}
use Rattle.segments.specs.Entries.{offset_of, length_of, step_checks}
use Rattle.segments.specs.declared.Entry.{Entry}
use Rattle.segments.specs.declared.Found.{Found}

-- what a step gives: an entry, or the refusal
abbrev pub Step : Type 0
Step = Result Entry Refusal

-- the answer of a step at entry k
abbrev pub step_status : List ℕ → ℕ → Status
step_status list k = first_refusal (step_checks list k)

-- a step as one number: 0 where it gives an entry
abbrev pub step_answer : Step → ℕ
step_answer (Ok entry) = 0
step_answer (Err r) = answer (Refused r)

-- the entry, or the refusal
abbrev pub entry_or : Status → Entry → Step
entry_or Done entry = Ok entry
entry_or (Refused r) entry = Err r

-- where it is not refused the entry is given, and the one after it is next
unfoldable pub found_at : List ℕ → ℕ → Found
found_at list k = record {
  step = entry_or (step_status list k) (record { offset = offset_of list k; length = length_of list k });
  next = when_done (step_status list k) (k + 1) k;
}
