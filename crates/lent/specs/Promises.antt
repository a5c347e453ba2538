-- What is promised of a cursor, beside the contract of its step.
-- Assumes nothing.
use Rattle.std.specs.Prelude.{◌≡◌, Err}
use Rattle.answers.specs.declared.Refusal.{Refusal}
use Rattle.segments.specs.Steps.{found_at}
use Rattle.lent.specs.declared.Cursor.{Cursor}
use Rattle.lent.specs.Cursors.{moved_on}

-- A refused step leaves the cursor as it was.
abbrev pub RefusedStays : Type 0
RefusedStays = (c : Cursor) (r : Refusal) → (found_at c.list.now c.next).step ≡ Err r → moved_on c ≡ c
