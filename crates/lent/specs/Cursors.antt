-- A cursor over a segment list (document 01: a walker over the sheet), and what a step makes of it.
-- Assumes nothing.
use Rattle.segments.specs.Steps.{found_at}
use Rattle.lent.specs.declared.Cursor.{Cursor}

-- the cursor after a step: the same list, and the next entry
abbrev pub moved_on : Cursor → Cursor
moved_on c = record { list = c.list; next = (found_at c.list.now c.next).next }
