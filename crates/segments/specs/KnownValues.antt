-- All known values that are proved: those of the standard, and those for segment lists of a buffer of 6 bytes, stated by document 01 and document 02, or ours.
-- Assumes nothing.
use Rattle.std.specs.Prelude.{List, [], ◌∷◌, ◌++◌, ℕ, ◌/◌, ◌%◌, length}
use Rattle.answers.specs.Refusals.{Status, answer}
use Rattle.octets.specs.Numbers.{in_bytes}
use Rattle.standard.specs.KnownValues as standard
use Rattle.standard.specs.KnownValues.{Row}
use Rattle.segments.specs.Entries.{count, segment_status, segment_of, entries_status, segments_of, message_of}

-- an entry of an offset and a length below 256
abbrev pub small_entry : ℕ → ℕ → List ℕ
small_entry o l = 0 ∷ 0 ∷ 0 ∷ o ∷ 0 ∷ 0 ∷ 0 ∷ l ∷ []

-- a buffer whose bytes are their places
abbrev pub six_bytes : List ℕ
six_bytes = 0 ∷ 1 ∷ 2 ∷ 3 ∷ 4 ∷ 5 ∷ []

-- the number of an answer and the entry that it names
abbrev pub answer_parts : Status → List ℕ
answer_parts s = answer s % 256 ∷ answer s / 256 ∷ []

-- those of a list over six bytes
abbrev pub answer_of : List ℕ → List ℕ
answer_of list = answer_parts (entries_status list 6)

-- the bytes of a message, and of these those of the count, of the list and of the segments
abbrev pub sizes_of : List ℕ → List ℕ → List ℕ
sizes_of list buffer = length (message_of list buffer) ∷ length (in_bytes 2 (count list)) ∷ length list ∷ length (segments_of list buffer) ∷ []

-- the papers' rows for lists
abbrev pub stated : List Row
stated =
    -- (0, 2), (3, 2) take the bytes 0, 1, 3, 4
    record { gives = answer_of (small_entry 0 2 ++ small_entry 3 2); expected = 0 ∷ 0 ∷ [] }
    ∷ record { gives = segments_of (small_entry 0 2 ++ small_entry 3 2) six_bytes; expected = 0 ∷ 1 ∷ 3 ∷ 4 ∷ [] }
    -- and give 22 bytes (document 02, Q-3): 2 of count, 16 of list, 4 of segments
    ∷ record { gives = sizes_of (small_entry 0 2 ++ small_entry 3 2) six_bytes; expected = 22 ∷ 2 ∷ 16 ∷ 4 ∷ [] }
    ∷ record { gives = message_of (small_entry 0 2 ++ small_entry 3 2) six_bytes; expected = 0 ∷ 2 ∷ (small_entry 0 2 ++ small_entry 3 2 ++ 0 ∷ 1 ∷ 3 ∷ 4 ∷ []) }
    ∷ record { gives = segment_of (small_entry 0 2 ++ small_entry 3 2) six_bytes 0; expected = 0 ∷ 1 ∷ [] }
    ∷ record { gives = segment_of (small_entry 0 2 ++ small_entry 3 2) six_bytes 1; expected = 3 ∷ 4 ∷ [] }
    -- (0, 2), (1, 2) gives 10 at entry 1
    ∷ record { gives = answer_of (small_entry 0 2 ++ small_entry 1 2); expected = 10 ∷ 1 ∷ [] }
    ∷ record { gives = answer_parts (segment_status (small_entry 0 2 ++ small_entry 1 2) 6 1); expected = 10 ∷ 1 ∷ [] }
    -- (5, 2) gives 11 at entry 0
    ∷ record { gives = answer_of (small_entry 5 2); expected = 11 ∷ 0 ∷ [] }
    -- (6, 0) passes
    ∷ record { gives = answer_of (small_entry 6 0); expected = 0 ∷ 0 ∷ [] }
    ∷ []

-- rows that no paper states
abbrev pub ours : List Row
ours =
    -- the border of (0, 2), (2, 2) moved by one shows in the message, and not in the joined segments
    record { gives = segments_of (small_entry 0 2 ++ small_entry 2 2) six_bytes; expected = 0 ∷ 1 ∷ 2 ∷ 3 ∷ [] }
    ∷ record { gives = segments_of (small_entry 0 3 ++ small_entry 3 1) six_bytes; expected = 0 ∷ 1 ∷ 2 ∷ 3 ∷ [] }
    ∷ record { gives = message_of (small_entry 0 2 ++ small_entry 2 2) six_bytes; expected = 0 ∷ 2 ∷ (small_entry 0 2 ++ small_entry 2 2 ++ 0 ∷ 1 ∷ 2 ∷ 3 ∷ []) }
    ∷ record { gives = message_of (small_entry 0 3 ++ small_entry 3 1) six_bytes; expected = 0 ∷ 2 ∷ (small_entry 0 3 ++ small_entry 3 1 ++ 0 ∷ 1 ∷ 2 ∷ 3 ∷ []) }
    ∷ []

-- both
abbrev pub list_values : List Row
list_values = stated ++ ours

-- the one list
abbrev pub all_values : List Row
all_values = standard.known_rows ++ list_values
