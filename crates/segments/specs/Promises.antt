-- What is promised of segment lists, beside the contracts.
-- Assumes nothing.
use Rattle.std.specs.Prelude.{◌≡◌, true, List, ◌++◌, ◌↔◌, ℕ, ◌+◌, ◌*◌, ◌≤◌, ◌<◌, length, Ok}
use Rattle.answers.specs.declared.Refusal.{Refusal}
use Rattle.answers.specs.Refusals.{Done, Refused, entry}
use Rattle.octets.specs.Numbers.{Bytes}
use Rattle.standard.specs.Chain.{blocks_of, DifferAt, end_state}
use Rattle.standard.specs.Messages.{byte_bits}
use Rattle.standard.specs.Families.{is_sponge}
use Rattle.standard.specs.Values.{DifferWithin, in_one_block}
use Rattle.standard.specs.Variants.{variant}
use Rattle.standard.specs.declared.Wanted.{Wanted}
use Rattle.standard.specs.declared.Wanted.TheVariants.{EndState}
use Rattle.standard.specs.KnownValues.{AllHold}
use Rattle.segments.specs.KnownValues.{all_values}
use Rattle.segments.specs.Entries.{offset_of, length_of, is_list, count, segment_status, entries_status, segments_of, header_of, message_of}
use Rattle.segments.specs.Steps.{found_at}
use Rattle.segments.specs.Digests.{list_status, list_into}
use Rattle.segments.specs.Cuts.{StopsAt, total_of, joined_place, Names, Passes, SameSegments, BorderMoved, Apart}
use Rattle.segments.specs.KnownValues.{small_entry, six_bytes}

-- Promise 4, a list tells how it cuts: the messages of two accepted lists, each over its own buffer, are equal exactly
-- where the lists are equal and entry by entry name equal bytes.
abbrev pub EqualMessages : Type 0
EqualMessages = (list buffer list' buffer' : List ℕ) → Passes list buffer → Passes list' buffer'
    → (message_of list buffer ≡ message_of list' buffer') ↔ SameSegments list buffer list' buffer'

-- So two accepted lists that differ in a border between touching segments always have different messages, whatever
-- their buffers hold,
abbrev pub BorderShows : Type 0
BorderShows = (k : ℕ) (list list' : List ℕ) → BorderMoved k list list'
    → (buffer buffer' : List ℕ) → Passes list buffer → Passes list' buffer'
    → message_of list buffer ≡ message_of list' buffer' → ⊥

-- although over one buffer the joined segments are the same, accepted or not.
abbrev pub BorderJoined : Type 0
BorderJoined = (k : ℕ) (list list' : List ℕ) → BorderMoved k list list'
    → (buffer : List ℕ) → segments_of list buffer ≡ segments_of list' buffer

-- Such lists there are: the entries (0, 2), (2, 2) and (0, 3), (3, 1) over six bytes.
abbrev pub BorderExample : Type 0
BorderExample =
    BorderMoved 0 (small_entry 0 2 ++ small_entry 2 2) (small_entry 0 3 ++ small_entry 3 1)
    × Passes (small_entry 0 2 ++ small_entry 2 2) six_bytes
    × Passes (small_entry 0 3 ++ small_entry 3 1) six_bytes
    × (message_of (small_entry 0 2 ++ small_entry 2 2) six_bytes ≡ message_of (small_entry 0 3 ++ small_entry 3 1) six_bytes → ⊥)

-- Demand 3 over lists, of a sponge: where the messages of two calls that are Done have rows of blocks of equal count
-- that differ at exactly one place, the end states differ, and so do the bytes that the calls write.
abbrev pub ListRowTold : Type 0
ListRowTold = (v : ℕ) (list x out list' y out' : List ℕ)
    → list_status v list x EndState (length out) ≡ Done → list_status v list' y EndState (length out') ≡ Done
    → is_sponge (variant v) ≡ true
    → (i : ℕ)
    → DifferAt i (blocks_of (variant v) (byte_bits (message_of list x))) (blocks_of (variant v) (byte_bits (message_of list' y)))
    → (end_state (variant v) (byte_bits (message_of list x)) ≡ end_state (variant v) (byte_bits (message_of list' y)) → ⊥)
    × Apart v list x out list' y out'

-- The same of two messages that differ, and only within the block j.
abbrev pub ListBlockTold : Type 0
ListBlockTold = (v : ℕ) (list x out list' y out' : List ℕ)
    → list_status v list x EndState (length out) ≡ Done → list_status v list' y EndState (length out') ≡ Done
    → is_sponge (variant v) ≡ true
    → (j : ℕ) → DifferWithin (j * (variant v).r) (variant v).r (byte_bits (message_of list x)) (byte_bits (message_of list' y))
    → Apart v list x out list' y out'

-- The same of two buffers that differ only in a value that one entry of a list names, where it lies in one block of
-- the message.
abbrev pub ListValueTold : Type 0
ListValueTold = (v : ℕ) → is_sponge (variant v) ≡ true → (list x out y out' : List ℕ)
    → list_status v list x EndState (length out) ≡ Done → list_status v list y EndState (length out') ≡ Done
    → Bytes list → Bytes x → Bytes y → (p n : ℕ) → DifferWithin p n x y
    → (k : ℕ) → Names list k p n → in_one_block (variant v) (length (header_of list) + joined_place list k p) n ≡ true
    → Apart v list x out list y out'

-- The digest over a list sees the message alone: two accepted lists with equal messages give the same answer and
-- leave the same output.
abbrev pub SameMessage : Type 0
SameMessage = (v : ℕ) (list buffer list' buffer' : List ℕ) (wanted : Wanted) (out : List ℕ)
    → Passes list buffer → Passes list' buffer'
    → message_of list buffer ≡ message_of list' buffer'
    → (list_status v list buffer wanted (length out) ≡ list_status v list' buffer' wanted (length out))
    × (list_into v list buffer wanted out ≡ list_into v list' buffer' wanted out)

-- An entry checked alone agrees with the check of its list. Of a list that passes every entry passes,
abbrev pub PassedEntries : Type 0
PassedEntries = (list : List ℕ) (n : ℕ) → is_list list ≡ true
    → entries_status list n ≡ Done → (k : ℕ) → k < count list → segment_status list n k ≡ Done

-- and back;
abbrev pub EntriesPassed : Type 0
EntriesPassed = (list : List ℕ) (n : ℕ) → is_list list ≡ true
    → ((k : ℕ) → k < count list → segment_status list n k ≡ Done) → entries_status list n ≡ Done

-- a refusal of a list, 10 or 11, names an entry that by itself is refused so, and every earlier entry passes,
abbrev pub RefusedEntry : Type 0
RefusedEntry = (list : List ℕ) (n : ℕ) → is_list list ≡ true
    → (r : Refusal) → entries_status list n ≡ Refused r → StopsAt list n (entry r) (Refused r)

-- and back.
abbrev pub EntryRefused : Type 0
EntryRefused = (list : List ℕ) (n : ℕ) → is_list list ≡ true
    → (k : ℕ) (r : Refusal) → StopsAt list n k (Refused r) → entries_status list n ≡ Refused r

-- The joined segments of a list that passes have the sum of its lengths, and never more bytes than the buffer.
abbrev pub SegmentsLength : Type 0
SegmentsLength = (list buffer : List ℕ) → entries_status list (length buffer) ≡ Done
    → length (segments_of list buffer) ≡ total_of list

abbrev pub SegmentsWithin : Type 0
SegmentsWithin = (list buffer : List ℕ) → entries_status list (length buffer) ≡ Done
    → length (segments_of list buffer) ≤ length buffer

-- A step at an entry that is there gives it, and the one after it is next.
abbrev pub EntryGiven : Type 0
EntryGiven = (list : List ℕ) (k : ℕ) → is_list list ≡ true → k < count list
    → found_at list k ≡ record { step = Ok (record { offset = offset_of list k; length = length_of list k }); next = k + 1 }

-- Every known value, of the standard's definitions and of lists, is what the definitions give.
abbrev pub AllValuesHold : Type 0
AllValuesHold = AllHold all_values
