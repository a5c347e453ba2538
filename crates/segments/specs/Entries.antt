-- A segment list (document 01: cut sheet): entries (pairs) of eight bytes that name segments (parts) of a buffer.
-- Assumes nothing.
use Rattle.std.specs.Prelude.{Bool, ◌&&◌, ℕ, zero, suc, ◌+◌, ◌*◌, ◌/◌, ◌%◌, eqb, ltb, leb, length, take, drop}
use mathlib.Core.List.{List, [], ◌∷◌, ◌++◌, flat_map}
use Rattle.answers.specs.declared.Refusal.TheVariants.{OutOfRange, BadList, Misordered, PastEnd}
use Rattle.answers.specs.Refusals.{Status}
use Rattle.answers.specs.Checks.{Check, unless, when, first_refusal, each}
use Rattle.octets.specs.Numbers.{big_endian, in_bytes}
use Rattle.answers.specs.Outputs.{when_done}
use Rattle.standard.specs.Grid.{tab}

-- offset and length of entry k: four bytes each
abbrev pub offset_of : List ℕ → ℕ → ℕ
offset_of list k = big_endian (take 4 (drop (8 * k) list))

abbrev pub length_of : List ℕ → ℕ → ℕ
length_of list k = big_endian (take 4 (drop (8 * k + 4) list))

-- where it ends
abbrev pub end_of : List ℕ → ℕ → ℕ
end_of list k = offset_of list k + length_of list k

-- where the entry before entry k ends: 0 for entry 0
unfoldable pub former_end : List ℕ → ℕ → ℕ
former_end list zero = 0
former_end list (suc k) = end_of list k

-- 9 refuses what is not: whole entries, and no more than 512 of them
unfoldable pub is_list : List ℕ → Bool
is_list list = eqb (length list % 8) 0 && leb (length list) 4096

-- how many entries a list has
abbrev pub count : List ℕ → ℕ
count list = length list / 8

-- the segment that entry k names
unfoldable pub segment_in : List ℕ → List ℕ → ℕ → List ℕ
segment_in list buffer k = take (length_of list k) (drop (offset_of list k) buffer)

-- Step of the walker, at entry k: 9, 7
abbrev pub step_checks : List ℕ → ℕ → List Check
step_checks list k = unless (is_list list) BadList ∷ unless (ltb k (count list)) OutOfRange ∷ []

-- the checks of an entry against a buffer of n bytes: 10, then 11
unfoldable pub entry_checks : List ℕ → ℕ → ℕ → List Check
entry_checks list n k = when (ltb (offset_of list k) (former_end list k)) (Misordered k) ∷ when (ltb n (end_of list k)) (PastEnd k) ∷ []

-- Part of a pair: those of a step, then 10 and 11 for that entry alone
unfoldable pub segment_checks : List ℕ → ℕ → ℕ → List Check
segment_checks list n k = step_checks list k ++ entry_checks list n k

-- the checks of all entries, entry by entry
abbrev pub entries_checks : List ℕ → ℕ → List Check
entries_checks list n = each (count list) (entry_checks list n)

-- the answer for an entry
abbrev pub segment_status : List ℕ → ℕ → ℕ → Status
segment_status list n k = first_refusal (segment_checks list n k)

-- the first refusal of the entries
abbrev pub entries_status : List ℕ → ℕ → Status
entries_status list n = first_refusal (entries_checks list n)

-- the segment, empty where the check refuses
unfoldable pub segment_of : List ℕ → List ℕ → ℕ → List ℕ
segment_of list buffer k = when_done (segment_status list (length buffer) k) (segment_in list buffer k) []

-- the byte of the buffer at which it begins: the first where the check refuses
unfoldable pub segment_at : List ℕ → ℕ → ℕ → ℕ
segment_at list n k = when_done (segment_status list n k) (offset_of list k) 0

-- the place in memory a bytes on, in the same block
abbrev pub further : ℕ → ℕ × ℕ → ℕ × ℕ
further a place = (place.0, a + place.1)

-- the segments joined in order
unfoldable pub segments_of : List ℕ → List ℕ → List ℕ
segments_of list buffer = flat_map (λ s. s) (tab (count list) (segment_in list buffer))

-- what stands in front of them: the number of entries in two bytes, and the list
unfoldable pub header_of : List ℕ → List ℕ
header_of list = in_bytes 2 (count list) ++ list

-- the message (document 02, Q-3): the number of entries, the list, the segments
unfoldable pub message_of : List ℕ → List ℕ → List ℕ
message_of list buffer = header_of list ++ segments_of list buffer
