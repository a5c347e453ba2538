-- How lists cut their buffers: what the promises about lists speak of.
-- Assumes nothing.
use Rattle.std.specs.Prelude.{◌≡◌, true, ℕ, suc, ◌+◌, ◌-◌, ◌≤◌, ◌<◌, length}
use mathlib.Core.List.{List, sum}
use Rattle.answers.specs.Refusals.{Status, Done}
use Rattle.standard.specs.Grid.{tab}
use Rattle.standard.specs.Families.{image_size}
use Rattle.standard.specs.Variants.{variant}
use Rattle.standard.specs.declared.Wanted.TheVariants.{EndState}
use Rattle.hasher.specs.Apart.{Differ}
use Rattle.segments.specs.Entries.{offset_of, length_of, end_of, is_list, count, segment_status, entries_status, segment_of}
use Rattle.segments.specs.Digests.{list_into}

-- the entries before entry k pass, and it is refused by s
pub record StopsAt (list : List ℕ) (n k : ℕ) (s : Status) : Type 0 where
  pub there : k < count list
  pub earlier : (j : ℕ) → j < k → segment_status list n j ≡ Done
  pub refused : segment_status list n k ≡ s

-- the bytes that the first k entries name together, and those of all
abbrev pub total_up_to : List ℕ → ℕ → ℕ
total_up_to list k = sum ◌+◌ 0 (tab k (length_of list))

unfoldable pub total_of : List ℕ → ℕ
total_of list = total_up_to list (count list)

-- where among the joined segments the byte p of the buffer stands, which entry k names
unfoldable pub joined_place : List ℕ → ℕ → ℕ → ℕ
joined_place list k p = total_up_to list k + (p - offset_of list k)

-- entry k names the n bytes of the buffer from p on, all of them
pub record Names (list : List ℕ) (k p n : ℕ) : Type 0 where
  pub there : k < count list
  pub begins : offset_of list k ≤ p
  pub ends : p + n ≤ end_of list k

-- a list that none of 9, 10 and 11 refuses over a buffer: an accepted one
abbrev pub Passes : List ℕ → List ℕ → Type 0
Passes list buffer = (is_list list ≡ true) × (entries_status list (length buffer) ≡ Done)

-- two lists, each over its own buffer, are equal and entry by entry name equal bytes
pub record SameSegments (list buffer list' buffer' : List ℕ) : Type 0 where
  pub lists : list ≡ list'
  pub segments : (k : ℕ) → segment_of list buffer k ≡ segment_of list' buffer' k

-- two lists that differ only in the border between the touching segments of the entries k and k + 1
pub record BorderMoved (k : ℕ) (list list' : List ℕ) : Type 0 where
  pub counts : count list ≡ count list'
  pub there : suc k < count list
  pub begins : offset_of list k ≡ offset_of list' k
  pub touch : end_of list k ≡ offset_of list (suc k)
  pub touch' : end_of list' k ≡ offset_of list' (suc k)
  pub moved : end_of list k ≡ end_of list' k → ⊥
  pub ends : end_of list (suc k) ≡ end_of list' (suc k)
  pub elsewhere : (j : ℕ) → j < count list → (j ≡ k → ⊥) → (j ≡ suc k → ⊥) → (offset_of list j ≡ offset_of list' j) × (length_of list j ≡ length_of list' j)

-- two calls that are asked for the end state, each over its list, buffer and output, write different bytes
abbrev pub Apart : ℕ → (list x out list' y out' : List ℕ) → Type 0
Apart v list x out list' y out' =
    Differ (image_size (variant v)) (list_into v list x EndState out) (list_into v list' y EndState out')
