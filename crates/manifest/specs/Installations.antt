-- Installations (document 02, Q-5: rig): which table each axis should hold, the manifest that says so, and what a
-- manifest holds.
-- Assumes nothing.
use Rattle.std.specs.Prelude.{◌≡◌, Bool, true, false, List, [], ◌∷◌, ◌++◌, ℕ, zero, suc, ◌-◌, ◌≤◌, eqb, length, replicate}
use Rattle.std.proofs.Math.Option.{Option, none, some, map}
use Rattle.octets.specs.Numbers.{Bytes, in_bytes}
use Rattle.standard.specs.Grid.{tab}
use Rattle.standard.specs.Variants.{known}
use Rattle.standard.specs.Layout.{digest_room}
use Rattle.manifest.specs.Lists.{how_many, first_below}
use Rattle.manifest.specs.Records.{max_records, record_count, axis_at, variant_at, digest_bytes, digest_at}

-- what the table of an axis should be: one that has this digest under this variant
pub record Expected : Type 0 where
  pub variant : ℕ
  pub digest : List ℕ

-- a map from axis numbers; an axis that is not there has none
abbrev pub Axes : Type 0
Axes = ℕ → Option Expected

-- an axis number has two bytes
abbrev pub axis_numbers : ℕ
axis_numbers = 65536

-- every axis number, once
unfoldable pub all_axes : List ℕ
all_axes = tab axis_numbers (λ axis. axis)

-- an axis is there
abbrev pub is_there : Option Expected → Bool
is_there none = false
is_there (some e) = true

-- the number of axes of a map
unfoldable pub axis_count : Axes → ℕ
axis_count axes = how_many (λ axis. is_there (axes axis)) all_axes

-- a variant that is known, and as many bytes as its digests have
pub record IsSound (e : Expected) : Type 0 where
  pub named : known e.variant ≡ true
  pub long : length e.digest ≡ digest_bytes e.variant
  pub bytes : Bytes e.digest

-- an installation: a map of axis numbers, up to 512 of them, to sound variants and digests
pub record IsInstallation (axes : Axes) : Type 0 where
  pub numbered : (axis : ℕ) → axis_numbers ≤ axis → axes axis ≡ none
  pub few : axis_count axes ≤ max_records
  pub sound : (axis : ℕ) (e : Expected) → axes axis ≡ some e → IsSound e

-- ---- written as a manifest

-- the record of an axis: its number, its variant and its digest, filled with zeros
unfoldable pub record_of : ℕ → Expected → List ℕ
record_of axis e = in_bytes 2 axis ++ (e.variant ∷ e.digest ++ replicate (digest_room - length e.digest) 0)

-- one for an axis that is there
abbrev pub record_if : ℕ → Option Expected → List ℕ
record_if axis none = []
record_if axis (some e) = record_of axis e

-- those of the axes below n, from the lowest up
abbrev pub list_below : ℕ → Axes → List ℕ
list_below zero axes = []
list_below (suc n) axes = list_below n axes ++ record_if n (axes n)

-- the list of an installation
unfoldable pub list_of : Axes → List ℕ
list_of axes = list_below axis_numbers axes

-- ---- read from a manifest

-- what record k says of its axis
abbrev pub expected_at : List ℕ → ℕ → Expected
expected_at manifest k = record { variant = variant_at manifest k; digest = digest_at manifest k }

-- what a manifest holds of an axis: what the first record with its number says, and nothing if none has it
unfoldable pub held : List ℕ → Axes
held manifest axis =
    map (expected_at manifest) (first_below (record_count manifest) (λ k. eqb (axis_at manifest k) axis))
