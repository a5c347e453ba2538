-- A manifest (document 02, Q-1 and Q-5: rig list): records of 35 bytes that rise by axis number, each an axis number, a
-- variant and the digest of that axis's table.
-- Assumes nothing.
use Rattle.std.specs.Prelude.{Bool, true, ◌&&◌, List, [], ◌∷◌, ℕ, zero, suc, ◌+◌, ◌*◌, ◌/◌, ◌%◌, eqb, ltb, leb, length, take, drop, get_or}
use Rattle.answers.specs.declared.Refusal.TheVariants.{BadManifest, BadRecord, NotRising}
use Rattle.answers.specs.Refusals.{Status}
use Rattle.answers.specs.Checks.{Check, unless, first_refusal, each}
use Rattle.octets.specs.Numbers.{big_endian}
use Rattle.octets.specs.Slices.{zeros}
use Rattle.standard.specs.Variants.{variant, known}
use Rattle.standard.specs.Layout.{digest_room}

-- the bytes of a record, and the maximum number of records
abbrev pub record_bytes : ℕ
record_bytes = 35

abbrev pub max_records : ℕ
max_records = 512

-- 12 refuses what is not: whole records, and no more than 512 of them
unfoldable pub is_manifest : List ℕ → Bool
is_manifest manifest = eqb (length manifest % record_bytes) 0 && leb (length manifest) (max_records * record_bytes)

-- the number of records of a manifest
abbrev pub record_count : List ℕ → ℕ
record_count manifest = length manifest / record_bytes

-- record k: two bytes of axis number, one of variant, and a field of 32 for a digest and the filler after it
abbrev pub axis_at : List ℕ → ℕ → ℕ
axis_at manifest k = big_endian (take 2 (drop (record_bytes * k) manifest))

abbrev pub variant_at : List ℕ → ℕ → ℕ
variant_at manifest k = get_or manifest (record_bytes * k + 2) 0

abbrev pub digest_field_at : List ℕ → ℕ → List ℕ
digest_field_at manifest k = take digest_room (drop (record_bytes * k + 3) manifest)

-- the digest's bytes under a variant, of which a digest has n bits
abbrev pub digest_bytes : ℕ → ℕ
digest_bytes v = (variant v).n / 8

-- the digest, and the filler
unfoldable pub digest_at : List ℕ → ℕ → List ℕ
digest_at manifest k = take (digest_bytes (variant_at manifest k)) (digest_field_at manifest k)

unfoldable pub filler_at : List ℕ → ℕ → List ℕ
filler_at manifest k = drop (digest_bytes (variant_at manifest k)) (digest_field_at manifest k)

-- the axis number of record k is above the one before it; before the first there is none
unfoldable pub rises_at : List ℕ → ℕ → Bool
rises_at manifest zero = true
rises_at manifest (suc k) = ltb (axis_at manifest k) (axis_at manifest (suc k))

-- the checks of record k: 13 for its variant or its filler, then 14 for its place
unfoldable pub record_checks : List ℕ → ℕ → List Check
record_checks manifest k =
    unless (known (variant_at manifest k)) BadRecord
    ∷ unless (zeros (filler_at manifest k)) BadRecord
    ∷ unless (rises_at manifest k) NotRising
    ∷ []

-- List of a report: 12, then record by record 13, 14
abbrev pub manifest_checks : List ℕ → List Check
manifest_checks manifest = unless (is_manifest manifest) BadManifest ∷ each (record_count manifest) (record_checks manifest)

-- its answer
unfoldable pub manifest_status : List ℕ → Status
manifest_status manifest = first_refusal (manifest_checks manifest)
