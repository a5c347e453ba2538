-- Need not be believed: held-there and held-none say that what is looked up so is what the manifest holds, and
-- in-pieces what a report comes to that looks axes up. Manifests in which an axis can be looked up by its number, and
-- the number of its record.
-- Assumes nothing.
use Rattle.std.specs.Prelude.{Bool, true, cond, ◌&&◌, List, ℕ, zero, suc, eqb, ltb, Option, Some, None}
use Rattle.manifest.specs.Records.{is_manifest, record_count, axis_at, rises_at}

-- p holds of every number below n
abbrev pub every_below : ℕ → (ℕ → Bool) → Bool
every_below zero p = true
every_below (suc n) p = p 0 && every_below n (λ k. p (suc k))

-- whole records, 512 at most, whose axis numbers rise; what else they hold does not matter
unfoldable pub is_ordered : List ℕ → Bool
is_ordered manifest = is_manifest manifest && every_below (record_count manifest) (rises_at manifest)

-- the least number below n of which p holds, and n if it holds of none
abbrev pub least_below : ℕ → (ℕ → Bool) → ℕ
least_below zero p = 0
least_below (suc n) p = cond (p 0) 0 (suc (least_below n (λ k. p (suc k))))

-- the record of an axis, which has its number; the record count if there is none. In a manifest that passes no second
-- record has it.
unfoldable pub record_for : List ℕ → ℕ → ℕ
record_for manifest axis = least_below (record_count manifest) (λ k. eqb (axis_at manifest k) axis)

-- an axis has a record
unfoldable pub is_listed : List ℕ → ℕ → Bool
is_listed manifest axis = ltb (record_for manifest axis) (record_count manifest)

-- the record of an axis, if it has one
unfoldable pub found_record : List ℕ → ℕ → Option ℕ
found_record manifest axis = cond (is_listed manifest axis) (Some (record_for manifest axis)) None
