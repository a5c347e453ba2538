-- Manifests whose axis numbers rise: an axis has one record or none.
-- Assumes nothing.
use mathlib.Core.Path.{◌≡◌, refl, sym, ap, subst, ◌∙◌}
use mathlib.Core.Bool.{true}
use mathlib.Core.List.{List, [], ◌∷◌}
use mathlib.Core.Logic.{⊎_elim}
use Prim.Native.Nat.{ℕ, zero, suc, ◌+◌, ◌-◌, ◌≤◌, ◌<◌}
use native.Mathlib.Nat.{eq-or-lt_of_le, le_of_suc-le-suc}
use native.Mathlib.Omega.{arith}
use lib.Dec.{eqb, ltb}
use borrow.Author.Tests.{eqb-true, eqb-false, eq-eqb, ne_eqb, ltb-true, lt-ltb}
use Rattle.answers.specs.declared.Refusal.TheVariants.{BadManifest}
use Rattle.answers.specs.Refusals.{Done}
use Rattle.answers.specs.Checks.{unless, each}
use Rattle.answers.proofs.Rows.{passing-says, row-both, done-each}
use Rattle.standard.specs.Variants.{known}
use Rattle.standard.proofs.Tests.{and-true, either, lt-or-le}
use Rattle.manifest.specs.Records.{is_manifest, record_count, axis_at, variant_at, filler_at, rises_at, record_checks, manifest_status}
use Rattle.octets.specs.Slices.{zeros}
use Rattle.manifest.specs.Lookups.{every_below, is_ordered, record_for, is_listed}
use Rattle.manifest.proofs.RecordLaws.{passing-manifest, every_below-at, every_below-all, least_at, least-none, least-holds, least_first}

-- ---- rising numbers

-- the first record, and any other, as the code asks it
pub rises-first : (manifest : List ℕ) (k : ℕ) → k ≡ 0 → true ≡ rises_at manifest k
unfolding rises_at
rises-first manifest zero e = refl
rises-first manifest (suc k) e = absurd (omega arith)

pub rises-after : (manifest : List ℕ) (k : ℕ) → (k ≡ 0 → ⊥) → ltb (axis_at manifest (k - 1)) (axis_at manifest k) ≡ rises_at manifest k
unfolding rises_at
rises-after manifest zero n = absurd (n refl)
rises-after manifest (suc k) n = let e : suc k - 1 ≡ k = omega arith in ap (λ (j : ℕ). ltb (axis_at manifest j) (axis_at manifest (suc k))) e

-- of any two records the later has the higher number
abbrev pub Rising : List ℕ → Type 0
Rising manifest = (j k : ℕ) → j < k → k < record_count manifest → axis_at manifest j < axis_at manifest k

-- each is above the one before it
pub rising-from : (manifest : List ℕ) → ((k : ℕ) → k < record_count manifest → rises_at manifest k ≡ true) → Rising manifest
unfolding rises_at
rising-from manifest h j zero l m = absurd (omega arith)
rising-from manifest h j (suc k) l m =
    let step : axis_at manifest k < axis_at manifest (suc k) = ltb-true (axis_at manifest k) (axis_at manifest (suc k)) (h (suc k) m) in
    ⊎_elim
    (λ (e : j ≡ k). subst (λ (i : ℕ). axis_at manifest i < axis_at manifest (suc k)) (sym e) step)
    (λ (i : j < k). omega (arith, step, rising-from manifest h j k i (omega arith)))
    (eq-or-lt_of_le (le_of_suc-le-suc l))

-- and the other way
pub rises-each : (manifest : List ℕ) → Rising manifest → (k : ℕ) → k < record_count manifest → rises_at manifest k ≡ true
unfolding rises_at
rises-each manifest r zero h = refl
rises-each manifest r (suc k) h = lt-ltb (axis_at manifest k) (axis_at manifest (suc k)) (r k (suc k) (omega arith) h)

-- what a call may rely on: whole records, that rise
pub ordered-parts : (manifest : List ℕ) → is_ordered manifest ≡ true → (is_manifest manifest ≡ true) × Rising manifest
unfolding is_ordered
ordered-parts manifest e =
    let p = and-true (is_manifest manifest) (every_below (record_count manifest) (rises_at manifest)) e in
    (p.0, rising-from manifest (every_below-at (record_count manifest) (rises_at manifest) p.1))

-- ---- a manifest that passes

-- what its records are
pub record Passed (manifest : List ℕ) (k : ℕ) : Type 0 where
  pub named : known (variant_at manifest k) ≡ true
  pub filled : zeros (filler_at manifest k) ≡ true
  pub rises : rises_at manifest k ≡ true

pub passed-record : (manifest : List ℕ) → manifest_status manifest ≡ Done → (k : ℕ) → k < record_count manifest → Passed manifest k
unfolding manifest_status record_checks
passed-record manifest passes k h =
    let all = (row-both (unless (is_manifest manifest) BadManifest ∷ []) (each (record_count manifest) (record_checks manifest)) passes).1 in
    let p = passing-says (record_checks manifest k) (done-each (record_count manifest) (record_checks manifest) all k h) in
    record { named = p.0; filled = p.1.0; rises = p.1.1.0 }

pub passing-rises : (manifest : List ℕ) → manifest_status manifest ≡ Done → Rising manifest
passing-rises manifest passes = rising-from manifest (λ k h. (passed-record manifest passes k h).rises)

pub passing-ordered : (manifest : List ℕ) → manifest_status manifest ≡ Done → is_ordered manifest ≡ true
unfolding is_ordered
passing-ordered manifest passes =
    rw (passing-manifest manifest passes) (every_below-all (record_count manifest) (rises_at manifest) (λ k h. (passed-record manifest passes k h).rises))

-- ---- the record of an axis

module _ (manifest : List ℕ) (axis : ℕ) where
  -- if there is one, it has the axis's number
  pub record-axis : record_for manifest axis < record_count manifest → axis_at manifest (record_for manifest axis) ≡ axis
  unfolding record_for
  record-axis h = eqb-true (axis_at manifest (record_for manifest axis)) axis (least-holds (record_count manifest) (λ k. eqb (axis_at manifest k) axis) h)

  -- if no record has the number, there is none
  pub record-none : ((k : ℕ) → k < record_count manifest → axis_at manifest k ≡ axis → ⊥) → record_for manifest axis ≡ record_count manifest
  unfolding record_for
  record-none none = least-none (record_count manifest) (λ k. eqb (axis_at manifest k) axis) (λ k h. ne_eqb (axis_at manifest k) axis (none k h))

  module _ (rising : Rising manifest) where
    -- no second record has it
    pub record-only : (k : ℕ) → k < record_count manifest → axis_at manifest k ≡ axis → k ≡ record_for manifest axis
    unfolding record_for
    record-only k h e =
        sym
        (least_at (record_count manifest) (λ j. eqb (axis_at manifest j) axis) k h
        (λ j l. ne_eqb (axis_at manifest j) axis (λ q. omega (arith, rising j k l h)))
        (eq-eqb (axis_at manifest k) axis e))

    -- so a record has the number exactly when it is the axis's
    pub record_is : (k : ℕ) → k < record_count manifest → eqb axis (axis_at manifest k) ≡ eqb k (record_for manifest axis)
    record_is k h =
        ⊎_elim
        (λ e. e ∙ sym (eq-eqb k (record_for manifest axis) (record-only k h (sym (eqb-true axis (axis_at manifest k) e)))))
        (λ e. e ∙ sym (ne_eqb k (record_for manifest axis)
        (λ q. eqb-false axis (axis_at manifest k) e (sym (record-axis (omega arith)) ∙ ap (axis_at manifest) (sym q)))))
        (either (eqb axis (axis_at manifest k)))

-- An axis is listed exactly when a record has its number.
pub record-listed : (manifest : List ℕ) (k : ℕ) → k < record_count manifest → is_listed manifest (axis_at manifest k) ≡ true
unfolding is_listed record_for
record-listed manifest k h =
    let axis : ℕ = axis_at manifest k in
    lt-ltb (record_for manifest axis) (record_count manifest)
    (omega (arith, least_first (record_count manifest) (λ j. eqb (axis_at manifest j) axis) k h (eq-eqb axis axis refl)))

pub listed-record : (manifest : List ℕ) (axis : ℕ) → is_listed manifest axis ≡ true
    → (record_for manifest axis < record_count manifest) × (axis_at manifest (record_for manifest axis) ≡ axis)
unfolding is_listed
listed-record manifest axis e =
    let h = ltb-true (record_for manifest axis) (record_count manifest) e in
    (h, record-axis manifest axis h)

-- ---- the place of an axis

-- the one at which it stands, or would stand: every record before k has a lower number, and none from k on
pub record Place (manifest : List ℕ) (axis k : ℕ) : Type 0 where
  pub within : k ≤ record_count manifest
  pub lower : (j : ℕ) → j < k → axis_at manifest j < axis
  pub others : (j : ℕ) → k ≤ j → j < record_count manifest → axis ≤ axis_at manifest j

-- with a record that has no lower number, none after it has
pub others-from : (manifest : List ℕ) (axis : ℕ) → Rising manifest → (m : ℕ) → axis ≤ axis_at manifest m → (j : ℕ) → m ≤ j → j < record_count manifest
    → axis ≤ axis_at manifest j
others-from manifest axis rising m l j i h =
    ⊎_elim
    (λ (e : m ≡ j). subst (λ (k : ℕ). axis ≤ axis_at manifest k) e l)
    (λ (e : m < j). omega (arith, rising m j e h))
    (eq-or-lt_of_le i)

-- with a record that has a lower number, every one before it has one too
pub lower-to : (manifest : List ℕ) (axis : ℕ) → Rising manifest → (m : ℕ) → m < record_count manifest → axis_at manifest m < axis → (j : ℕ) → j < m + 1
    → axis_at manifest j < axis
lower-to manifest axis rising m h l j i =
    ⊎_elim
    (λ (e : j < m). omega (arith, rising j m e h))
    (λ (e : m ≤ j). let q : j ≡ m = omega arith in subst (λ (k : ℕ). axis_at manifest k < axis) (sym q) l)
    (lt-or-le j m)

-- if the record at the axis's place has a different number, the axis has none
pub place_none : (manifest : List ℕ) (axis : ℕ) → Rising manifest → (k : ℕ) → Place manifest axis k
    → (k < record_count manifest → axis_at manifest k ≡ axis → ⊥) → record_for manifest axis ≡ record_count manifest
place_none manifest axis rising k p n =
    record-none manifest axis
    (λ j h e. ⊎_elim
    (λ (l : j < k). omega (arith, p.lower j l))
    (λ (l : k ≤ j). ⊎_elim
    (λ (q : k ≡ j). n (omega arith) (ap (axis_at manifest) q ∙ e))
    (λ (q : k < j). omega (arith, rising k j q h, p.others k (omega arith) (omega arith)))
    (eq-or-lt_of_le l))
    (lt-or-le j k))
