-- What a manifest holds of an axis, and its axes counted: if the numbers rise, those that it holds are as many as the
-- records, whatever is asked of them besides.
-- Assumes nothing.
use mathlib.Core.Path.{◌≡◌, refl, sym, ap, ap₂, ◌∙◌}
use mathlib.Core.Bool.{Bool, true, false, not, ◌&&◌}
use mathlib.Core.List.{List}
use mathlib.Core.Logic.{⊎_elim}
use mathlib.Core.Option.{Option, none, some, map}
use Prim.Native.Nat.{ℕ, zero, suc, ◌+◌, ◌≤◌, ◌<◌}
use native.Mathlib.Nat.{not-suc-le-zero}
use native.Mathlib.Omega.{arith}
use lib.Dec.{eqb}
use borrow.Author.Tests.{ltb-true, ltb-false}
use Rattle.octets.specs.Numbers.{Bytes}
use Rattle.standard.specs.Bits.{digit}
use Rattle.standard.proofs.Tests.{true-not-false, either, lt-or-le}
use Rattle.manifest.specs.Lists.{how_many}
use Rattle.manifest.specs.Records.{record_count, axis_at}
use Rattle.manifest.specs.Installations.{Expected, axis_numbers, all_axes, is_there, axis_count, expected_at, held}
use Rattle.manifest.specs.Tables.{Table}
use Rattle.manifest.specs.Counts.{is_told, untold}
use Rattle.manifest.specs.Lookups.{record_for, is_listed}
use Rattle.manifest.proofs.Counting.{and_yes, count_below, count-below, count-suc, count_same}
use Rattle.manifest.proofs.RecordLaws.{first_found, first-none}
use Rattle.manifest.proofs.OrderLaws.{Rising, record-listed, listed-record, Place, others-from}
use Rattle.manifest.proofs.RecordBytes.{axis-below}

-- what is held of an axis: what its record says, or nothing
module _ (manifest : List ℕ) (axis : ℕ) where
  pub held-there : is_listed manifest axis ≡ true → held manifest axis ≡ some (expected_at manifest (record_for manifest axis))
  unfolding held is_listed record_for
  held-there e =
      ap (map (expected_at manifest))
      (first_found (record_count manifest) (λ k. eqb (axis_at manifest k) axis) (ltb-true (record_for manifest axis) (record_count manifest) e))

  pub held_none : is_listed manifest axis ≡ false → held manifest axis ≡ none
  unfolding held is_listed record_for
  held_none e =
      ap (map (expected_at manifest))
      (first-none (record_count manifest) (λ k. eqb (axis_at manifest k) axis) (ltb-false (record_for manifest axis) (record_count manifest) e))

module _ (manifest : List ℕ) (rising : Rising manifest) where
  -- ---- places

  -- the place of the next number is one further if this number is listed
  pub place-next : (axis k : ℕ) → Place manifest (suc axis) k → is_listed manifest axis ≡ true → k ≡ record_for manifest axis + 1
  place-next axis k p e =
      let r = listed-record manifest axis e in
      let j : ℕ = record_for manifest axis in
      ⊎_elim
      (λ (l : j < k). ⊎_elim
      (λ (m : j + 1 < k). absurd (omega (arith, p.lower (j + 1) m, rising j (j + 1) (omega arith) (omega (arith, p.within)), r.1)))
      (λ (m : k ≤ j + 1). omega arith)
      (lt-or-le (j + 1) k))
      (λ (l : k ≤ j). absurd (omega (arith, p.others j l r.0, r.1)))
      (lt-or-le j k)

  pub place-own : (axis : ℕ) → is_listed manifest axis ≡ true → Place manifest axis (record_for manifest axis)
  place-own axis e =
      let r = listed-record manifest axis e in
      let j : ℕ = record_for manifest axis in
      record {
        within = omega (arith, r.0);
        lower = λ i l. omega (arith, rising i j l r.0, r.1);
        others = others-from manifest axis rising j (omega (arith, r.1));
      }

  -- and the same if it is not
  pub place_same : (axis k : ℕ) → Place manifest (suc axis) k → is_listed manifest axis ≡ false → Place manifest axis k
  place_same axis k p e =
      record {
        within = p.within;
        lower = λ j l. ⊎_elim
            (λ (m : axis_at manifest j < axis). m)
            (λ (m : axis ≤ axis_at manifest j). absurd (unlisted j (omega (arith, p.within)) (omega (arith, m, p.lower j l))))
            (lt-or-le (axis_at manifest j) axis);
        others = λ j l h. omega (arith, p.others j l h);
      }
    where
      unlisted : (j : ℕ) → j < record_count manifest → axis_at manifest j ≡ axis → ⊥
      unlisted j h q = true-not-false (sym (record-listed manifest j h) ∙ ap (is_listed manifest) q ∙ e)

  -- ---- the axes that are held, counted

  module _ (q : ℕ → Bool) where
    -- an axis that is held and of which q holds
    abbrev held_with : ℕ → Bool
    held_with axis = is_there (held manifest axis) && q axis

    -- those below a number are the records before its place
    axes-below : (axis k : ℕ) → Place manifest axis k → count_below held_with axis ≡ count_below (λ j. q (axis_at manifest j)) k
    axes-below zero zero p = refl
    axes-below zero (suc k) p = absurd (not-suc-le-zero (p.lower 0 (omega arith)))
    axes-below (suc axis) k p =
        ⊎_elim
        (λ (e : is_listed manifest axis ≡ true).
        let r : ℕ = record_for manifest axis in
        let next : suc r ≡ k = omega (arith, place-next axis k p e) in
        let here : held_with axis ≡ q (axis_at manifest r) =
        ap (λ (o : Option Expected). is_there o && q axis) (held-there manifest axis e) ∙ ap q (sym (listed-record manifest axis e).1) in
        count-suc held_with axis
        ∙ ap₂ ◌+◌ (axes-below axis r (place-own axis e)) (ap digit here)
        ∙ sym (count-suc (λ j. q (axis_at manifest j)) r)
        ∙ ap (count_below (λ j. q (axis_at manifest j))) next)
        (λ (e : is_listed manifest axis ≡ false).
        let here : held_with axis ≡ false = ap (λ (o : Option Expected). is_there o && q axis) (held_none manifest axis e) in
        count-suc held_with axis
        ∙ ap₂ ◌+◌ (axes-below axis k (place_same axis k p e)) (ap digit here)
        ∙ omega arith)
        (either (is_listed manifest axis))

  module _ (hb : Bytes manifest) where
    -- after the last record
    pub place-last : Place manifest axis_numbers (record_count manifest)
    place-last = record { within = omega arith; lower = λ j h. axis-below manifest j h hb; others = λ j h l. absurd (omega arith) }

    -- of all axis numbers, as many are held with a property as records have one with it
    pub axes-counted : (q : ℕ → Bool)
        → how_many (λ axis. is_there (held manifest axis) && q axis) all_axes ≡ count_below (λ j. q (axis_at manifest j)) (record_count manifest)
    unfolding all_axes
    axes-counted q = axes-below q axis_numbers (record_count manifest) place-last

    -- Each record has an axis of its own.
    pub listed-records : axis_count (held manifest) ≡ record_count manifest
    unfolding axis_count all_axes
    listed-records =
        count_same (λ axis. is_there (held manifest axis)) (λ axis. is_there (held manifest axis) && true) axis_numbers
        (λ axis _. sym (and_yes (is_there (held manifest axis))))
        ∙ axes-below (λ axis. true) axis_numbers (record_count manifest) place-last
        ∙ count-below (record_count manifest)

    pub untold-records : (ts : List Table)
        → untold (held manifest) ts ≡ count_below (λ k. not (is_told ts (axis_at manifest k))) (record_count manifest)
    unfolding untold
    untold-records ts = axes-counted (λ axis. not (is_told ts axis))
