-- The list of an installation: each axis that is there stands after as many records as there are lower axes, the list
-- passes, and it holds the installation.
-- Assumes nothing.
use mathlib.Core.Path.{◌≡◌, refl, sym, ap, subst, ◌∙◌}
use mathlib.Core.List.{List}
use mathlib.Core.Logic.{⊎_elim}
use mathlib.Core.Option.{Option, none, some, none-ne-some}
use Prim.Native.Nat.{ℕ, zero, suc, ◌*◌, ◌%◌, ◌≤◌, ◌<◌}
use native.Mathlib.Nat.{eq-or-lt_of_le, le_of_suc-le-suc, not-suc-le-zero}
use native.Mathlib.Omega.{arith}
use lib.ListN.{length, length-append}
use borrow.Author.Tests.{eq-eqb, le-leb}
use Rattle.answers.specs.Refusals.{Done}
use Rattle.octets.specs.Numbers.{Bytes}
use Rattle.octets.proofs.ByteLaws.{append-bytes}
use Rattle.answers.proofs.Rows.{passed-all, each-done}
use Rattle.standard.specs.Bits.{digit}
use Rattle.standard.specs.Variants.{known}
use Rattle.standard.proofs.Tests.{lt-or-le}
use Rattle.manifest.specs.Records.{is_manifest, record_count, record_checks, manifest_status}
use Rattle.manifest.specs.Lookups.{record_for}
use Rattle.manifest.specs.Installations.{Expected, Axes, is_there, IsSound, record_of, record_if, list_below, expected_at, held}
use Rattle.manifest.proofs.Counting.{count_below, count-suc, count-mono, count-more}
use Rattle.manifest.proofs.RecordLaws.{found-listed, none-listed}
use Rattle.manifest.proofs.OrderLaws.{Rising, rises-each, record-none, record-only}
use Rattle.manifest.proofs.AxisLaws.{held-there, held_none}
use Rattle.manifest.proofs.RecordBytes.{row_at, Says, row_before, row_last, row-says, record-length, record-bytes}

-- the number of axes below n that are there
abbrev pub count_of : Axes → ℕ → ℕ
count_of axes n = count_below (λ axis. is_there (axes axis)) n

-- what is expected of an axis, if something is
pub record There (o : Option Expected) : Type 0 where
  pub expected : Expected
  pub is : o ≡ some expected

-- the bytes that an axis adds
adds-length : (axis : ℕ) (o : Option Expected) → ((e : Expected) → o ≡ some e → IsSound e) → length (record_if axis o) ≡ 35 * digit (is_there o)
adds-length axis none s = refl
adds-length axis (some e) s = record-length axis e (s e refl)

adds_bytes : (axis : ℕ) (o : Option Expected) → ((e : Expected) → o ≡ some e → IsSound e) → Bytes (record_if axis o)
adds_bytes axis none s = λ i. omega arith
adds_bytes axis (some e) s = record-bytes axis e (s e refl)

module _ (axes : Axes) (sound : (axis : ℕ) (e : Expected) → axes axis ≡ some e → IsSound e) where
  below_length : (n : ℕ) → length (list_below n axes) ≡ 35 * count_of axes n
  below_length zero = refl
  below_length (suc n) =
      length-append (list_below n axes) (record_if n (axes n))
      ∙ omega (arith, below_length n, adds-length n (axes n) (sound n), count-suc (λ axis. is_there (axes axis)) n)

  pub below-bytes : (n : ℕ) → Bytes (list_below n axes)
  below-bytes zero = λ i. omega arith
  below-bytes (suc n) = append-bytes (list_below n axes) (record_if n (axes n)) (below-bytes n) (adds_bytes n (axes n) (sound n))

  -- an axis stands after as many records as there are lower axes
  row_of : (n axis : ℕ) (e : Expected) → axis < n → axes axis ≡ some e → row_at (list_below n axes) (count_of axes axis) ≡ record_of axis e
  row_of zero axis e h is = absurd (not-suc-le-zero h)
  row_of (suc n) axis e h is =
      ⊎_elim
      (λ (q : axis ≡ n).
      let here : axes n ≡ some e = ap axes (sym q) ∙ is in
      let long : length (record_if n (axes n)) ≡ 35 = ap (λ (o : Option Expected). length (record_if n o)) here ∙ record-length n e (sound n e here) in
      subst (λ (a : ℕ). row_at (list_below (suc n) axes) (count_of axes a) ≡ record_of a e) (sym q)
      (row_last (list_below n axes) (record_if n (axes n)) (count_of axes n) (below_length n) long ∙ ap (record_if n) here))
      (λ (l : axis < n).
      let more : count_of axes axis < count_of axes n = count-more (λ a. is_there (axes a)) axis n l (ap is_there is) in
      row_before (list_below n axes) (record_if n (axes n)) (count_of axes axis) (omega (arith, more, below_length n)) ∙ row_of n axis e l is)
      (eq-or-lt_of_le (le_of_suc-le-suc h))

  -- and every record is that of an axis
  record RecordOf (n k : ℕ) : Type 0 where
    axis : ℕ
    below : axis < n
    place : count_of axes axis ≡ k
    there : There (axes axis)

  axis-of : (n k : ℕ) → k < count_of axes n → RecordOf n k
  axis-of zero k h = absurd (omega arith)
  axis-of (suc n) k h =
      ⊎_elim
      (λ (l : k < count_of axes n). let w = axis-of n k l in record { axis = w.axis; below = omega (arith, w.below); place = w.place; there = w.there })
      (λ (l : count_of axes n ≤ k). last l (axes n) refl)
      (lt-or-le k (count_of axes n))
    where
      last : count_of axes n ≤ k → (o : Option Expected) → axes n ≡ o → RecordOf (suc n) k
      last l none q = absurd (omega (arith, count-suc (λ axis. is_there (axes axis)) n, ap (λ (o : Option Expected). digit (is_there o)) q))
      last l (some e) q =
          record { axis = n; below = omega arith; place = omega (arith, count-suc (λ axis. is_there (axes axis)) n, ap (λ (o : Option Expected). digit (is_there o)) q); there = record { expected = e; is = q } }

  -- ---- the records of the axes below n

  module _ (n : ℕ) (small : n ≤ 65536) where
    abbrev manifest : List ℕ
    manifest = list_below n axes

    count-is : record_count (list_below n axes) ≡ count_of axes n
    count-is = omega (arith, below_length n)

    -- what the record of an axis says
    says : (axis : ℕ) (e : Expected) → axis < n → axes axis ≡ some e → Says (list_below n axes) (count_of axes axis) axis e
    says axis e h is =
        let more : count_of axes axis < count_of axes n = count-more (λ a. is_there (axes a)) axis n h (ap is_there is) in
        row-says axis e (sound axis e is) (omega arith) manifest (count_of axes axis) (omega (arith, more, count-is)) (row_of n axis e h is)

    -- and what record k says
    line : (k : ℕ) → k < record_count (list_below n axes) → RecordOf n k
    line k h = axis-of n k (omega (arith, count-is, h))

    line-says : (k : ℕ) (h : k < record_count (list_below n axes)) → Says (list_below n axes) k (line k h).axis (line k h).there.expected
    line-says k h =
        let w = line k h in
        subst (λ (j : ℕ). Says manifest j w.axis w.there.expected) w.place (says w.axis w.there.expected w.below w.there.is)

    -- the numbers rise
    list-rises : Rising (list_below n axes)
    list-rises j k l h =
        let i : j < record_count manifest = omega arith in
        let x = line j i in
        let y = line k h in
        ⊎_elim
        (λ (less : x.axis < y.axis). omega (arith, less, (line-says j i).axis-is, (line-says k h).axis-is))
        (λ (not : y.axis ≤ x.axis). absurd (omega (arith, count-mono (λ a. is_there (axes a)) y.axis x.axis not, x.place, y.place)))
        (lt-or-le x.axis y.axis)

    -- the list passes
    pub list-passes : count_of axes n ≤ 512 → manifest_status (list_below n axes) ≡ Done
    unfolding manifest_status record_checks is_manifest
    list-passes few =
        rw (eq-eqb (length manifest % 35) 0 (omega (arith, below_length n)), le-leb (length manifest) 17920 (omega (arith, below_length n)))
        (each-done (record_count manifest) (record_checks manifest)
        (λ k h. let w = line k h in
        let s = sound w.axis w.there.expected w.there.is in
        passed-all (record_checks manifest k)
        (ap (λ (e : Expected). known e.variant) (line-says k h).expected-is ∙ s.named, ((line-says k h).filled, (rises-each manifest list-rises k h, tt)))))

    -- and holds what the axes below n should hold
    pub list-holds : (axis : ℕ) → axis < n → held (list_below n axes) axis ≡ axes axis
    list-holds axis h = by (axes axis) refl
      where
        by : (o : Option Expected) → axes axis ≡ o → held (list_below n axes) axis ≡ o
        by none q =
            held_none manifest axis
            (none-listed manifest axis (record_count manifest)
            (sym (record-none manifest axis
            (λ k l e. let w = line k l in
            none-ne-some w.there.expected (sym q ∙ ap axes (sym e ∙ (line-says k l).axis-is) ∙ w.there.is))))
            (omega arith))
        by (some e) q =
            let s = says axis e h q in
            let here : count_of axes axis < record_count manifest = omega (arith, count-is, count-more (λ a. is_there (axes a)) axis n h (ap is_there q)) in
            let only : count_of axes axis ≡ record_for manifest axis = record-only manifest axis list-rises (count_of axes axis) here s.axis-is in
            held-there manifest axis (found-listed manifest axis (count_of axes axis) only here)
            ∙ ap (λ (k : ℕ). some (expected_at manifest k)) (sym only)
            ∙ ap some s.expected-is

    -- and nothing of any other
    pub list-none : (axis : ℕ) → n ≤ axis → held (list_below n axes) axis ≡ none
    list-none axis h =
        held_none manifest axis
        (none-listed manifest axis (record_count manifest)
        (sym (record-none manifest axis
        (λ k l e. omega (arith, e, (line-says k l).axis-is, (line k l).below))))
        (omega arith))
