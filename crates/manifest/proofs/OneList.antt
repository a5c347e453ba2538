-- One list for one installation (document 02, Q-5). A list of bytes passes exactly when it is the list of the
-- installation that it holds; every installation has one; and two lists that pass and hold the same are the same bytes.
-- Assumes nothing.
use mathlib.Core.Path.{◌≡◌, refl, sym, ap, ap₂, subst, fun_ext, ◌∙◌}
use mathlib.Core.Bool.{true, false}
use mathlib.Core.List.{List, ◌++◌, append-nil}
use mathlib.Core.Logic.{⊎_elim}
use mathlib.Core.Option.{Option, some, none-ne-some, some-injective}
use Prim.Native.Nat.{ℕ, zero, suc, ◌+◌, ◌*◌, ◌%◌, ◌≤◌, ◌<◌}
use native.Mathlib.Nat.{not-suc-le-zero}
use native.Mathlib.Omega.{arith}
use lib.Dec.{eqb, leb}
use lib.ListN.{length, take}
use lib.Seq.{take-add, take_all}
use borrow.Author.Tests.{eqb-true}
use Rattle.answers.specs.Refusals.{Done}
use Rattle.octets.specs.Numbers.{Bytes}
use Rattle.standard.proofs.Tests.{and-true, either, lt-or-le}
use Rattle.manifest.specs.Records.{is_manifest, record_count, axis_at, manifest_status}
use Rattle.manifest.specs.Installations.{Expected, axis_numbers, all_axes, axis_count, IsSound, IsInstallation, record_of, record_if, list_below, list_of, expected_at, held}
use Rattle.manifest.specs.Lookups.{record_for, is_listed}
use Rattle.manifest.specs.Promises.{PassesExactly, OneList, OnlyList, ListOfBytes, ListOfPasses, ListOfHolds, HeldRecord, HeldNothing}
use Rattle.manifest.proofs.RecordLaws.{manifest-few, passing-manifest, none-listed}
use Rattle.manifest.proofs.OrderLaws.{Place, Rising, passed-record, passing-rises, record-none, record-only, record-listed, listed-record}
use Rattle.manifest.proofs.AxisLaws.{held-there, held_none, place-next, place-own, place_same, place-last, listed-records}
use Rattle.manifest.proofs.RecordBytes.{row_at, axis-below, row_written, row-sound}
use Rattle.manifest.proofs.ListWritten.{below-bytes, list-passes, list-holds, list-none}

-- ---- a list that passes, written again

-- What is held is what the records say: in a list that passes, of the axis of each; and of no other axis.
pub held-record : HeldRecord
held-record manifest passes k h =
    held-there manifest (axis_at manifest k) (record-listed manifest k h)
    ∙ ap (λ (j : ℕ). some (expected_at manifest j)) (sym (record-only manifest (axis_at manifest k) (passing-rises manifest passes) k h refl))

pub held-nothing : HeldNothing
held-nothing manifest axis absent = held_none manifest axis (none-listed manifest axis (record_count manifest) (sym (record-none manifest axis absent)) (omega arith))

module _ (manifest : List ℕ) (hb : Bytes manifest) (passes : manifest_status manifest ≡ Done) where
  rising : Rising manifest
  rising = passing-rises manifest passes

  -- the record of a listed axis, written again
  row-again : (axis : ℕ) → is_listed manifest axis ≡ true → record_if axis (held manifest axis) ≡ row_at manifest (record_for manifest axis)
  row-again axis e =
      let r = listed-record manifest axis e in
      let k : ℕ = record_for manifest axis in
      let p = passed-record manifest passes k r.0 in
      ap (record_if axis) (held-there manifest axis e)
      ∙ ap (λ (a : ℕ). record_of a (expected_at manifest k)) (sym r.1)
      ∙ sym (row_written manifest k r.0 hb p.named p.filled)

  -- The axes below a number, written again, are the records before its place.
  below-place : (axis k : ℕ) → Place manifest axis k → list_below axis (held manifest) ≡ take (35 * k) manifest
  below-place zero zero p = refl
  below-place zero (suc k) p = absurd (not-suc-le-zero (p.lower 0 (omega arith)))
  below-place (suc axis) k p =
      ⊎_elim
      (λ (e : is_listed manifest axis ≡ true).
      let r : ℕ = record_for manifest axis in
      let next : k ≡ r + 1 = place-next manifest rising axis k p e in
      let more : 35 * k ≡ 35 * r + 35 = omega arith in
      ap₂ (λ (x y : List ℕ). x ++ y) (below-place axis r (place-own manifest rising axis e)) (row-again axis e)
      ∙ sym (take-add (35 * r) 35 manifest)
      ∙ ap (λ (n : ℕ). take n manifest) (sym more))
      (λ (e : is_listed manifest axis ≡ false).
      ap (λ (o : Option Expected). list_below axis (held manifest) ++ record_if axis o) (held_none manifest axis e)
      ∙ append-nil (list_below axis (held manifest))
      ∙ below-place axis k (place_same manifest rising axis k p e))
      (either (is_listed manifest axis))

  -- so all of it is all of them
  written-again : list_of (held manifest) ≡ manifest
  unfolding list_of is_manifest
  written-again =
      let whole = eqb-true (length manifest % 35) 0 (and-true (eqb (length manifest % 35) 0) (leb (length manifest) 17920) (passing-manifest manifest passes)).0 in
      below-place axis_numbers (record_count manifest) (place-last manifest rising hb) ∙ take_all (35 * record_count manifest) manifest (omega (arith, whole))

  -- what it holds is an installation
  holds-one : IsInstallation (held manifest)
  holds-one =
      record {
        numbered = λ axis h. ⊎_elim
            (λ (e : is_listed manifest axis ≡ true). let r = listed-record manifest axis e in absurd (omega (arith, axis-below manifest (record_for manifest axis) r.0 hb, r.1)))
            (held_none manifest axis)
            (either (is_listed manifest axis));
        few = subst (λ (n : ℕ). n ≤ 512) (sym (listed-records manifest rising hb)) (manifest-few manifest (passing-manifest manifest passes));
        sound = λ axis e q. ⊎_elim
            (λ (t : is_listed manifest axis ≡ true).
            let r = listed-record manifest axis t in
            let k : ℕ = record_for manifest axis in
            subst IsSound (some-injective (expected_at manifest k) e (sym (held-there manifest axis t) ∙ q)) (row-sound manifest k r.0 hb (passed-record manifest passes k r.0).named))
            (λ (t : is_listed manifest axis ≡ false). absurd (none-ne-some e (sym (held_none manifest axis t) ∙ q)))
            (either (is_listed manifest axis));
      }

  passing-list : IsInstallation (held manifest) × (list_of (held manifest) ≡ manifest)
  passing-list = (holds-one, written-again)

-- ---- the list of an installation

-- Every installation has a list: of bytes, it passes, and it holds the installation.
pub list-of-bytes : ListOfBytes
unfolding list_of
list-of-bytes axes i = below-bytes axes i.sound axis_numbers

pub list-of-passes : ListOfPasses
unfolding list_of axis_count all_axes
list-of-passes axes i = list-passes axes i.sound axis_numbers (omega arith) i.few

pub list-of-holds : ListOfHolds
unfolding list_of
list-of-holds axes i =
    fun_ext
    (λ axis. ⊎_elim
    (λ (h : axis < axis_numbers). list-holds axes i.sound axis_numbers (omega arith) axis h)
    (λ (h : axis_numbers ≤ axis). list-none axes i.sound axis_numbers (omega arith) axis h ∙ sym (i.numbered axis h))
    (lt-or-le axis axis_numbers))

-- ---- one list for one installation

-- A list of bytes passes exactly when it is the list of the installation that it holds.
pub passes-exactly : PassesExactly
passes-exactly manifest hb = (passing-list manifest hb, λ w. subst (λ (l : List ℕ). manifest_status l ≡ Done) w.1 (list-of-passes (held manifest) w.0))

-- A map has one list at most: any that passes and holds it is this one. Two lists that pass and hold the same are then
-- the same bytes.
pub only-list : OnlyList
only-list axes manifest hb passes e = sym (passing-list manifest hb passes).1 ∙ ap list_of e

pub one_list : OneList
one_list x y hx hy px py e = only-list (held y) x hx px e ∙ (passing-list y hy py).1
