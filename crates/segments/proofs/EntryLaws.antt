-- What each way through the checks of an entry comes to, and what it says of the entry.
-- Assumes nothing.
use mathlib.Core.Path.{◌≡◌, refl, ap}
use mathlib.Core.Bool.{true}
use mathlib.Core.List.{List}
use Prim.Native.Nat.{ℕ, zero, suc, ◌-◌, ◌%◌, ◌≤◌, ◌<◌}
use native.Mathlib.Omega.{arith}
use lib.Dec.{eqb, leb}
use lib.ListN.{length, take, drop}
use borrow.Author.Tests.{eqb-true, ltb-true, ltb-false, leb-true, not-true, lt-ltb}
use Rattle.answers.specs.Refusals.{Status, Done}
use Rattle.answers.specs.Checks.{first_refusal}
use Rattle.answers.proofs.Rows.{passed-all, passing-says}
use Rattle.standard.proofs.Tests.{and-true}
use Rattle.segments.specs.Entries.{offset_of, length_of, end_of, former_end, is_list, count, segment_in, step_checks, entry_checks, segment_checks, segment_status, segment_of, segment_at, further}
use Rattle.segments.specs.Steps.{step_status, found_at}
use Rattle.segments.specs.Promises.{EntryGiven}

-- behind entry 0, the former end is that of the entry before
pub former-behind : (list : List ℕ) (k : ℕ) → (k ≡ 0 → ⊥) → former_end list k ≡ end_of list (k - 1)
unfolding former_end
former-behind list zero n = absurd (n refl)
former-behind list (suc k) n = let e : k ≡ suc k - 1 = omega arith in ap (end_of list) e

pub list-short : (list : List ℕ) → is_list list ≡ true → length list ≤ 4096
unfolding is_list
list-short list e = leb-true (length list) 4096 (and-true (eqb (length list % 8) 0) (leb (length list) 4096) e).1

pub list-whole : (list : List ℕ) → is_list list ≡ true → length list % 8 ≡ 0
unfolding is_list
list-whole list e = eqb-true (length list % 8) 0 (and-true (eqb (length list % 8) 0) (leb (length list) 4096) e).0

-- ---- a step

-- what a step that passed says of the list and the entry
pub record There (list : List ℕ) (k : ℕ) : Type 0 where
  pub whole : is_list list ≡ true
  pub inside : k < count list

pub step-there : (list : List ℕ) (k : ℕ) → step_status list k ≡ Done → There list k
step-there list k e =
    let p = passing-says (step_checks list k) e in
    record { whole = p.0; inside = ltb-true _ _ p.1.0 }

pub entry-given : EntryGiven
unfolding found_at
entry-given list k whole there = simp (whole, lt-ltb _ _ there)

-- ---- the check of an entry

module _ (list : List ℕ) (n k : ℕ) where
  -- an entry that is not refused begins where the former ends or later, and ends within the buffer
  pub record Fits : Type 0 where
    pub ordered : former_end list k ≤ offset_of list k
    pub within : end_of list k ≤ n

  pub entry-fits : first_refusal (entry_checks list n k) ≡ Done → Fits
  unfolding entry_checks
  entry-fits e =
      let p = passing-says (entry_checks list n k) e in
      record { ordered = ltb-false _ _ (not-true _ p.0); within = ltb-false _ _ (not-true _ p.1.0) }

  -- the check of an entry that is there
  pub segment-entry : is_list list ≡ true → k < count list → segment_status list n k ≡ first_refusal (entry_checks list n k)
  unfolding segment_checks
  segment-entry e h = rw (e, lt-ltb k (count list) h)

  -- what a check that passed says of the list and the entry
  pub record Checked : Type 0 where
    pub whole : is_list list ≡ true
    pub there : k < count list
    pub entry : first_refusal (entry_checks list n k) ≡ Done

  pub segment-checked : segment_status list n k ≡ Done → Checked
  unfolding segment_checks
  segment-checked e =
      let p = passing-says (segment_checks list n k) e in
      record { whole = p.0; there = ltb-true _ _ p.1.0; entry = passed-all (entry_checks list n k) p.1.1 }

-- ---- the segment of an entry

module _ (list buffer : List ℕ) (k : ℕ) (place : ℕ × ℕ) where
  abbrev status : Status
  status = segment_status list (length buffer) k

  -- a slice's bytes and place are those of the segment
  abbrev pub Segment : List ℕ → ℕ × ℕ → Type 0
  Segment bytes p = (bytes ≡ segment_of list buffer k) × (p ≡ further (segment_at list (length buffer) k) place)

  pub segment-taken : status ≡ Done → (a e : ℕ) → a ≡ offset_of list k → e ≡ end_of list k → Segment (take (e - a) (drop a buffer)) (further a place)
  unfolding segment_of segment_at segment_in
  segment-taken d a e ea ee =
      let l : e - a ≡ length_of list k = omega arith in
      (rw (d, l, ea), rw (d, ea))
