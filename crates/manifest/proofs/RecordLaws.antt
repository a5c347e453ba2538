-- Manifests: how many records they have, and what holds of every number below n or of the least one.
-- Assumes nothing.
use mathlib.Core.Path.{◌≡◌, refl, sym, ap, ap₂, ◌∙◌}
use mathlib.Core.Bool.{Bool, true, false, ◌&&◌}
use mathlib.Core.List.{List}
use mathlib.Core.Logic.{⊎_elim}
use mathlib.Core.Option.{none, some, map}
use Prim.Native.Nat.{ℕ, zero, suc, ◌+◌, ◌*◌, ◌%◌, ◌≤◌, ◌<◌}
use native.Mathlib.Nat.{le_of_suc-le-suc, not-suc-le-zero}
use native.Mathlib.Omega.{arith}
use lib.Dec.{eqb, leb, ltb}
use lib.ListN.{length, drop, length-drop}
use lib.Seq.{length-take-le}
use borrow.Author.Tests.{leb-true, ltb-true, lt-ltb, le-ltb}
use Rattle.std.proofs.Common.{Option, Some, None, IfSome}
use Rattle.std.specs.List.{list_all, range_with_len}
use Rattle.answers.specs.Refusals.{Done}
use Rattle.answers.proofs.Rows.{passing-says}
use Rattle.standard.proofs.Tests.{and-true, either}
use Rattle.manifest.specs.Lists.{first_below}
use Rattle.manifest.specs.Records.{is_manifest, record_count, digest_field_at, manifest_checks, manifest_status}
use Rattle.manifest.specs.Lookups.{every_below, least_below, record_for, is_listed, found_record}

-- a manifest has no more than 512 records
pub manifest-few : (manifest : List ℕ) → is_manifest manifest ≡ true → record_count manifest ≤ 512
unfolding is_manifest
manifest-few manifest e =
    let l : length manifest ≤ 17920 = leb-true (length manifest) 17920 (and-true (eqb (length manifest % 35) 0) (leb (length manifest) 17920) e).1 in omega arith

-- what passes is one
pub passing-manifest : (manifest : List ℕ) → manifest_status manifest ≡ Done → is_manifest manifest ≡ true
unfolding manifest_status
passing-manifest manifest e = (passing-says (manifest_checks manifest) e).0

-- the digest and its filler have 32 bytes
pub filled-length : (manifest : List ℕ) (k : ℕ) → k < record_count manifest → length (digest_field_at manifest k) ≡ 32
filled-length manifest k h = length-take-le 32 (drop (35 * k + 3) manifest) (omega (arith, length-drop (35 * k + 3) manifest))

-- ---- every number below n, and the least one

pub every_below-at : (n : ℕ) (p : ℕ → Bool) → every_below n p ≡ true → (k : ℕ) → k < n → p k ≡ true
every_below-at zero p e k h = absurd (omega arith)
every_below-at (suc n) p e zero h = (and-true (p 0) (every_below n (λ j. p (suc j))) e).0
every_below-at (suc n) p e (suc k) h = every_below-at n (λ j. p (suc j)) (and-true (p 0) (every_below n (λ j. p (suc j))) e).1 k (omega arith)

pub every_below-all : (n : ℕ) (p : ℕ → Bool) → ((k : ℕ) → k < n → p k ≡ true) → every_below n p ≡ true
every_below-all zero p h = refl
every_below-all (suc n) p h = rw (h 0 (omega arith)) (every_below-all n (λ j. p (suc j)) (λ k l. h (suc k) (omega arith)))

-- the same of the numbers from a on as a list, which is how the code goes through them
every_from : (n a : ℕ) (p q : ℕ → Bool) → ((k : ℕ) → p (a + k) ≡ q k) → list_all p (range_with_len a n) ≡ every_below n q
every_from zero a p q h = refl
every_from (suc n) a p q h =
    let here : a ≡ a + 0 = omega arith in
    let later : (k : ℕ) → a + 1 + k ≡ a + suc k = λ k. omega arith in
    ap₂ ◌&&◌ (ap p here ∙ h 0) (every_from n (a + 1) p (λ k. q (suc k)) (λ k. ap p (later k) ∙ h (suc k)))

pub every-listed : (n : ℕ) (p : ℕ → Bool) → list_all p (range_with_len 0 n) ≡ every_below n p
every-listed n p = let same : (k : ℕ) → 0 + k ≡ k = λ k. omega arith in every_from n 0 p p (λ k. ap p (same k))

-- the test holds of k and of none before it
pub least_at : (n : ℕ) (p : ℕ → Bool) (k : ℕ) → k < n → ((j : ℕ) → j < k → p j ≡ false) → p k ≡ true → least_below n p ≡ k
least_at zero p k h not e = absurd (omega arith)
least_at (suc n) p zero h not e = rw e
least_at (suc n) p (suc k) h not e =
    rw (not 0 (omega arith)) (ap suc (least_at n (λ (j : ℕ). p (suc j)) k (omega arith) (λ j l. not (suc j) (omega arith)) e))

-- it holds of none
pub least-none : (n : ℕ) (p : ℕ → Bool) → ((j : ℕ) → j < n → p j ≡ false) → least_below n p ≡ n
least-none zero p not = refl
least-none (suc n) p not = rw (not 0 (omega arith)) (ap suc (least-none n (λ (j : ℕ). p (suc j)) (λ j l. not (suc j) (omega arith))))

-- it holds of that one
pub least-holds : (n : ℕ) (p : ℕ → Bool) → least_below n p < n → p (least_below n p) ≡ true
least-holds zero p h = absurd (not-suc-le-zero h)
least-holds (suc n) p h =
    ⊎_elim (λ e. rw e e) (λ e. rw e (least-holds n (λ k. p (suc k)) (le_of_suc-le-suc (rw e at h)))) (either (p 0))

-- and none that has it comes before
pub least_first : (n : ℕ) (p : ℕ → Bool) (k : ℕ) → k < n → p k ≡ true → least_below n p ≤ k
least_first zero p k h e = absurd (not-suc-le-zero h)
least_first (suc n) p zero h e = rw e (omega arith)
least_first (suc n) p (suc k) h e =
    ⊎_elim
    (λ (t : p 0 ≡ true). rw t (omega arith))
    (λ (t : p 0 ≡ false). rw t (omega (arith, least_first n (λ j. p (suc j)) k (le_of_suc-le-suc h) e)))
    (either (p 0))

-- the first number that has a property is the least one, if one has it
pub first_found : (n : ℕ) (p : ℕ → Bool) → least_below n p < n → first_below n p ≡ some (least_below n p)
first_found zero p h = absurd (not-suc-le-zero h)
first_found (suc n) p h =
    ⊎_elim
    (λ (e : p 0 ≡ true). rw e)
    (λ (e : p 0 ≡ false). rw e (ap (map suc) (first_found n (λ k. p (suc k)) (le_of_suc-le-suc (rw e at h)))))
    (either (p 0))

pub first-none : (n : ℕ) (p : ℕ → Bool) → n ≤ least_below n p → first_below n p ≡ none
first-none zero p h = refl
first-none (suc n) p h =
    ⊎_elim
    (λ (e : p 0 ≡ true). absurd (not-suc-le-zero (rw e at h)))
    (λ (e : p 0 ≡ false). rw e (ap (map suc) (first-none n (λ k. p (suc k)) (le_of_suc-le-suc (rw e at h)))))
    (either (p 0))

-- whether there is one, as the code finds it
module _ (manifest : List ℕ) (axis : ℕ) where
  pub found-listed : (k : ℕ) → k ≡ record_for manifest axis → k < record_count manifest → is_listed manifest axis ≡ true
  unfolding is_listed
  found-listed k e h = rw (← e, lt-ltb k (record_count manifest) h)

  pub none-listed : (k : ℕ) → k ≡ record_for manifest axis → record_count manifest ≤ k → is_listed manifest axis ≡ false
  unfolding is_listed
  none-listed k e h = rw (← e, le-ltb k (record_count manifest) h)

  pub found-some : (k : ℕ) → found_record manifest axis ≡ Some k → (is_listed manifest axis ≡ true) × (k ≡ record_for manifest axis) × (k < record_count manifest)
  unfolding found_record is_listed
  found-some k e =
      ⊎_elim
      (λ (l : ltb (record_for manifest axis) (record_count manifest) ≡ true).
      let is : k ≡ record_for manifest axis = cc (rw l at e) in
      (l, is, omega (arith, is, ltb-true (record_for manifest axis) (record_count manifest) l)))
      (λ (l : ltb (record_for manifest axis) (record_count manifest) ≡ false). cc (rw l at e))
      (either (ltb (record_for manifest axis) (record_count manifest)))

  pub found-none : found_record manifest axis ≡ None → is_listed manifest axis ≡ false
  unfolding found_record
  found-none e = ⊎_elim (λ (l : is_listed manifest axis ≡ true). cc (rw l at e)) (λ l. l) (either (is_listed manifest axis))

-- and there are no more than 512
pub found-few : (manifest : List ℕ) (axis : ℕ) (r : Option ℕ) → r ≡ found_record manifest axis → record_count manifest ≤ 512 → IfSome r (λ k. k < 512)
found-few manifest axis None e few = tt
found-few manifest axis (Some k) e few = omega (arith, (found-some manifest axis k (sym e)).2)
