-- The tally of a row of tables, and that one more table makes of it the tally of the longer row.
-- Assumes nothing.
use mathlib.Core.Path.{◌≡◌, refl, sym, ap, ap₂, ◌∙◌}
use mathlib.Core.Bool.{Bool, true, false, cond, not, ◌&&◌}
use mathlib.Core.List.{List, [], ◌∷◌, ◌++◌}
use mathlib.Core.Logic.{⊎_elim}
use mathlib.Core.Option.{Option}
use Prim.Native.Nat.{ℕ, zero, suc, ◌+◌, ◌-◌, ◌≤◌, ◌<◌}
use native.Mathlib.Omega.{arith}
use lib.Dec.{eqb, ltb}
use lib.ListN.{length, get_or, set}
use borrow.Author.Tests.{lt-ltb, ltb-true, ltb-false, eq-eqb, ne_eqb}
use Rattle.standard.specs.Bits.{digit}
use Rattle.standard.specs.Grid.{tab}
use Rattle.standard.proofs.Tab.{get_d-tab, tab-cong}
use Rattle.standard.proofs.Tests.{either}
use Rattle.manifest.specs.declared.tally.Tally.{Tally}
use Rattle.manifest.specs.Lists.{how_many}
use Rattle.manifest.specs.Records.{record_count, axis_at}
use Rattle.manifest.specs.Installations.{Axes, Expected, expected_at, held}
use Rattle.manifest.specs.Tables.{Table}
use Rattle.manifest.specs.Counts.{Verdict, equal, unequal, unlisted, is_expected, verdict_by, verdict_of, same_verdict, judged, is_told}
use Rattle.manifest.specs.Lookups.{record_for, is_listed}
use Rattle.manifest.specs.Progress.{tallied, with_listed, with_unlisted, awaited_all, fresh_report}
use Rattle.manifest.proofs.Counting.{and_yes, and_no, count_below, count-below, count-snoc, count_same, count-without}
use Rattle.manifest.proofs.Sums.{each-counts-once}
use Rattle.manifest.proofs.OrderLaws.{Rising, record_is}
use Rattle.manifest.proofs.AxisLaws.{held-there, held_none}

-- no table of record k's axis has come
abbrev pub awaits : List ℕ → List Table → ℕ → Bool
awaits manifest ts k = not (is_told ts (axis_at manifest k))

-- the same as the report keeps it
abbrev pub awaited_by : List ℕ → (ℕ → Bool) → List ℕ
awaited_by manifest p = tab 512 (λ k. digit (ltb k (record_count manifest) && p k))

-- the tally of a row of tables
unfoldable pub tally_of : List ℕ → List Table → Tally
tally_of manifest ts =
    record {
      listed = record_count manifest;
      untold = count_below (awaits manifest ts) (record_count manifest);
      equal = judged equal (held manifest) ts;
      unequal = judged unequal (held manifest) ts;
      unlisted = judged unlisted (held manifest) ts;
      awaited = awaited_by manifest (awaits manifest ts);
    }

-- it tells as many tables as there are
pub tallied-all : (manifest : List ℕ) (ts : List Table) → tallied (tally_of manifest ts) ≡ length ts
unfolding tally_of
tallied-all manifest ts = each-counts-once (held manifest) ts

-- its parts, for one manifest
abbrev parts : List ℕ → ℕ → ℕ → ℕ → ℕ → List ℕ → Tally
parts manifest u e n x a = record { listed = record_count manifest; untold = u; equal = e; unequal = n; unlisted = x; awaited = a }

-- equal parts, equal tallies
parts_same : (manifest : List ℕ) {u u' e e' n n' x x' : ℕ} {a a' : List ℕ} → u ≡ u' → e ≡ e' → n ≡ n' → x ≡ x' → a ≡ a'
    → parts manifest u e n x a ≡ parts manifest u' e' n' x' a'
parts_same manifest pu pe pn px pa = rw (pu, pe, pn, px, pa)

-- ---- what is awaited

-- what agrees on a record is kept alike
kept-alike : (manifest : List ℕ) (p q : ℕ → Bool) (k : ℕ) → (k < record_count manifest → p k ≡ q k)
    → digit (ltb k (record_count manifest) && p k) ≡ digit (ltb k (record_count manifest) && q k)
kept-alike manifest p q k h =
    ⊎_elim
    (λ e. ap (λ (b : Bool). digit (ltb k (record_count manifest) && b)) (h (ltb-true k (record_count manifest) e)))
    (λ e. rw e)
    (either (ltb k (record_count manifest)))

-- none of these and perhaps one
told_more : (n : ℕ) (b : Bool) → not (ltb 0 (n + digit b)) ≡ (not (ltb 0 n) && not b)
told_more n true = rw (lt-ltb 0 (n + 1) (omega arith), and_no)
told_more n false = let e : n + 0 ≡ n = omega arith in rw (e, and_yes)

-- an axis has no table: none so far, and not the one more
told-snoc : (ts : List Table) (t : Table) (a : ℕ) → not (is_told (ts ++ t ∷ []) a) ≡ (not (is_told ts a) && not (eqb t.axis a))
unfolding is_told
told-snoc ts t a =
    ap (λ (n : ℕ). not (ltb 0 n)) (count-snoc (λ (u : Table). eqb u.axis a) ts t)
    ∙ told_more (how_many (λ (u : Table). eqb u.axis a) ts) (eqb t.axis a)

-- one place of a row set
set-tab : {A : Type 0} (n : ℕ) (f g : ℕ → A) (i : ℕ) (a : A) → g i ≡ a → ((k : ℕ) → (k ≡ i → ⊥) → g k ≡ f k) → set (tab n f) i a ≡ tab n g
set-tab zero f g i a e h = refl
set-tab (suc n) f g zero a e h = ap₂ ◌∷◌ (sym e) (tab-cong n (λ k. f (suc k)) (λ k. g (suc k)) (λ k l. sym (h (suc k) (λ q. omega arith))))
set-tab (suc n) f g (suc i) a e h = ap₂ ◌∷◌ (sym (h 0 (λ q. omega arith))) (set-tab n (λ k. f (suc k)) (λ k. g (suc k)) i a e (λ k m. h (suc k) (λ q. m (omega arith))))

-- ---- verdicts

-- one table more, which has verdict w
judged-more : (v : Verdict) (axes : Axes) (ts : List Table) (t : Table) (w : Verdict) {b : Bool} → verdict_of axes t ≡ w → same_verdict v w ≡ b
    → judged v axes (ts ++ t ∷ []) ≡ judged v axes ts + digit b
unfolding judged
judged-more v axes ts t w e s =
    count-snoc (λ u. same_verdict v (verdict_of axes u)) ts t
    ∙ ap (λ (c : Bool). how_many (λ u. same_verdict v (verdict_of axes u)) ts + digit c) (ap (same_verdict v) e ∙ s)

-- expected or not
is-equal : (b : Bool) → same_verdict equal (cond b equal unequal) ≡ b
is-equal true = refl
is-equal false = refl

is-unequal : (b : Bool) → same_verdict unequal (cond b equal unequal) ≡ not b
is-unequal true = refl
is-unequal false = refl

not-unlisted : (b : Bool) → same_verdict unlisted (cond b equal unequal) ≡ false
not-unlisted true = refl
not-unlisted false = refl

-- ---- a table more

module _ (manifest : List ℕ) (rising : Rising manifest) (ts : List Table) (t : Table) where
  -- the record of its axis
  abbrev k : ℕ
  k = record_for manifest t.axis

  -- a record awaits a table: as before, and it is not the one for this axis
  awaits-snoc : (i : ℕ) → i < record_count manifest → awaits manifest (ts ++ t ∷ []) i ≡ (awaits manifest ts i && not (eqb i (record_for manifest t.axis)))
  awaits-snoc i h =
      told-snoc ts t (axis_at manifest i) ∙ ap (λ (b : Bool). awaits manifest ts i && not b) (record_is manifest t.axis rising i h)

  -- every other record awaits as before
  awaits-other : (i : ℕ) → i < record_count manifest → (i ≡ record_for manifest t.axis → ⊥) → awaits manifest (ts ++ t ∷ []) i ≡ awaits manifest ts i
  awaits-other i h n = awaits-snoc i h ∙ rw (ne_eqb i k n, and_yes)

  -- ---- of no listed axis

  module _ (not_listed : is_listed manifest t.axis ≡ false) where
    -- every record awaits as before
    as_before : (i : ℕ) → i < record_count manifest → awaits manifest (ts ++ t ∷ []) i ≡ awaits manifest ts i
    unfolding is_listed
    as_before i h = awaits-other i h (λ e. omega (arith, ltb-false k (record_count manifest) not_listed))

    on-no-axis : verdict_of (held manifest) t ≡ unlisted
    unfolding verdict_of
    on-no-axis = ap (λ (o : Option Expected). verdict_by o t.contents) (held_none manifest t.axis not_listed)

    -- The tally of the tables and this one: one more unlisted.
    pub unlisted-told : with_unlisted (tally_of manifest ts) ≡ tally_of manifest (ts ++ t ∷ [])
    unfolding tally_of with_unlisted
    unlisted-told =
        sym
        (parts_same manifest
        (count_same (awaits manifest (ts ++ t ∷ [])) (awaits manifest ts) (record_count manifest) as_before)
        (judged-more equal (held manifest) ts t unlisted on-no-axis refl ∙ omega arith)
        (judged-more unequal (held manifest) ts t unlisted on-no-axis refl ∙ omega arith)
        (judged-more unlisted (held manifest) ts t unlisted on-no-axis refl)
        (tab-cong 512 _ _ (λ i _. kept-alike manifest (awaits manifest (ts ++ t ∷ [])) (awaits manifest ts) i (as_before i))))

  -- ---- of a listed axis

  module _ (is : is_listed manifest t.axis ≡ true) (few : record_count manifest ≤ 512) where
    here : record_for manifest t.axis < record_count manifest
    unfolding is_listed
    here = ltb-true k (record_count manifest) is

    -- its record awaits no more
    awaits-no-more : awaits manifest (ts ++ t ∷ []) (record_for manifest t.axis) ≡ false
    awaits-no-more = awaits-snoc k here ∙ rw (eq-eqb k k refl, and_no)

    -- the untold axes are one less if it was awaited
    one_less : count_below (awaits manifest ts) (record_count manifest) - get_or (awaited_by manifest (awaits manifest ts)) (record_for manifest t.axis) 0 ≡ count_below (awaits manifest (ts ++ t ∷ [])) (record_count manifest)
    one_less =
        let told = get_d-tab 512 (λ i. digit (ltb i (record_count manifest) && awaits manifest ts i)) k 0 (omega (arith, here)) in
        let fewer = count_same (awaits manifest (ts ++ t ∷ [])) (λ i. awaits manifest ts i && not (eqb i k)) (record_count manifest) awaits-snoc in
        omega (arith, told, fewer, count-without (awaits manifest ts) k (record_count manifest))

    -- and it is taken out of what is awaited
    struck : set (awaited_by manifest (awaits manifest ts)) (record_for manifest t.axis) 0 ≡ awaited_by manifest (awaits manifest (ts ++ t ∷ []))
    struck =
        let gone : digit (ltb k (record_count manifest) && awaits manifest (ts ++ t ∷ []) k) ≡ 0 = rw (awaits-no-more, and_no) in
        set-tab 512 _ _ k 0 gone (λ i n. kept-alike manifest (awaits manifest (ts ++ t ∷ [])) (awaits manifest ts) i (λ h. awaits-other i h n))

    -- whether it is what its record expects
    abbrev agrees : Bool
    agrees = is_expected (expected_at manifest (record_for manifest t.axis)) t.contents

    on-its-axis : verdict_of (held manifest) t ≡ cond agrees equal unequal
    unfolding verdict_of
    on-its-axis = ap (λ (o : Option Expected). verdict_by o t.contents) (held-there manifest t.axis is)

    -- The tally of the tables and this one: one more equal or unequal.
    pub listed-told : with_listed (tally_of manifest ts) (record_for manifest t.axis) (is_expected (expected_at manifest (record_for manifest t.axis)) t.contents)
        ≡ tally_of manifest (ts ++ t ∷ [])
    unfolding tally_of with_listed
    listed-told =
        parts_same manifest
        one_less
        (sym (judged-more equal (held manifest) ts t (cond agrees equal unequal) on-its-axis (is-equal agrees)))
        (sym (judged-more unequal (held manifest) ts t (cond agrees equal unequal) on-its-axis (is-unequal agrees)))
        (sym (judged-more unlisted (held manifest) ts t (cond agrees equal unequal) on-its-axis (not-unlisted agrees) ∙ omega arith))
        struck

-- no table yet
pub none_told : (manifest : List ℕ) → (fresh_report manifest).tally ≡ tally_of manifest []
unfolding tally_of fresh_report awaited_all is_told judged
none_told manifest =
    parts_same manifest
    (sym (count-below (record_count manifest)))
    refl refl refl
    (tab-cong 512 _ _ (λ k _. ap digit (sym (and_yes (ltb k (record_count manifest))))))
