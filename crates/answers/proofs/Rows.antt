-- Rows of checks. Three laws serve every operation: a check that fails after checks that pass refuses; a row that
-- passes is Done; and a row that is Done has passed.
-- Assumes nothing.
use mathlib.Core.Path.{◌≡◌, refl, sym, ◌∙◌}
use mathlib.Core.Bool.{Bool, true, false, cond}
use mathlib.Core.List.{List, [], ◌∷◌, ◌++◌}
use mathlib.Core.Logic.{⊎_elim}
use Prim.Native.Nat.{ℕ, zero, suc, ◌<◌, suc-le-suc}
use native.Mathlib.Nat.{not-suc-le-zero, le_of_suc-le-suc, zero-lt-suc}
use Rattle.answers.specs.declared.Refusal.{Refusal}
use Rattle.answers.specs.Refusals.{Status, Done, Refused}
use Rattle.answers.specs.Checks.{Check, first_refusal, each}
use Rattle.answers.specs.Outputs.{when_done}
use Rattle.answers.specs.Promises.{RefusedHere, PassedAll, PassingSays}
use Rattle.answers.proofs.Statuses.{not_done, done-or, kept, both-done}

-- ---- a row

pub passed-all : PassedAll
passed-all [] p = refl
passed-all (c ∷ cs) p = rw p.0 (passed-all cs p.1)

pub refused-here : RefusedHere
refused-here [] c after p e = rw e
refused-here (b ∷ bs) c after p e = rw p.0 (refused-here bs c after p.1 e)

passed : (t : Bool) (r : Refusal) (s : Status) → cond t s (Refused r) ≡ Done → (t ≡ true) × (s ≡ Done)
passed true r s e = (refl, e)
passed false r s e = absurd (not_done r e)

pub passing-says : PassingSays
passing-says [] e = tt
passing-says (c ∷ cs) e =
    let p = passed c.passes c.refusal (first_refusal cs) e in
    (p.0, passing-says cs p.1)

-- What holds of each way through a row holds of its answer.
abbrev pub Ways : (Status → Type 0) → List Check → Type 0
Ways P [] = P Done
Ways P (c ∷ cs) = (c.passes ≡ false → P (Refused c.refusal)) × (c.passes ≡ true → Ways P cs)

either_way : (P : Status → Type 0) (t : Bool) (s : Status) (r : Refusal) → (t ≡ false → P (Refused r)) → (t ≡ true → P s) → P (cond t s (Refused r))
either_way P true s r f g = g refl
either_way P false s r f g = f refl

pub by-ways : (P : Status → Type 0) (row : List Check) → Ways P row → P (first_refusal row)
by-ways P [] w = w
by-ways P (c ∷ cs) w = either_way P c.passes (first_refusal cs) c.refusal w.0 (λ e. by-ways P cs (w.1 e))

-- ---- rows after one another

put-after : (t : Bool) (r : Refusal) (x y z : Status) → z ≡ when_done x y x
    → cond t z (Refused r) ≡ when_done (cond t x (Refused r)) y (cond t x (Refused r))
put-after true r x y z e = e
put-after false r x y z e = refl

-- the second row counts if the first is Done
pub row-append : (xs ys : List Check) → first_refusal (xs ++ ys) ≡ when_done (first_refusal xs) (first_refusal ys) (first_refusal xs)
row-append [] ys = refl
row-append (c ∷ cs) ys = put-after c.passes c.refusal (first_refusal cs) (first_refusal ys) (first_refusal (cs ++ ys)) (row-append cs ys)

pub row_first : (xs ys : List Check) → (first_refusal xs ≡ Done → ⊥) → first_refusal (xs ++ ys) ≡ first_refusal xs
row_first xs ys n = row-append xs ys ∙ kept (first_refusal xs) (first_refusal ys) (first_refusal xs) n

-- what the first row refuses, both refuse
pub refused-first : (xs ys : List Check) (s : Status) (r : Refusal) → s ≡ first_refusal xs → s ≡ Refused r → s ≡ first_refusal (xs ++ ys)
refused-first xs ys s r e d = e ∙ sym (row_first xs ys (λ f. not_done r (sym d ∙ e ∙ f)))

pub row-second : (xs ys : List Check) → first_refusal xs ≡ Done → first_refusal (xs ++ ys) ≡ first_refusal ys
row-second xs ys e = rw (row-append, e)

pub row-both : (xs ys : List Check) → first_refusal (xs ++ ys) ≡ Done → (first_refusal xs ≡ Done) × (first_refusal ys ≡ Done)
row-both xs ys e = both-done (first_refusal xs) (first_refusal ys) (sym (row-append xs ys) ∙ e)

-- ---- the checks of n things

-- if every one's are Done, so are all
pub each-done : (n : ℕ) (f : ℕ → List Check) → ((k : ℕ) → k < n → first_refusal (f k) ≡ Done) → first_refusal (each n f) ≡ Done
each-done zero f h = refl
each-done (suc n) f h =
    row-second (f 0) (each n (λ k. f (suc k))) (h 0 (zero-lt-suc n)) ∙ each-done n (λ k. f (suc k)) (λ k l. h (suc k) (suc-le-suc l))

-- and if all are Done, so are every one's
pub done-each : (n : ℕ) (f : ℕ → List Check) → first_refusal (each n f) ≡ Done → (k : ℕ) → k < n → first_refusal (f k) ≡ Done
done-each zero f e k h = absurd (not-suc-le-zero h)
done-each (suc n) f e zero h = (row-both (f 0) (each n (λ k. f (suc k))) e).0
done-each (suc n) f e (suc k) h =
    done-each n (λ k. f (suc k)) (row-both (f 0) (each n (λ k. f (suc k))) e).1 k (le_of_suc-le-suc h)

-- the answer is the refusal that has only Done before it
pub each_first : (n : ℕ) (f : ℕ → List Check) (k : ℕ) → k < n → ((j : ℕ) → j < k → first_refusal (f j) ≡ Done) → (first_refusal (f k) ≡ Done → ⊥)
    → first_refusal (each n f) ≡ first_refusal (f k)
each_first zero f k h d r = absurd (not-suc-le-zero h)
each_first (suc n) f zero h d r = row_first (f 0) (each n (λ k. f (suc k))) r
each_first (suc n) f (suc k) h d r =
    row-second (f 0) (each n (λ k. f (suc k))) (d 0 (zero-lt-suc k))
    ∙ each_first n (λ j. f (suc j)) k (le_of_suc-le-suc h) (λ j l. d (suc j) (suc-le-suc l)) r

-- a refusal is that of one of the things, and those before it are Done
pub record First (n : ℕ) (f : ℕ → List Check) : Type 0 where
  pub place : ℕ
  pub there : place < n
  pub same : first_refusal (f place) ≡ first_refusal (each n f)
  pub earlier : (j : ℕ) → j < place → first_refusal (f j) ≡ Done

first-here : (n : ℕ) (f : ℕ → List Check) → (first_refusal (f 0) ≡ Done → ⊥) → First (suc n) f
first-here n f d =
    record {
      place = 0;
      there = zero-lt-suc n;
      same = sym (row_first (f 0) (each n (λ k. f (suc k))) d);
      earlier = λ j l. absurd (not-suc-le-zero l);
    }

first-later : (n : ℕ) (f : ℕ → List Check) → first_refusal (f 0) ≡ Done → First n (λ k. f (suc k)) → First (suc n) f
first-later n f d w =
    record {
      place = suc w.place;
      there = suc-le-suc w.there;
      same = w.same ∙ sym (row-second (f 0) (each n (λ k. f (suc k))) d);
      earlier = before;
    }
  where
    before : (j : ℕ) → j < suc w.place → first_refusal (f j) ≡ Done
    before zero l = d
    before (suc j) l = w.earlier j (le_of_suc-le-suc l)

pub first_of : (n : ℕ) (f : ℕ → List Check) → (first_refusal (each n f) ≡ Done → ⊥) → First n f
first_of zero f r = absurd (r refl)
first_of (suc n) f r =
    ⊎_elim
    (λ d. first-later n f d (first_of n (λ k. f (suc k)) (λ e. r (row-second (f 0) (each n (λ k. f (suc k))) d ∙ e))))
    (first-here n f)
    (done-or (first_refusal (f 0)))
