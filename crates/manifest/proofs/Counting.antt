-- Counting the things of a list that have a property: one more, two lists, several properties, and the numbers below n
-- without one of them.
-- Assumes nothing.
use mathlib.Core.Path.{◌≡◌, refl, sym, ap, ap₂, ◌∙◌}
use mathlib.Core.Bool.{Bool, true, false, cond, not, ◌&&◌}
use mathlib.Core.List.{List, [], ◌∷◌, ◌++◌}
use mathlib.Core.Logic.{⊎_elim}
use Prim.Native.Nat.{ℕ, zero, suc, ◌+◌, ◌≤◌, ◌<◌}
use native.Mathlib.Nat.{eq-or-lt_of_le}
use native.Mathlib.Omega.{arith}
use lib.Dec.{eqb, ltb}
use lib.ListN.{length}
use mir.Val.{bool_byte}
use borrow.Author.Tests.{lt-ltb, le-ltb, eq-eqb, ne_eqb}
use Rattle.standard.specs.Bits.{digit}
use Rattle.standard.specs.Grid.{tab}
use Rattle.standard.proofs.Tab.{tab-snoc, length-tab}
use Rattle.standard.proofs.Tests.{lt-or-le}
use Rattle.manifest.specs.Lists.{how_many}

-- ---- conditions

-- what is required besides holds, or does not
pub and_yes : (b : Bool) → (b && true) ≡ b
and_yes true = refl
and_yes false = refl

pub and_no : (b : Bool) → (b && false) ≡ false
and_no true = refl
and_no false = refl

pub and_assoc : (a b c : Bool) → (a && (b && c)) ≡ (a && b && c)
and_assoc true b c = refl
and_assoc false b c = refl

pub digit_split : (a b : Bool) → digit (a && b) + digit (a && not b) ≡ digit a
digit_split true true = refl
digit_split true false = refl
digit_split false b = refl

pub digit-one : (b : Bool) → digit b ≤ 1
digit-one true = omega arith
digit-one false = omega arith

-- what the code adds for a condition
pub byte-digit : (b : Bool) → bool_byte b ≡ digit b
byte-digit true = refl
byte-digit false = refl

-- one more if a condition holds
pub add-digit : (b : Bool) (n : ℕ) → cond b (suc n) n ≡ digit b + n
add-digit true n = omega arith
add-digit false n = omega arith

-- ---- any list

module _ {A : Type 0} where
  -- one thing before the others
  pub count-cons : (p : A → Bool) (x : A) (xs : List A) → how_many p (x ∷ xs) ≡ digit (p x) + how_many p xs
  count-cons p x xs = add-digit (p x) (how_many p xs)

  -- two lists
  pub count-append : (p : A → Bool) (xs ys : List A) → how_many p (xs ++ ys) ≡ how_many p xs + how_many p ys
  count-append p [] ys = omega arith
  count-append p (x ∷ xs) ys = omega (arith, count-cons p x (xs ++ ys), count-cons p x xs, count-append p xs ys)

  -- one thing after the others
  pub count-snoc : (p : A → Bool) (xs : List A) (x : A) → how_many p (xs ++ x ∷ []) ≡ how_many p xs + digit (p x)
  count-snoc p xs x = omega (arith, count-append p xs (x ∷ []), count-cons p x [])

  -- each thing has one of three properties
  pub count-three : (p q r : A → Bool) → ((x : A) → digit (p x) + digit (q x) + digit (r x) ≡ 1) → (xs : List A)
      → how_many p xs + how_many q xs + how_many r xs ≡ length xs
  count-three p q r one [] = refl
  count-three p q r one (x ∷ xs) = omega (arith, count-cons p x xs, count-cons q x xs, count-cons r x xs, one x, count-three p q r one xs)

  -- those with a second property, and those without it
  pub count-split : (p q : A → Bool) (xs : List A) → how_many (λ x. p x && q x) xs + how_many (λ x. p x && not (q x)) xs ≡ how_many p xs
  count-split p q [] = refl
  count-split p q (x ∷ xs) =
      omega (arith, count-cons (λ y. p y && q y) x xs, count-cons (λ y. p y && not (q y)) x xs, count-cons p x xs, digit_split (p x) (q x), count-split p q xs)

  -- no more than without it
  pub count-part : (p q : A → Bool) (xs : List A) → how_many (λ x. p x && not (q x)) xs ≤ how_many p xs
  count-part p q xs = omega (arith, count-split p q xs)

  -- no more than all
  pub count_most : (p : A → Bool) (xs : List A) → how_many p xs ≤ length xs
  count_most p [] = omega arith
  count_most p (x ∷ xs) = omega (arith, count-cons p x xs, digit-one (p x), count_most p xs)

  -- all, if all have the property
  pub count-all : (xs : List A) → how_many (λ x. true) xs ≡ length xs
  count-all [] = refl
  count-all (x ∷ xs) = ap suc (count-all xs)

-- ---- the numbers below n

-- the number of them that have a property
abbrev pub count_below : (ℕ → Bool) → ℕ → ℕ
count_below p n = how_many p (tab n (λ k. k))

-- all of them
pub count-below : (n : ℕ) → count_below (λ k. true) n ≡ n
count-below n = count-all (tab n (λ k. k)) ∙ length-tab n (λ k. k)

-- one number more
pub count-suc : (p : ℕ → Bool) (n : ℕ) → count_below p (suc n) ≡ count_below p n + digit (p n)
count-suc p n = ap (how_many p) (tab-snoc n (λ k. k)) ∙ count-snoc p (tab n (λ k. k)) n

-- below a higher number as many or more, and more if a number between has the property
pub count-mono : (p : ℕ → Bool) (m n : ℕ) → m ≤ n → count_below p m ≤ count_below p n
count-mono p m zero h = let e : m ≡ 0 = omega arith in rw e (omega arith)
count-mono p m (suc n) h =
    ⊎_elim (λ (e : m ≡ suc n). rw e (omega arith)) (λ (l : m < suc n). omega (arith, count-suc p n, count-mono p m n (omega arith))) (eq-or-lt_of_le h)

pub count-more : (p : ℕ → Bool) (m n : ℕ) → m < n → p m ≡ true → count_below p m < count_below p n
count-more p m n h e = omega (arith, count-suc p m, ap digit e, count-mono p (suc m) n h)

-- properties that agree below n
pub count_same : (p q : ℕ → Bool) (n : ℕ) → ((k : ℕ) → k < n → p k ≡ q k) → count_below p n ≡ count_below q n
count_same p q zero h = refl
count_same p q (suc n) h =
    count-suc p n
    ∙ ap₂ ◌+◌ (count_same p q n (λ k l. h k (omega arith))) (ap digit (h n (omega arith)))
    ∙ sym (count-suc q n)

-- the number n of them
without-turn : (p : ℕ → Bool) (j n : ℕ) → digit (p n && not (eqb n j)) + digit (ltb j (suc n) && p j) ≡ digit (p n) + digit (ltb j n && p j)
without-turn p j n =
    ⊎_elim
    (λ l. rw (ne_eqb n j (λ e. omega arith), lt-ltb j (suc n) (omega arith), lt-ltb j n l, and_yes))
    (λ l. rw (le-ltb j n l)
    (⊎_elim
    (λ e. rw (eq-eqb n j e, lt-ltb j (suc n) (omega arith), and_no, e) (omega arith))
    (λ m. rw (ne_eqb n j (λ e. omega arith), le-ltb j (suc n) m, and_yes))
    (eq-or-lt_of_le l)))
    (lt-or-le j n)

-- all but j: one less, if j is below n and has the property
pub count-without : (p : ℕ → Bool) (j n : ℕ) → count_below (λ k. p k && not (eqb k j)) n + digit (ltb j n && p j) ≡ count_below p n
count-without p j zero = rw (le-ltb j 0 (omega arith))
count-without p j (suc n) =
    omega (arith, count-suc (λ k. p k && not (eqb k j)) n, count-suc p n, count-without p j n, without-turn p j n)
