-- A rule of every number below n, by one test that is computed at each; and what holds of each variant's number.
-- Assumes nothing.
use mathlib.Core.Path.{◌≡◌, refl, sym}
use mathlib.Core.Bool.{Bool, true, false, ◌&&◌}
use mathlib.Core.List.{List, [], ◌∷◌}
use mathlib.Core.Logic.{◌⊎◌, inl, inr, ⊎_elim}
use Prim.Native.Nat.{ℕ, zero, suc, ◌≤◌, ◌<◌}
use native.Mathlib.Nat.{le_of_suc-le-suc, not-suc-le-zero, eq-or-lt_of_le}
use native.Mathlib.Omega.{arith}
use lib.ListN.{get_or}
use lib.Dec.{T, eqb, ltb, eqb→eq, leb→le}
use borrow.Author.Tests.{ltb-true, ltb-false}

pub and_left : (a b : Bool) → T (a && b) → T a
and_left true b t = tt
and_left false b t = t

pub and_right : (a b : Bool) → T (a && b) → T b
and_right true b t = t
and_right false b t = absurd t

pub and-true : (a b : Bool) → (a && b) ≡ true → (a ≡ true) × (b ≡ true)
and-true true b e = (refl, e)
and-true false b e = let z : ◌≡◌ {A = Bool} true false = sym e in (cc, cc)

pub true-not-false : true ≡ false → ⊥
true-not-false e = let n : ◌≡◌ {A = ℕ} 0 1 = cc in omega arith

pub either : (b : Bool) → (b ≡ true) ⊎ (b ≡ false)
either true = inl refl
either false = inr refl

pub lt-or-le : (n m : ℕ) → (n < m) ⊎ (m ≤ n)
lt-or-le n m = go (ltb n m) refl
  where
    go : (b : Bool) → ltb n m ≡ b → (n < m) ⊎ (m ≤ n)
    go true e = inl (ltb-true n m e)
    go false e = inr (ltb-false n m e)

abbrev pub below : (ℕ → Bool) → ℕ → Bool
below f zero = true
below f (suc n) = f n && below f n

pub below_at : (f : ℕ → Bool) (n : ℕ) → T (below f n) → (k : ℕ) → k < n → T (f k)
below_at f zero t k h = absurd (not-suc-le-zero h)
below_at f (suc n) t k h =
    ⊎_elim (λ e. rw e (and_left (f n) (below f n) t)) (λ l. below_at f n (and_right (f n) (below f n) t) k l) (eq-or-lt_of_le (le_of_suc-le-suc h))

-- each test of a list, passed where all are
abbrev pub every : List Bool → Bool
every [] = true
every (b ∷ bs) = b && every bs

pub every-at : (bs : List Bool) → T (every bs) → (k : ℕ) → T (get_or bs k true)
every-at [] t k = tt
every-at (b ∷ bs) t zero = and_left b (every bs) t
every-at (b ∷ bs) t (suc k) = every-at bs (and_right b (every bs) t) k

-- two functions agree below n
pub same-below : (f g : ℕ → ℕ) (n : ℕ) → T (below (λ k. eqb (f k) (g k)) n) → (k : ℕ) → k < n → f k ≡ g k
same-below f g n t k h = eqb→eq (f k) (g k) (below_at (λ m. eqb (f m) (g m)) n t k h)

-- a function stays below a bound below n
pub bound-below : (f : ℕ → ℕ) (b n : ℕ) → T (below (λ k. ltb (f k) b) n) → (k : ℕ) → k < n → f k < b
bound-below f b n t k h = leb→le (suc (f k)) b (below_at (λ m. ltb (f m) b) n t k h)

-- f stays below t, and g takes it back
pub record Back (t : ℕ) (f g : ℕ → ℕ) : Type 0 where
  pub within : (j : ℕ) → j < t → f j < t
  pub back : (j : ℕ) → j < t → g (f j) ≡ j

abbrev pub entry : List ℕ → ℕ → ℕ
entry box x = get_or box x 0

-- one table takes back each entry of another, by a test that is computed at each
abbrev pub table_tests : ℕ → List ℕ → List ℕ → List Bool
table_tests top box unbox = below (λ x. ltb (entry box x) top) top ∷ below (λ x. eqb (entry unbox (entry box x)) x) top ∷ []

pub tables-back : (top : ℕ) (box unbox : List ℕ) → T (every (table_tests top box unbox)) → Back top (entry box) (entry unbox)
tables-back top box unbox t =
    let passed = every-at (table_tests top box unbox) t in
    record { within = bound-below (entry box) top top (passed 0); back = same-below (λ x. entry unbox (entry box x)) (λ x. x) top (passed 1) }

-- what holds of each of 0 to 3 holds of every number below 4
pub zero-to-three : (P : ℕ → Type 0) → P 0 → P 1 → P 2 → P 3 → (b : ℕ) → b < 4 → P b
zero-to-three P p q r s zero h = p
zero-to-three P p q r s (suc zero) h = q
zero-to-three P p q r s (suc (suc zero)) h = r
zero-to-three P p q r s (suc (suc (suc zero))) h = s
zero-to-three P p q r s (suc (suc (suc (suc b)))) h = absurd (omega arith)

-- what holds of each of 1 to 5 holds of every number between
pub one-to-five : (P : ℕ → Type 0) → P 1 → P 2 → P 3 → P 4 → P 5 → (v : ℕ) → 1 ≤ v → v ≤ 5 → P v
one-to-five P a b c d e zero l h = absurd (not-suc-le-zero l)
one-to-five P a b c d e (suc zero) l h = a
one-to-five P a b c d e (suc (suc zero)) l h = b
one-to-five P a b c d e (suc (suc (suc zero))) l h = c
one-to-five P a b c d e (suc (suc (suc (suc zero)))) l h = d
one-to-five P a b c d e (suc (suc (suc (suc (suc zero))))) l h = e
one-to-five P a b c d e (suc (suc (suc (suc (suc (suc v)))))) l h = absurd (omega arith)

-- and of each of 6 to 10
pub six-to-ten : (P : ℕ → Type 0) → P 6 → P 7 → P 8 → P 9 → P 10 → (v : ℕ) → 6 ≤ v → v ≤ 10 → P v
six-to-ten P a b c d e zero l h = absurd (omega arith)
six-to-ten P a b c d e (suc zero) l h = absurd (omega arith)
six-to-ten P a b c d e (suc (suc zero)) l h = absurd (omega arith)
six-to-ten P a b c d e (suc (suc (suc zero))) l h = absurd (omega arith)
six-to-ten P a b c d e (suc (suc (suc (suc zero)))) l h = absurd (omega arith)
six-to-ten P a b c d e (suc (suc (suc (suc (suc v))))) l h =
    one-to-five (λ n. P (suc (suc (suc (suc (suc n)))))) a b c d e v (omega arith) (omega arith)
