-- Laws of `tab`, `grid` and `window`: two grids are equal where they agree at each row and column.
-- Assumes nothing.
use mathlib.Core.Path.{◌≡◌, refl, sym, ap, ◌∙◌, subst}
use mathlib.Core.List.{List, [], ◌∷◌, ◌++◌, reverse, reverse-cons}
use mathlib.Core.Logic.{⊎_elim}
use Prim.Native.Nat.{ℕ, zero, suc, ◌-◌, ◌<◌, suc-le-suc}
use native.Mathlib.Nat.{not-suc-le-zero, le_of_suc-le-suc, zero-lt-suc, eq-or-lt_of_le}
use native.Mathlib.Omega.{arith}
use lib.ListN.{length, get_or, length-reverse, get_or-append}
use lib.Seq.{get_or_at}
use Rattle.standard.specs.Grid.{Grid, tab, at, grid}
use Rattle.standard.specs.ForCode.{cells, window, Square, Small}

-- ---- lists made by index

module _ {A : Type 0} where
  pub length-tab : (n : ℕ) (f : ℕ → A) → length (tab n f) ≡ n
  length-tab zero f = refl
  length-tab (suc n) f = ap suc (length-tab n (λ k. f (suc k)))

  pub get_d-tab : (n : ℕ) (f : ℕ → A) (k : ℕ) (z : A) → k < n → get_or (tab n f) k z ≡ f k
  get_d-tab zero f k z h = absurd (not-suc-le-zero h)
  get_d-tab (suc n) f zero z h = refl
  get_d-tab (suc n) f (suc k) z h = get_d-tab n (λ m. f (suc m)) k z (le_of_suc-le-suc h)

  pub tab-cong : (n : ℕ) (f g : ℕ → A) → ((k : ℕ) → k < n → f k ≡ g k) → tab n f ≡ tab n g
  tab-cong zero f g h = refl
  tab-cong (suc n) f g h = rw (h 0 (zero-lt-suc n), tab-cong n (λ k. f (suc k)) (λ k. g (suc k)) (λ k l. h (suc k) (suc-le-suc l)))

  tab-length : (xs : List A) (z : A) → tab (length xs) (λ k. get_or xs k z) ≡ xs
  tab-length [] z = refl
  tab-length (x ∷ xs) z = ap (λ (r : List A). x ∷ r) (tab-length xs z)

  pub tab-self : (n : ℕ) (xs : List A) (z : A) → length xs ≡ n → tab n (λ k. get_or xs k z) ≡ xs
  tab-self n xs z e = subst (λ (m : ℕ). tab m (λ k. get_or xs k z) ≡ xs) e (tab-length xs z)

  pub tab-snoc : (m : ℕ) (f : ℕ → A) → tab (suc m) f ≡ tab m f ++ (f m ∷ [])
  tab-snoc zero f = refl
  tab-snoc (suc m) f = ap (λ (r : List A). f 0 ∷ r) (tab-snoc m (λ k. f (suc k)))

  pub get_d_reverse : (xs : List A) (k : ℕ) (z : A) → k < length xs → get_or (reverse xs) k z ≡ get_or xs (length xs - 1 - k) z
  get_d_reverse [] k z h = absurd (not-suc-le-zero h)
  get_d_reverse (x ∷ xs) k z h =
      ap (λ (l : List A). get_or l k z) (reverse-cons x xs)
      ∙ ⊎_elim
      (λ e. let last : suc (length xs) - 1 - k ≡ 0 = omega arith in
      rw last (get_or_at (reverse xs) x [] z k (length-reverse xs ∙ sym e)))
      (λ l. let more : suc (length xs) - 1 - k ≡ suc (length xs - 1 - k) = omega arith in
      rw (more, get_or-append (reverse xs) (x ∷ []) z k (rw length-reverse l)) (get_d_reverse xs k z l))
      (eq-or-lt_of_le (le_of_suc-le-suc h))

  pub reverse-tab : (n : ℕ) (f : ℕ → A) → reverse (tab n f) ≡ tab n (λ k. f (n - 1 - k))
  reverse-tab n f =
      sym (tab-self n (reverse (tab n f)) (f 0) (length-reverse (tab n f) ∙ length-tab n f))
      ∙ tab-cong n (λ k. get_or (reverse (tab n f)) k (f 0)) (λ k. f (n - 1 - k))
      (λ k h. rw (get_d_reverse (tab n f) k (f 0) (rw length-tab h), length-tab) (get_d-tab n f (n - 1 - k) (f 0) (omega arith)))

-- ---- grids made cell by cell

pub at-grid : (d : ℕ) (f : ℕ → ℕ → ℕ) (i j : ℕ) → i < d → j < d → at (grid d f) i j ≡ f i j
at-grid d f i j hi hj = rw (get_d-tab d (λ k. tab d (f k)) i [] hi, get_d-tab d (f i) j 0 hj)

pub grid-cong : (d : ℕ) (f g : ℕ → ℕ → ℕ) → ((i j : ℕ) → i < d → j < d → f i j ≡ g i j) → grid d f ≡ grid d g
grid-cong d f g h = tab-cong d (λ i. tab d (f i)) (λ i. tab d (g i)) (λ i hi. tab-cong d (f i) (g i) (λ j hj. h i j hi hj))

pub square-grid : (d : ℕ) (f : ℕ → ℕ → ℕ) → Square d (grid d f)
square-grid d f =
    record {
      rows = length-tab d (λ i. tab d (f i));
      cols = λ i hi. ap length (get_d-tab d (λ k. tab d (f k)) i [] hi) ∙ length-tab d (f i);
    }

pub small-grid : (d top : ℕ) (f : ℕ → ℕ → ℕ) → ((i j : ℕ) → i < d → j < d → f i j < top) → Small d top (grid d f)
small-grid d top f h = record { cell = λ i j hi hj. rw (at-grid d f i j hi hj) (h i j hi hj) }

pub grid-self : (d : ℕ) (g : Grid) → Square d g → grid d (at g) ≡ g
grid-self d g s =
    tab-cong d (λ i. tab d (at g i)) (λ i. get_or g i []) (λ i hi. tab-self d (get_or g i []) 0 (s.cols i hi))
    ∙ tab-self d g [] s.rows

-- a grid that is made cell by cell is g where each cell is g's
pub grid-is : (d : ℕ) (f : ℕ → ℕ → ℕ) (g : Grid) → Square d g → ((i j : ℕ) → i < d → j < d → f i j ≡ at g i j) → grid d f ≡ g
grid-is d f g s h = grid-cong d f (at g) h ∙ grid-self d g s

-- ---- the first rows and columns of a grid

pub at-window : (d : ℕ) (g : Grid) (i j : ℕ) → i < d → j < d → at (window d g) i j ≡ at g i j
unfolding window
at-window d g i j hi hj = at-grid d (at g) i j hi hj

-- they are those of a grid that is made cell by cell
pub window-is : (d : ℕ) (r : Grid) (f : ℕ → ℕ → ℕ) → ((i j : ℕ) → i < d → j < d → at r i j ≡ f i j) → window d r ≡ grid d f
unfolding window
window-is d r f h = grid-cong d (at r) f h

-- the rows in reverse
pub window-reverse : (d : ℕ) (r g : Grid) → ((i : ℕ) → i < d → get_or r i [] ≡ get_or g (d - 1 - i) []) → window d r ≡ reverse (window d g)
unfolding window
window-reverse d r g h =
    tab-cong d (λ i. cells d (get_or r i [])) (λ i. cells d (get_or g (d - 1 - i) [])) (λ i hi. ap (λ (row : List ℕ). cells d row) (h i hi))
    ∙ sym (reverse-tab d (λ i. cells d (get_or g i [])))

pub window-square : (d : ℕ) (g : Grid) → Square d (window d g)
unfolding window
window-square d g = square-grid d (at g)

pub window-small : (d top : ℕ) (g : Grid) → Small d top g → Small d top (window d g)
window-small d top g m = record { cell = λ i j hi hj. rw (at-window d g i j hi hj) (m.cell i j hi hj) }

pub small-window : (d top : ℕ) (g : Grid) → Small d top (window d g) → Small d top g
small-window d top g m = record { cell = λ i j hi hj. rw (at-window d g i j hi hj) at (m.cell i j hi hj) }
