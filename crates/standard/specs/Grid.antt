-- The state matrix of PHOTON (5.2.4.1): a list of rows, a row a list of cells. S[i,j] is `at g i j`.
-- Assumes nothing.
use Rattle.std.specs.Prelude.{ℕ, zero, suc, List, [], ◌∷◌, get_or}

abbrev pub Grid : Type 0
Grid = List (List ℕ)

-- f 0, f 1, .., f (n - 1)
abbrev pub tab : {A : Type 0} → ℕ → (ℕ → A) → List A
tab zero f = []
tab (suc n) f = f 0 ∷ tab n (λ k. f (suc k))

-- the cell in row i and column j
abbrev pub at : Grid → ℕ → ℕ → ℕ
at g i j = get_or (get_or g i []) j 0

-- the matrix of d rows and d columns whose cell in row i and column j is f i j
abbrev pub grid : ℕ → (ℕ → ℕ → ℕ) → Grid
grid d f = tab d (λ i. tab d (f i))

-- rows become columns
unfoldable pub transpose : ℕ → Grid → Grid
transpose d g = grid d (λ i j. at g j i)
