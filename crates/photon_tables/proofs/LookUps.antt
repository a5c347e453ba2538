-- A round by look-ups: sums of shares hold the columns of what the S-box, the turning of rows and the column step make, for any size, cell width, S-box, coefficients and places
-- of the rows in a word. Assumes nothing.
use mathlib.Core.Path.{◌≡◌, refl, sym, ap, ap₂, ◌∙◌, subst}
use mathlib.Core.Bool.{cond}
use mathlib.Core.List.{List, [], map}
use mathlib.Core.Logic.{⊎_elim}
use Prim.Native.Nat.{ℕ, zero, suc, ◌+◌, ◌*◌, ◌%◌, ◌^◌, ◌<◌}
use native.Mathlib.Nat.{mod-lt}
use native.Mathlib.Omega.{arith}
use lib.Bits.{bit_xor, xor_comm, xor_lt}
use lib.Dec.{eqb, ltb}
use lib.Pow.{pow_pos}
use lib.ListN.{get_or, length, set}
use lib.Seq.{get_or-set_same, get_or-set_other}
use borrow.Author.Tests.{lt-ltb, le-ltb}
use Rattle.standard.specs.Rounds.{iterate}
use Rattle.standard.specs.declared.Direction.TheVariants.{Forward}
use Rattle.standard.specs.Grid.{Grid, tab, at, transpose}
use Rattle.standard.specs.Photon.{PhotonParameters, in_first, add_constants, round_constants, serial, columns, mix_columns, shift_rows, sub_cells}
use Rattle.standard.proofs.Xor.{xor-twice}
use Rattle.standard.proofs.Tab.{length-tab, get_d-tab, tab-cong, at-grid, grid-cong, grid-is, square-grid, small-grid}
use Rattle.standard.proofs.Tests.{bound-below, lt-or-le}
use Rattle.standard.proofs.Undo.{get_d_map}
use Rattle.standard.proofs.PhotonLaws.{Sound, State, constant-room}
use Rattle.standard.proofs.SerialLaws.{Column}
use Rattle.photon_tables.specs.Columns.{only, mixed, number, cell_of, share, sum_of, matrix_of_words, with_column, constant_column}
use Rattle.photon_tables.proofs.ColumnSums.{mixed-sum, mixed-column, tab-column, column-cell}
use Rattle.photon_tables.proofs.WordCells.{cond-lt, Rising, cell-lt, cell-xor, cell-none, cell-number, number_lt}

pub sum-cong : (n : ℕ) (f g : ℕ → ℕ) → ((r : ℕ) → r < n → f r ≡ g r) → sum_of n f ≡ sum_of n g
sum-cong zero f g h = refl
sum-cong (suc n) f g h = ap₂ bit_xor (sum-cong n f g (λ r l. h r (omega arith))) (h n (omega arith))

module _ (p : PhotonParameters) (h : Sound p) (place : ℕ → ℕ) (rise : Rising place p.s p.d) where
  -- ---- shares

  -- the column that the value y in row r becomes
  share-column : (r y : ℕ) → y < 2 ^ p.s → Column p.d (2 ^ p.s) (mixed p (only p.d r y))
  share-column r y hy = mixed-column p h (only p.d r y) (tab-column p h (λ j. cond (eqb j r) y 0) (λ j hj. cond-lt (eqb j r) hy (pow_pos p.s)))

  pub share-lt : (r x : ℕ) → get_or p.box x 0 < 2 ^ p.s → share place p r x < 2 ^ place p.d
  unfolding share
  share-lt r x hx =
      let k = share-column r (get_or p.box x 0) hx in
      number_lt place p.s p.d (mixed p (only p.d r (get_or p.box x 0))) rise (column-cell p h _ k)

  share_cell : (r x i : ℕ) → i < p.d → get_or p.box x 0 < 2 ^ p.s
      → cell_of place p.s i (share place p r x) ≡ get_or (mixed p (only p.d r (get_or p.box x 0))) i 0
  unfolding share
  share_cell r x i hi hx =
      let k = share-column r (get_or p.box x 0) hx in
      cell-number place p.s p.d (mixed p (only p.d r (get_or p.box x 0))) rise (column-cell p h _ k) i hi

  -- ---- words and their matrix

  pub words-state : (words : List ℕ) → State p (matrix_of_words place p words)
  words-state words = record { square = square-grid p.d _; small = small-grid p.d (2 ^ p.s) _ (λ i j hi hj. cell-lt place p.s i (get_or words j 0)) }

  -- row i of column j after the column step
  at-mix : (X : Grid) (i j : ℕ) → i < p.d → j < p.d → at (mix_columns (2 ^ p.s) p.poly p.d p.z X) i j ≡ get_or (mixed p (tab p.d (λ r. at X r j))) i 0
  unfolding mix_columns columns transpose mixed
  at-mix X i j hi hj =
      let T : Grid = tab p.d (λ b. tab p.d (λ a. at X a b)) in
      let F : List ℕ → List ℕ = iterate p.d (serial (2 ^ p.s) p.poly p.z) in
      at-grid p.d (λ a b. at (map F T) b a) i j hi hj
      ∙ ap (λ (c : List ℕ). get_or c i 0)
      (get_d_map F T j [] [] (subst (λ (m : ℕ). j < m) (sym (length-tab p.d (λ b. tab p.d (λ a. at X a b)))) hj)
      ∙ ap F (get_d-tab p.d (λ b. tab p.d (λ a. at X a b)) j [] hj))

  module _ (words : List ℕ) where
    abbrev held : Grid
    held = matrix_of_words place p words

    -- what S-box, turning of rows and column step make of the matrix that the words hold
    abbrev pub turned : Grid
    turned = mix_columns (2 ^ p.s) p.poly p.d p.z (shift_rows p.d 1 (sub_cells p.d p.box (matrix_of_words place p words)))

    -- the cell that row r gives to column j
    abbrev pub given : ℕ → ℕ → ℕ
    given j r = cell_of place p.s r (get_or words ((j + r) % p.d) 0)

    value : ℕ → ℕ → ℕ
    value j r = get_or p.box (given j r) 0

    pub value-lt : (j r : ℕ) → get_or p.box (given j r) 0 < 2 ^ p.s
    value-lt j r = (h.boxes Forward).within (given j r) (cell-lt place p.s r (get_or words ((j + r) % p.d) 0))

    shifted : (r j : ℕ) → r < p.d → j < p.d → at (shift_rows p.d 1 (sub_cells p.d p.box held)) r j ≡ value j r
    unfolding shift_rows sub_cells value
    shifted r j hr hj =
        let one : j + 1 * r ≡ j + r = omega arith in
        at-grid p.d (λ x y. at (sub_cells p.d p.box held) x ((y + 1 * x) % p.d)) r j hr hj
        ∙ ap (λ (k : ℕ). at (sub_cells p.d p.box held) r (k % p.d)) one
        ∙ at-grid p.d (λ x y. get_or p.box (at held x y) 0) r ((j + r) % p.d) hr (mod-lt (j + r) h.pos)
        ∙ ap (λ (x : ℕ). get_or p.box x 0) (at-grid p.d (λ x y. cell_of place p.s x (get_or words y 0)) r ((j + r) % p.d) hr (mod-lt (j + r) h.pos))

    -- row i of the shares that are looked up for column j
    pub look-cell : (i j : ℕ) → i < p.d → j < p.d
        → sum_of p.d (λ r. cell_of place p.s i (share place p r (given j r))) ≡ at turned i j
    unfolding value
    look-cell i j hi hj =
        let c : List ℕ = tab p.d (λ r. at (shift_rows p.d 1 (sub_cells p.d p.box held)) r j) in
        let v : List ℕ = tab p.d (value j) in
        let same : c ≡ v = tab-cong p.d _ (value j) (λ r hr. shifted r j hr hj) in
        let kv : Column p.d (2 ^ p.s) v = tab-column p h (value j) (λ r hr. value-lt j r) in
        sum-cong p.d _ _
        (λ r hr. share_cell r (given j r) i hi (value-lt j r)
        ∙ ap (λ (y : ℕ). get_or (mixed p (only p.d r y)) i 0) (sym (get_d-tab p.d (value j) r 0 hr)))
        ∙ sym (mixed-sum p h v kv i hi)
        ∙ sym (at-mix (shift_rows p.d 1 (sub_cells p.d p.box held)) i j hi hj ∙ ap (λ (l : List ℕ). get_or (mixed p l) i 0) same)

    -- A round by look-ups is the round of the definition: words that hold such sums, with a column c in the first, hold the next matrix with c added to its first column.
    pub look-round : (c : ℕ) (out : List ℕ)
        → ((i j : ℕ) → i < p.d → j < p.d → cell_of place p.s i (get_or out j 0)
        ≡ bit_xor (in_first j (cell_of place p.s i c) 0) (sum_of p.d (λ r. cell_of place p.s i (share place p r (cell_of place p.s r (get_or words ((j + r) % p.d) 0))))))
        → matrix_of_words place p out ≡ with_column place p c (mix_columns (2 ^ p.s) p.poly p.d p.z (shift_rows p.d 1 (sub_cells p.d p.box (matrix_of_words place p words))))
    look-round c out e =
        grid-cong p.d _ _
        (λ i j hi hj. e i j hi hj ∙ ap (bit_xor (in_first j (cell_of place p.s i c) 0)) (look-cell i j hi hj))

  -- ---- a column that is added to the first

  in-first : (j x : ℕ) (row : ℕ → ℕ) → bit_xor (in_first j x 0) (row j) ≡ in_first j (bit_xor (row 0) x) (row j)
  in-first zero x row = xor_comm x (row 0)
  in-first (suc j) x row = refl

  -- adding it to the first word adds it to the matrix
  pub first-added : (w : List ℕ) (c : ℕ) → 0 < length w → matrix_of_words place p (set w 0 (bit_xor (get_or w 0 0) c)) ≡ with_column place p c (matrix_of_words place p w)
  first-added w c l =
      grid-cong p.d _ _
      (λ i j hi hj. cell i j ∙ ap (bit_xor (in_first j (cell_of place p.s i c) 0)) (sym (at-grid p.d (λ a b. cell_of place p.s a (get_or w b 0)) i j hi hj)))
    where
      cell : (i j : ℕ) → cell_of place p.s i (get_or (set w 0 (bit_xor (get_or w 0 0) c)) j 0) ≡ bit_xor (in_first j (cell_of place p.s i c) 0) (cell_of place p.s i (get_or w j 0))
      cell i zero = rw (get_or-set_same w 0 (bit_xor (get_or w 0 0) c) 0 l, cell-xor place p.s i (get_or w 0 0) c, xor_comm (cell_of place p.s i (get_or w 0 0)) (cell_of place p.s i c))
      cell i (suc j) = rw (get_or-set_other w 0 (suc j) (bit_xor (get_or w 0 0) c) 0 (λ e. omega arith))

  pub added_twice : (c : ℕ) (g : Grid) → State p g → with_column place p c (with_column place p c g) ≡ g
  added_twice c g k =
      grid-is p.d _ g k.square
      (λ i j hi hj. rw (at-grid p.d (λ a b. bit_xor (in_first b (cell_of place p.s a c) 0) (at g a b)) i j hi hj) (twice (in_first j (cell_of place p.s i c) 0) (at g i j)))
    where
      twice : (a b : ℕ) → bit_xor a (bit_xor a b) ≡ b
      twice a b = rw (xor_comm a b, xor_comm a (bit_xor b a), xor-twice)

  pub nothing-added : (g : Grid) → State p g → with_column place p 0 g ≡ g
  nothing-added g k = grid-is p.d _ g k.square (λ i j hi hj. rw (cell-none place p.s i) (none j (at g i j)))
    where
      none : (j x : ℕ) → bit_xor (in_first j 0 0) x ≡ x
      none zero x = refl
      none (suc j) x = refl

  -- 5.2.4.2: the constants of a round as a column
  constant-small : (r i : ℕ) → r < 12 → i < p.d → bit_xor (get_or round_constants r 0) (get_or p.ic i 0) < 2 ^ p.s
  constant-small r i hr hi =
      let few : get_or round_constants r 0 < 2 ^ p.s = omega (arith, constant-room p h, bound-below (λ k. get_or round_constants k 0) 16 12 tt r hr) in
      xor_lt p.s (get_or round_constants r 0) (get_or p.ic i 0) few (h.ic-small i hi)

  pub constants-added : (r : ℕ) → r < 12 → (g : Grid) → with_column place p (constant_column place p r) g ≡ add_constants p.d (get_or round_constants r 0) p.ic g
  unfolding constant_column add_constants
  constants-added r hr g =
      let cs : ℕ → ℕ = λ i. bit_xor (get_or round_constants r 0) (get_or p.ic i 0) in
      rw (lt-ltb r 12 hr)
      (grid-cong p.d _ _
      (λ i j hi hj. rw (cell-number place p.s p.d (tab p.d cs) rise (λ k hk. rw (get_d-tab p.d cs k 0 hk) (constant-small r k hr hk)) i hi, get_d-tab p.d cs i 0 hi)
      (in-first j (cs i) (at g i))))

  pub constant-lt : (r : ℕ) → constant_column place p r < 2 ^ place p.d
  unfolding constant_column
  constant-lt r = ⊎_elim some (λ l. rw (le-ltb r 12 l) (pow_pos (place p.d))) (lt-or-le r 12)
    where
      some : r < 12 → cond (ltb r 12) (number place p.d (tab p.d (λ i. bit_xor (get_or round_constants r 0) (get_or p.ic i 0)))) 0 < 2 ^ place p.d
      some l =
          let cs : ℕ → ℕ = λ i. bit_xor (get_or round_constants r 0) (get_or p.ic i 0) in
          rw (lt-ltb r 12 l)
          (number_lt place p.s p.d (tab p.d cs) rise (λ k hk. rw (get_d-tab p.d cs k 0 hk) (constant-small r k l hk)))
