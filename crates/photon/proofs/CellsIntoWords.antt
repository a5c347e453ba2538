-- Cells of bytes added to the columns in words, row by row: from nothing they make the matrix of an image, and on a state they are a block xored in. For any size and cell width.
-- Assumes nothing.
use mathlib.Core.Path.{◌≡◌, refl, sym, ap, ap₂, ◌∙◌}
use mathlib.Core.Bool.{Bool, true, false, cond, xor}
use mathlib.Core.List.{List, [], ◌∷◌}
use mathlib.Core.Logic.{⊎_elim}
use Prim.Native.Nat.{ℕ, zero, suc, ◌+◌, ◌*◌, ◌^◌, ◌≤◌, ◌<◌}
use native.Mathlib.Nat.{mul-le-mul_right, suc-mul, mul_assoc, min-le_left, eq-or-lt_of_le, suc_inj, add-mul}
use native.Mathlib.Omega.{arith}
use lib.Bits.{bit_xor, xor_zero_r, xor_lt}
use lib.Dec.{eqb, ltb}
use lib.ListN.{length, get_or, take, drop, length-take, length-drop, drop_of_length-le}
use lib.Seq.{length-take-le, drop-drop, take-nil}
use borrow.Author.Tests.{lt-ltb, le-ltb, eq-eqb, ne_eqb}
use Rattle.standard.specs.Bits.{high_first, value_of, bits_in, filled, xor_into}
use Rattle.standard.specs.Grid.{Grid, at, grid}
use Rattle.standard.specs.ForCode.{Square, Small}
use Rattle.standard.specs.Photon.{matrix_of, bits_of_matrix}
use Rattle.standard.proofs.Tab.{grid-cong, grid-self}
use Rattle.standard.proofs.Tests.{lt-or-le}
use Rattle.standard.proofs.BitLaws.{filled-take, length-bits_in, value_of-lt, bits_of-value_of, value_of-bits_of, bits_of-xor, xor_into-nil, length-filled}
use Rattle.standard.proofs.CutLaws.{take-drop-take}
use Rattle.standard.proofs.MatrixLaws.{at-matrix_of, matrix_of-square, matrix-bits, length-bits_of_matrix}
use Rattle.photon_tables.specs.Columns.{cell_of}
use Rattle.photon_tables.proofs.WordCells.{Rising, cell-xor, cell-none, cell-moved}
use Rattle.octets.specs.Cells.{cell_in}
use Rattle.octets.proofs.CellLaws.{cell-in-lt}
use Rattle.octets.proofs.PackedNibbles.{filled-nothing}

-- ---- rows of cells into words

module _ (place : ℕ → ℕ) (s d : ℕ) (bytes : List ℕ) (c : ℕ) where
  -- the first e cells from the cell c on are added to the words w
  pub record Taken (e : ℕ) (w x : List ℕ) : Type 0 where
    pub cell : (i j : ℕ) → i < d → j < d
        → cell_of place s i (get_or x j 0) ≡ bit_xor (cell_of place s i (get_or w j 0)) (cond (ltb (i * d + j) e) (cell_in s bytes (c + (i * d + j))) 0)

  pub taken_none : (w : List ℕ) → Taken 0 w w
  taken_none w = record { cell = λ i j hi hj. sym (rw (le-ltb (i * d + j) 0 (omega arith)) (xor_zero_r (cell_of place s i (get_or w j 0)))) }

module _ (place : ℕ → ℕ) (s d : ℕ) (rise : Rising place s d) (bytes : List ℕ) (c : ℕ) where
  -- n more, which are those of row r
  pub taken-row : (r n bit : ℕ) → r < d → n ≤ d → bit ≡ place r → (w x y : List ℕ) → Taken place s d bytes c (r * d) w x
      → ((j : ℕ) → j < n → get_or y j 0 ≡ bit_xor (get_or x j 0) (cell_in s bytes (c + (r * d + j)) * 2 ^ bit))
      → ((j : ℕ) → n ≤ j → get_or y j 0 ≡ get_or x j 0)
      → Taken place s d bytes c (r * d + n) w y
  taken-row r n bit hr hn eb w x y u new old = record { cell = λ i j hi hj. ⊎_elim (λ l. before i j hi hj l) (λ l. ⊎_elim (λ e. here i j hi hj e) (λ m. behind i j hi hj m) (eq-or-lt_of_le l)) (lt-or-le i r) }
    where
      -- what the row gets, and the others do not
      row : (i j : ℕ) → i < d → j < d → cell_of place s i (get_or y j 0) ≡ bit_xor (cell_of place s i (get_or x j 0)) (cond (ltb j n) (cond (eqb i r) (cell_in s bytes (c + (r * d + j))) 0) 0)
      row i j hi hj =
          ⊎_elim
          (λ l. rw (new j l, cell-xor place s i (get_or x j 0) (cell_in s bytes (c + (r * d + j)) * 2 ^ bit), eb, cell-moved place s d rise r i (cell_in s bytes (c + (r * d + j))) hr hi (cell-in-lt s bytes (c + (r * d + j))), lt-ltb j n l))
          (λ l. rw (old j l, le-ltb j n l) (sym (xor_zero_r (cell_of place s i (get_or x j 0)))))
          (lt-or-le j n)

      other : (b : Bool) → ◌≡◌ {A = ℕ} (cond b 0 0) 0
      other true = refl
      other false = refl

      -- a row that is not r keeps its cells
      kept : (i j : ℕ) → i < d → j < d → (i ≡ r → ⊥) → (b : Bool) → ltb (i * d + j) (r * d) ≡ b → ltb (i * d + j) (r * d + n) ≡ b
          → cell_of place s i (get_or y j 0) ≡ bit_xor (cell_of place s i (get_or w j 0)) (cond (ltb (i * d + j) (r * d + n)) (cell_in s bytes (c + (i * d + j))) 0)
      kept i j hi hj ne b e₁ e₂ =
          row i j hi hj
          ∙ ap (λ (f : Bool). bit_xor (cell_of place s i (get_or x j 0)) (cond (ltb j n) (cond f (cell_in s bytes (c + (r * d + j))) 0) 0)) (ne_eqb i r ne)
          ∙ ap (bit_xor (cell_of place s i (get_or x j 0))) (other (ltb j n))
          ∙ xor_zero_r (cell_of place s i (get_or x j 0))
          ∙ u.cell i j hi hj
          ∙ ap (λ (f : Bool). bit_xor (cell_of place s i (get_or w j 0)) (cond f (cell_in s bytes (c + (i * d + j))) 0)) (e₁ ∙ sym e₂)

      before : (i j : ℕ) → i < d → j < d → i < r → cell_of place s i (get_or y j 0) ≡ bit_xor (cell_of place s i (get_or w j 0)) (cond (ltb (i * d + j) (r * d + n)) (cell_in s bytes (c + (i * d + j))) 0)
      before i j hi hj l =
          let less : i * d + j < r * d = omega (arith, mul-le-mul_right d l, suc-mul i d) in
          kept i j hi hj (λ e. omega arith) true (lt-ltb (i * d + j) (r * d) less) (lt-ltb (i * d + j) (r * d + n) (omega arith))

      behind : (i j : ℕ) → i < d → j < d → r < i → cell_of place s i (get_or y j 0) ≡ bit_xor (cell_of place s i (get_or w j 0)) (cond (ltb (i * d + j) (r * d + n)) (cell_in s bytes (c + (i * d + j))) 0)
      behind i j hi hj l =
          let more : r * d + d ≤ i * d = omega (arith, mul-le-mul_right d l, suc-mul r d) in
          kept i j hi hj (λ e. omega arith) false (le-ltb (i * d + j) (r * d) (omega arith)) (le-ltb (i * d + j) (r * d + n) (omega arith))

      same : (i j : ℕ) → r ≡ i → ltb j n ≡ ltb (i * d + j) (r * d + n)
      same i j e =
          ⊎_elim (λ l. lt-ltb j n l ∙ sym (lt-ltb (i * d + j) (r * d + n) (rw e (omega arith)))) (λ l. le-ltb j n l ∙ sym (le-ltb (i * d + j) (r * d + n) (rw e (omega arith)))) (lt-or-le j n)

      here : (i j : ℕ) → i < d → j < d → r ≡ i → cell_of place s i (get_or y j 0) ≡ bit_xor (cell_of place s i (get_or w j 0)) (cond (ltb (i * d + j) (r * d + n)) (cell_in s bytes (c + (i * d + j))) 0)
      here i j hi hj e =
          let was : cell_of place s i (get_or x j 0) ≡ cell_of place s i (get_or w j 0) =
          u.cell i j hi hj ∙ rw (le-ltb (i * d + j) (r * d) (rw e (omega arith))) (xor_zero_r (cell_of place s i (get_or w j 0))) in
          row i j hi hj
          ∙ ap₂ (λ (a : ℕ) (f : Bool). bit_xor a (cond (ltb j n) (cond f (cell_in s bytes (c + (r * d + j))) 0) 0)) was (eq-eqb i r (sym e))
          ∙ ap₂ (λ (k : ℕ) (f : Bool). bit_xor (cell_of place s i (get_or w j 0)) (cond f (cell_in s bytes (c + (k * d + j))) 0)) e (same i j e)

-- ---- the matrix of an image

module _ (place : ℕ → ℕ) (s d : ℕ) (rise : Rising place s d) (bytes : List ℕ) where
  pub columns-are : (w x : List ℕ) → ((j : ℕ) → get_or w j 0 ≡ 0) → Taken place s d bytes 0 (d * d) w x
      → grid d (λ i j. cell_of place s i (get_or x j 0)) ≡ matrix_of d s (bits_in high_first bytes)
  unfolding cell_in
  columns-are w x none u =
      grid-cong d _ (at (matrix_of d s (bits_in high_first bytes)))
      (λ i j hi hj.
      let less : i * d + j < d * d = omega (arith, mul-le-mul_right d hi, suc-mul i d) in
      let first : 0 + (i * d + j) ≡ i * d + j = omega arith in
      u.cell i j hi hj
      ∙ rw (none j, cell-none place s i, lt-ltb (i * d + j) (d * d) less, first)
      (sym (at-matrix_of d s (bits_in high_first bytes) i j hi hj)))
      ∙ grid-self d (matrix_of d s (bits_in high_first bytes)) (matrix_of-square d s (bits_in high_first bytes))

-- ---- a block xored in

take-xor : (n : ℕ) (a b : List Bool) → take n (xor_into a b) ≡ xor_into (take n a) (take n b)
unfolding xor_into
take-xor zero a b = refl
take-xor (suc n) [] b = refl
take-xor (suc n) (x ∷ a) [] = refl
take-xor (suc n) (x ∷ a) (y ∷ b) = ap (λ (l : List Bool). xor x y ∷ l) (take-xor n a b)

drop-xor : (n : ℕ) (a b : List Bool) → drop n (xor_into a b) ≡ xor_into (drop n a) (drop n b)
unfolding xor_into
drop-xor zero a b = refl
drop-xor (suc n) [] b = refl
drop-xor (suc n) (x ∷ a) [] = sym (xor_into-nil (drop n a))
drop-xor (suc n) (x ∷ a) (y ∷ b) = drop-xor n a b

xor-false : (x : Bool) → xor x false ≡ x
unfolding xor
xor-false true = refl
xor-false false = refl

-- zeros behind the bits change nothing
xor-filled : (s : ℕ) (X Y : List Bool) → length X ≡ s → xor_into X (filled s Y) ≡ xor_into X (take s Y)
unfolding xor_into filled
xor-filled zero X Y e = refl
xor-filled (suc s) [] Y e = refl
xor-filled (suc s) (x ∷ X) [] e = ap₂ (λ (a : Bool) (l : List Bool). a ∷ l) (xor-false x) (xor-filled s X [] (suc_inj e) ∙ ap (xor_into X) (take-nil {A = Bool} s) ∙ xor_into-nil X)
xor-filled (suc s) (x ∷ X) (y ∷ Y) e = ap (λ (l : List Bool). xor x y ∷ l) (xor-filled s X Y (suc_inj e))

value-xor : (s : ℕ) (X Y : List Bool) → length X ≡ s → value_of high_first (xor_into X (take s Y)) ≡ bit_xor (value_of high_first X) (value_of high_first (filled s Y))
value-xor s X Y e =
    let a : ℕ = value_of high_first X in
    let b : ℕ = value_of high_first (filled s Y) in
    let lf : length (filled s Y) ≡ s = length-filled s Y in
    ap (value_of high_first)
    (sym (xor-filled s X Y e)
    ∙ ap₂ xor_into (sym (bits_of-value_of high_first s X e)) (sym (bits_of-value_of high_first s (filled s Y) lf))
    ∙ sym (bits_of-xor high_first s a b))
    ∙ value_of-bits_of high_first s (bit_xor a b) (xor_lt s a b (value_of-lt high_first s X e) (value_of-lt high_first s (filled s Y) lf))

-- cell k of bits, with zeros behind them
abbrev pub bits_cell : ℕ → List Bool → ℕ → ℕ
bits_cell s B k = value_of high_first (filled s (drop (k * s) B))

module _ (d s : ℕ) (g : Grid) (q : Square d g) (m : Small d (2 ^ s) g) (B : List Bool) where
  -- xored into the bits of a matrix, they are added cell by cell
  pub matrix-xor : (i j : ℕ) → i < d → j < d → at (matrix_of d s (xor_into (bits_of_matrix s g) B)) i j ≡ bit_xor (at g i j) (bits_cell s B (i * d + j))
  matrix-xor i j hi hj =
      let S : List Bool = bits_of_matrix s g in
      let k : ℕ = (i * d + j) * s in
      let cell : suc (i * d + j) ≤ d * d = omega (arith, mul-le-mul_right d hi, suc-mul i d) in
      let room : k + s ≤ length S = omega (arith, mul-le-mul_right s cell, suc-mul (i * d + j) s, length-bits_of_matrix d s g q, mul_assoc d d s) in
      let size : length (take s (drop k S)) ≡ s = length-take-le s (drop k S) (omega (arith, length-drop k S)) in
      at-matrix_of d s (xor_into S B) i j hi hj
      ∙ ap (λ (l : List Bool). value_of high_first (take s l)) (drop-xor k S B)
      ∙ ap (value_of high_first) (take-xor s (drop k S) (drop k B))
      ∙ value-xor s (take s (drop k S)) (drop k B) size
      ∙ ap (λ (x : ℕ). bit_xor x (bits_cell s B (i * d + j))) (sym (at-matrix_of d s S i j hi hj) ∙ ap (λ (x : Grid). at x i j) (matrix-bits d s g q m))

-- the cells of a block that stands in bytes, from the cell c on
module _ (bytes : List ℕ) (s c from q : ℕ) (begins : from ≡ c * s) (room : from + q * s ≤ 8 * length bytes) where
  abbrev pub block : List Bool
  block = take (q * s) (drop from (bits_in high_first bytes))

  pub block-cell : (k : ℕ) → 0 < s → bits_cell s (take (q * s) (drop from (bits_in high_first bytes))) k ≡ cond (ltb k q) (cell_in s bytes (c + k)) 0
  unfolding cell_in
  block-cell k pos =
      ⊎_elim
      (λ l.
      let fits : k * s + s ≤ q * s = omega (arith, mul-le-mul_right s l, suc-mul k s) in
      let X : List Bool = bits_in high_first bytes in
      let size : length block ≡ q * s = length-take-le (q * s) (drop from X) (omega (arith, length-drop from X, length-bits_in high_first bytes)) in
      let place : from + k * s ≡ (c + k) * s = rw (begins, add-mul c k s) in
      ap (value_of high_first)
      (filled-take s (drop (k * s) block) (omega (arith, length-drop (k * s) block, size))
      ∙ take-drop-take (k * s) s (q * s) (drop from X) fits
      ∙ ap (take s) (drop-drop (k * s) from X ∙ ap (λ (n : ℕ). drop n X) place))
      ∙ rw (lt-ltb k q l))
      (λ l.
      let past : length block ≤ k * s = omega (arith, mul-le-mul_right s l, length-take (q * s) (drop from (bits_in high_first bytes)), min-le_left (q * s) (length (drop from (bits_in high_first bytes)))) in
      rw (drop_of_length-le block {i = k * s} past, le-ltb k q l) (filled-nothing s))
      (lt-or-le k q)
