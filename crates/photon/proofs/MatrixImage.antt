-- A PHOTON state's matrix and the bytes that hold it: cell by cell one way, byte by byte the other.
-- Assumes nothing.
use mathlib.Core.Path.{◌≡◌, sym, ap, ◌∙◌, subst}
use mathlib.Core.Bool.{Bool}
use mathlib.Core.List.{List, []}
use mathlib.Core.Logic.{⊎_elim}
use Prim.Native.Nat.{ℕ, zero, suc, ◌+◌, ◌*◌, ◌/◌, ◌%◌, ◌^◌, ◌≤◌, ◌<◌}
use native.Mathlib.Nat.{div-add-mod', div-lt_iff_lt-mul, le-div_iff_mul-le, zero-lt-suc, mod-lt, mul-le-mul_left, mul-le-mul_right, mul_assoc, suc-mul}
use native.Mathlib.Omega.{arith}
use lib.ListN.{length, take, drop, get_or, drop_of_length-le, get_or-eq_default, length-drop}
use Rattle.standard.specs.Bits.{high_first, value_of, filled, pack}
use Rattle.standard.specs.Grid.{Grid, at}
use Rattle.standard.specs.ForCode.{window, Square, Small}
use Rattle.standard.specs.Photon.{matrix_of, bits_of_matrix}
use Rattle.standard.proofs.Tests.{lt-or-le}
use Rattle.standard.proofs.BitLaws.{filled-take}
use Rattle.standard.proofs.CutLaws.{take-drop-take}
use Rattle.standard.proofs.Tab.{grid-cong, grid-self, window-square, window-small}
use Rattle.standard.proofs.MatrixLaws.{matrix_of-square, at-matrix_of, length-bits_of_matrix, matrix-bits}
use Rattle.standard.specs.Layout.{state_room}
use Rattle.photon.specs.Rows.{nth}
use Rattle.octets.proofs.PackedNibbles.{pack-at, filled-nothing, pack-halves}

-- ---- the cells of a matrix, one after the other

pub square_le : (d : ℕ) → d ≤ 8 → d * d ≤ 64
square_le d h = omega (arith, mul-le-mul_left d h)

pub row_lt : (d n : ℕ) → n < d * d → n / d < d
row_lt zero n h = absurd (omega (arith, h))
row_lt (suc d) n h = (div-lt_iff_lt-mul {k = suc d} (zero-lt-suc d)).1 h

pub col-lt : (d n : ℕ) → n < d * d → n % d < d
col-lt zero n h = absurd (omega (arith, h))
col-lt (suc d) n h = mod-lt n (omega arith)

pub past : (d : ℕ) (g : Grid) → Square d g → (n : ℕ) → d * d ≤ n → 0 < d → nth d g n ≡ 0
past d g q n h pos =
    ap (λ (r : List ℕ). get_or r (n % d) 0) (get_or-eq_default g [] (subst (λ (m : ℕ). m ≤ n / d) (sym q.rows) ((le-div_iff_mul-le {k = d} pos).1 h)))

pub nth-lt : (d top : ℕ) (g : Grid) → Square d g → Small d top g → 0 < d → 0 < top → (n : ℕ) → nth d g n < top
nth-lt d top g q m pos tpos n =
    ⊎_elim (λ l. m.cell (n / d) (n % d) (row_lt d n l) (col-lt d n l))
    (λ l. subst (λ (x : ℕ). x < top) (sym (past d g q n l pos)) tpos) (lt-or-le n (d * d))

-- the cells of a matrix that stands in the front of a grid
module _ (w d : ℕ) (f : Grid) (small : Small d (2 ^ w) f) (pos : 0 < d) where
  abbrev g : Grid
  g = window d f

  q : Square d (window d f)
  q = window-square d f

  m : Small d (2 ^ w) (window d f)
  m = window-small d (2 ^ w) f small

  pub cell-lt : w ≡ 4 → (n : ℕ) → nth d g n < 16
  cell-lt e n = nth-lt d 16 g q (rw e at m) pos (zero-lt-suc 15) n

  -- the w bits at the place of the n-th cell, zeros past the last, are that cell
  pub piece : (n : ℕ) → value_of high_first (filled w (drop (n * w) (bits_of_matrix w g))) ≡ nth d g n
  piece n = ⊎_elim within beyond (lt-or-le n (d * d))
    where
      size : length (bits_of_matrix w g) ≡ d * d * w
      size = length-bits_of_matrix d w g q ∙ sym (mul_assoc d d w)

      enough : n < d * d → w ≤ length (drop (n * w) (bits_of_matrix w g))
      enough l = omega (arith, length-drop (n * w) (bits_of_matrix w g), size, mul-le-mul_right w l, suc-mul n w)

      within : n < d * d → value_of high_first (filled w (drop (n * w) (bits_of_matrix w g))) ≡ nth d g n
      within l =
          ap (value_of high_first)
          (filled-take w (drop (n * w) (bits_of_matrix w g)) (enough l)
          ∙ ap (λ (k : ℕ). take w (drop (k * w) (bits_of_matrix w g))) (sym (div-add-mod' n d)))
          ∙ sym (at-matrix_of d w (bits_of_matrix w g) (n / d) (n % d) (row_lt d n l) (col-lt d n l))
          ∙ ap (λ (x : Grid). at x (n / d) (n % d)) (matrix-bits d w g q m)

      beyond : d * d ≤ n → value_of high_first (filled w (drop (n * w) (bits_of_matrix w g))) ≡ nth d g n
      beyond l =
          rw (drop_of_length-le (bits_of_matrix w g) {i = n * w} (omega (arith, size, mul-le-mul_right w l)), filled-nothing, past d g q n l pos)

  piece-at : (x : ℕ) → w ≡ x → (n : ℕ) → value_of high_first (filled x (drop (n * x) (bits_of_matrix w g))) ≡ nth d g n
  piece-at x e n = rw (← e) (piece n)

  pub byte-wide : w ≡ 8 → (k : ℕ) → k < state_room → nth d g k ≡ get_or (pack high_first state_room (bits_of_matrix w g)) k 0
  byte-wide e k h = sym (pack-at state_room (bits_of_matrix w g) k h ∙ piece-at 8 e k)

  pub byte-narrow : w ≡ 4 → (k : ℕ) → k < state_room → nth d g (k * 2) * 16 + nth d g (k * 2 + 1) ≡ get_or (pack high_first state_room (bits_of_matrix w g)) k 0
  byte-narrow e k h =
      let first : k * 8 ≡ k * 2 * 4 = omega arith in
      let second : k * 8 + 4 ≡ (k * 2 + 1) * 4 = omega arith in
      rw (pack-halves state_room (bits_of_matrix w g) k h, second, first, piece-at 4 e (k * 2), piece-at 4 e (k * 2 + 1))

-- the matrix in the first bits is that in all
pub matrix-front : (d w t : ℕ) (bs : List Bool) → d * d * w ≤ t → matrix_of d w (take t bs) ≡ matrix_of d w bs
matrix-front d w t bs h =
    sym (grid-self d (matrix_of d w (take t bs)) (matrix_of-square d w (take t bs)))
    ∙ grid-cong d (at (matrix_of d w (take t bs))) (at (matrix_of d w bs))
    (λ i j hi hj. at-matrix_of d w (take t bs) i j hi hj
    ∙ ap (value_of high_first) (take-drop-take ((i * d + j) * w) w t bs (fits i j hi hj))
    ∙ sym (at-matrix_of d w bs i j hi hj))
    ∙ grid-self d (matrix_of d w bs) (matrix_of-square d w bs)
  where
    fits : (i j : ℕ) → i < d → j < d → (i * d + j) * w + w ≤ t
    fits i j hi hj =
        let cell : suc (i * d + j) ≤ d * d = omega (arith, mul-le-mul_right d hi, suc-mul i d) in
        omega (arith, mul-le-mul_right w cell, suc-mul (i * d + j) w)
