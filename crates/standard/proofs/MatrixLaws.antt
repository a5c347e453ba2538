-- The state's bits as a matrix of cells, and back: shape, the cell in a row and column, both round trips; so PHOTON's permutation of bits is undone.
-- Assumes nothing.
use mathlib.Core.Path.{◌≡◌, refl, sym, ◌∙◌}
use mathlib.Core.Bool.{Bool}
use mathlib.Core.List.{List, [], map, flat_map}
use Prim.Native.Nat.{ℕ, ◌+◌, ◌*◌, ◌^◌, ◌≤◌, ◌<◌}
use native.Mathlib.Nat.{le_trans, min-le_left, add-mul, mul_assoc}
use native.Mathlib.Omega.{arith}
use lib.Pow.{pow_mono}
use lib.ListN.{length, get_or, take, drop, length-map, length-take}
use lib.Seq.{drop-drop}
use Rattle.standard.specs.Bits.{high_first, bits_of, value_of, cut}
use Rattle.standard.specs.Rounds.{opposite}
use Rattle.standard.specs.declared.Direction.{Direction}
use Rattle.standard.specs.Grid.{Grid, at}
use Rattle.standard.specs.ForCode.{Square, Small}
use Rattle.standard.specs.Photon.{PhotonParameters, matrix_of, bits_of_matrix, photon_rounds, photon_permutation}
use Rattle.standard.proofs.BitLaws.{length-bits_of, value_of-bits_of, bits_of-value_of, value_of-lt}
use Rattle.standard.proofs.CutLaws.{length_cut, cut_at, cut_fits, flat_map-cut, flat_map-map, length-flat_map, map-cut, take-drop-take}
use Rattle.standard.proofs.Undo.{get_d_map}
use Rattle.standard.proofs.PhotonLaws.{Sound, State, photon_rounds-state, photon_rounds-undo}

-- ---- bits to cells

module _ (d s : ℕ) (bs : List Bool) where
  matrix_of-row : (i : ℕ) → i < d → get_or (matrix_of d s bs) i [] ≡ map (value_of high_first) (cut s d (take (d * s) (drop (i * (d * s)) bs)))
  unfolding matrix_of
  matrix_of-row i hi =
      rw (get_d_map (λ row. map (value_of high_first) (cut s d row)) (cut (d * s) d bs) i [] [] (rw length_cut hi), cut_at (d * s) d bs i hi)

  pub matrix_of-square : Square d (matrix_of d s bs)
  unfolding matrix_of
  matrix_of-square = record { rows = simp (length-map, length_cut); cols = λ i hi. rw (matrix_of-row i hi) (simp (length-map, length_cut)) }

  -- cell (i, j) is made of the s bits from (i * d + j) * s on
  pub at-matrix_of : (i j : ℕ) → i < d → j < d → at (matrix_of d s bs) i j ≡ value_of high_first (take s (drop ((i * d + j) * s) bs))
  at-matrix_of i j hi hj =
      let row : List Bool = take (d * s) (drop (i * (d * s)) bs) in
      let place : i * (d * s) + j * s ≡ (i * d + j) * s = sym (add-mul (i * d) j s ∙ rw mul_assoc) in
      let room : j * s + s ≤ d * s = cut_fits s d j (d * s) hj (omega arith) in
      rw (matrix_of-row i hi, get_d_map (value_of high_first) (cut s d row) j 0 [] (rw length_cut hj), cut_at s d row j hj, take-drop-take, drop-drop, place)

  pub matrix_of-small : Small d (2 ^ s) (matrix_of d s bs)
  matrix_of-small =
      record {
        cell = λ i j hi hj.
            let piece : List Bool = take s (drop ((i * d + j) * s) bs) in
            rw (at-matrix_of i j hi hj) (le_trans (value_of-lt high_first (length piece) piece refl) (pow_mono (rw length-take (min-le_left s _))));
      }

  pub bits-matrix : length bs ≡ d * (d * s) → bits_of_matrix s (matrix_of d s bs) ≡ bs
  unfolding matrix_of bits_of_matrix
  bits-matrix e =
      flat_map-map (λ row. map (value_of high_first) (cut s d row)) (λ row. flat_map (bits_of high_first s) row) (cut (d * s) d bs)
      ∙ flat_map-cut (d * s) (λ row. flat_map (bits_of high_first s) (map (value_of high_first) (cut s d row)))
      (λ row l. flat_map-map (value_of high_first) (bits_of high_first s) (cut s d row)
      ∙ flat_map-cut s (λ piece. bits_of high_first s (value_of high_first piece)) (bits_of-value_of high_first s) d row l)
      d bs e

-- ---- cells to bits

module _ (d s : ℕ) (g : Grid) (q : Square d g) where
  row-bits : (i : ℕ) → i < d → length (flat_map (bits_of high_first s) (get_or g i [])) ≡ d * s
  row-bits i hi = rw (length-flat_map s (bits_of high_first s) 0 (get_or g i []) (λ k l. length-bits_of high_first s _), q.cols i hi)

  pub length-bits_of_matrix : length (bits_of_matrix s g) ≡ d * (d * s)
  unfolding bits_of_matrix
  length-bits_of_matrix = rw (length-flat_map (d * s) (λ row. flat_map (bits_of high_first s) row) [] g (λ i l. row-bits i (rw q.rows at l)), q.rows)

  pub matrix-bits : Small d (2 ^ s) g → matrix_of d s (bits_of_matrix s g) ≡ g
  unfolding matrix_of bits_of_matrix
  matrix-bits m =
      map-cut (d * s) (λ row. flat_map (bits_of high_first s) row) [] (λ row. map (value_of high_first) (cut s d row)) d g q.rows row-bits
      (λ i hi. map-cut s (bits_of high_first s) 0 (value_of high_first) d (get_or g i []) (q.cols i hi)
      (λ j hj. length-bits_of high_first s (at g i j)) (λ j hj. value_of-bits_of high_first s (at g i j) (m.cell i j hi hj)))

-- ---- the permutation of the state's bits

module _ (p : PhotonParameters) (h : Sound p) (w : Direction) (bs : List Bool) where
  matrix-state : State p (matrix_of p.d p.s bs)
  matrix-state = record { square = matrix_of-square p.d p.s bs; small = matrix_of-small p.d p.s bs }

  rounds-state : State p (photon_rounds p w (matrix_of p.d p.s bs))
  rounds-state = photon_rounds-state p h w (matrix_of p.d p.s bs) matrix-state

  pub length-photon_permutation : length (photon_permutation p w bs) ≡ p.d * (p.d * p.s)
  unfolding photon_permutation
  length-photon_permutation = length-bits_of_matrix p.d p.s (photon_rounds p w (matrix_of p.d p.s bs)) rounds-state.square

  pub photon_permutation-undo : length bs ≡ p.d * (p.d * p.s) → photon_permutation p (opposite w) (photon_permutation p w bs) ≡ bs
  unfolding photon_permutation
  photon_permutation-undo e =
      rw (matrix-bits p.d p.s _ rounds-state.square rounds-state.small, photon_rounds-undo p h w _ matrix-state) (bits-matrix p.d p.s bs e)
