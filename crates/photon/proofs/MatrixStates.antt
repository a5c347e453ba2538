-- The matrix in the bytes that hold a state, through the rounds.
-- Assumes nothing.
use mathlib.Core.Path.{◌≡◌}
use mathlib.Core.Bool.{Bool}
use mathlib.Core.List.{List}
use Prim.Native.Nat.{ℕ, ◌*◌, ◌^◌, ◌≤◌}
use lib.Dec.{lit≤}
use Rattle.standard.specs.Bits.{high_first, bits_in, pack, unpack}
use Rattle.standard.specs.declared.Direction.{Direction}
use Rattle.standard.specs.Grid.{Grid}
use Rattle.standard.specs.ForCode.{window, Small}
use Rattle.standard.specs.Photon.{photon_rounds, matrix_of, bits_of_matrix, photon_permutation}
use Rattle.standard.specs.Families.{state_in}
use Rattle.standard.specs.Variants.{variant}
use Rattle.standard.specs.Layout.{state_room, packed_state}
use Rattle.standard.proofs.Tests.{one-to-five}
use Rattle.standard.proofs.Tab.{small-window}
use Rattle.standard.proofs.PhotonLaws.{photon_rounds-state}
use Rattle.standard.proofs.MatrixLaws.{matrix_of-square, matrix_of-small}
use Rattle.photon.specs.Parameters.{photon_of}
use Rattle.photon.proofs.ParametersOf.{photon-variant, sound}
use Rattle.photon.proofs.MatrixImage.{matrix-front}

-- the cells are the state
state-cells : (v : ℕ) → 1 ≤ v → v ≤ 5 → (photon_of v).d * (photon_of v).d * (photon_of v).s ≤ (variant v).t
unfolding photon_of variant
state-cells = one-to-five (λ v. (photon_of v).d * (photon_of v).d * (photon_of v).s ≤ (variant v).t) (lit≤ tt) (lit≤ tt) (lit≤ tt) (lit≤ tt) (lit≤ tt)

room : (v : ℕ) → 1 ≤ v → v ≤ 5 → (photon_of v).s * ((photon_of v).d * (photon_of v).d) ≤ 288
unfolding photon_of variant
room = one-to-five (λ v. (photon_of v).s * ((photon_of v).d * (photon_of v).d) ≤ 288) (lit≤ tt) (lit≤ tt) (lit≤ tt) (lit≤ tt) (lit≤ tt)

-- a matrix of d rows and columns of cells of s bits, as tables give the two
module _ (v : ℕ) (low : 1 ≤ v) (high : v ≤ 5) (d s : ℕ) (ed : d ≡ (photon_of v).d) (es : s ≡ (photon_of v).s) where
  pub cells-room : s * (d * d) ≤ 288
  cells-room = rw (es, ed) (room v low high)

  pub matrix-ready : (bits : List Bool) (g : Grid) → window d g ≡ matrix_of d s bits → Small (photon_of v).d (2 ^ (photon_of v).s) g
  matrix-ready bits g e = small-window _ _ g (rw (rw (ed, es) at e) (matrix_of-small (photon_of v).d (photon_of v).s bits))

  pub rounds-ready : (bits : List Bool) (w : Direction) (g h : Grid) → window d g ≡ matrix_of d s bits
      → window (photon_of v).d h ≡ photon_rounds (photon_of v) w (window (photon_of v).d g) → Small d (2 ^ s) h
  rounds-ready bits w g h eg eh =
      rw (ed, es)
      (small-window _ _ h (rw (eh, rw (ed, es) at eg)
      (photon_rounds-state (photon_of v) (sound v low high) w (matrix_of (photon_of v).d (photon_of v).s bits)
      (record { square = matrix_of-square (photon_of v).d (photon_of v).s bits; small = matrix_of-small (photon_of v).d (photon_of v).s bits })).small))

  pub photon-state : (bytes r : List ℕ) (w : Direction) (g h : Grid) → window d g ≡ matrix_of d s (bits_in high_first bytes)
      → window (photon_of v).d h ≡ photon_rounds (photon_of v) w (window (photon_of v).d g) → r ≡ pack high_first state_room (bits_of_matrix s (window d h))
      → r ≡ packed_state (variant v) (photon_permutation (photon_of v) w (state_in (variant v) bytes))
  unfolding photon_permutation state_in unpack
  photon-state bytes r w g h eg eh er =
      let front = matrix-front (photon_of v).d (photon_of v).s (variant v).t (bits_in high_first bytes) (state-cells v low high) in
      rw (rw (ed, es) at er, eh, rw (ed, es) at eg, ← front, photon-variant v low high)
