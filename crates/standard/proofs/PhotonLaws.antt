-- Each step of PHOTON keeps the shape of the state and is undone by its inverse, for any size, cell width, tables and coefficients that
-- are sound; so are the round and the permutation, in both directions. Assumes nothing.
use mathlib.Core.Path.{◌≡◌, ap}
use mathlib.Core.List.{List}
use Prim.Native.Nat.{ℕ, zero, suc, ◌+◌, ◌-◌, ◌*◌, ◌%◌, ◌^◌, ◌≤◌, ◌<◌}
use native.Mathlib.Nat.{mod-lt, mod-add-mod, add-mul-mod_self_left, mod-eq_of_lt, add-mul}
use native.Mathlib.Omega.{arith}
use lib.Bits.{bit_xor, xor_lt}
use lib.ListN.{get_or}
use lib.Pow.{pow_mono}
use Rattle.standard.specs.Rounds.{opposite}
use Rattle.standard.specs.declared.Direction.{Direction}
use Rattle.standard.specs.declared.Direction.TheVariants.{Forward, Backward}
use Rattle.standard.specs.Grid.{Grid, at, grid}
use Rattle.standard.specs.ForCode.{window, Square, Small}
use Rattle.standard.specs.Photon.{in_first, add_constants, sub_cells, shift_rows, PhotonParameters, photon_round, photon_rounds, round_constants}
use Rattle.standard.proofs.Tests.{bound-below, entry, Back}
use Rattle.standard.proofs.Xor.{xor-twice}
use Rattle.standard.proofs.Tab.{at-grid, grid-is, square-grid, small-grid, window-square, window-small, small-window}
use Rattle.standard.proofs.Undo.{All, all_of, rounds-keep, rounds-undo}
use Rattle.standard.proofs.SerialLaws.{Undoes, mixing, Cells, mixing-cells, mixing-undo}

-- ---- what the parameters of a variant owe

-- what each direction takes
abbrev pub box_for : PhotonParameters → Direction → List ℕ
box_for p Forward = p.box
box_for p Backward = p.unbox

abbrev pub turn_for : PhotonParameters → Direction → ℕ
turn_for p Forward = 1
turn_for p Backward = p.d - 1

abbrev pub coefficients_for : PhotonParameters → Direction → List ℕ
coefficients_for p Forward = p.z
coefficients_for p Backward = p.unz

-- What the laws ask of the parameters. The square may have any size, and a cell any width from four bits on, since a round constant has four.
pub record Sound (p : PhotonParameters) : Type 0 where
  pub pos : 0 < p.d
  pub nibble : 4 ≤ p.s
  pub poly-low : 2 ^ p.s ≤ p.poly
  pub poly-high : p.poly < 2 ^ p.s * 2
  pub ic-small : (i : ℕ) → i < p.d → get_or p.ic i 0 < 2 ^ p.s
  pub boxes : (w : Direction) → Back (2 ^ p.s) (entry (box_for p w)) (entry (box_for p (opposite w)))
  pub undoes : (w : Direction) → Undoes p.d (2 ^ p.s) p.poly (coefficients_for p w) (coefficients_for p (opposite w))

-- d rows of d cells of s bits
abbrev pub State : PhotonParameters → Grid → Type 0
State p g = Cells p.d (2 ^ p.s) g

pub window-state : (p : PhotonParameters) (g : Grid) → Small p.d (2 ^ p.s) g → State p (window p.d g)
window-state p g m = record { square = window-square p.d g; small = window-small p.d (2 ^ p.s) g m }

-- a grid whose window is a state has small cells
pub state-small : (p : PhotonParameters) (g w : Grid) → window p.d g ≡ w → State p w → Small p.d (2 ^ p.s) g
state-small p g w e k = small-window p.d (2 ^ p.s) g (rw e k.small)

-- ---- each step

pub add-add : (d rc : ℕ) (ic : List ℕ) (g : Grid) → Square d g → add_constants d rc ic (add_constants d rc ic g) ≡ g
unfolding add_constants
add-add d rc ic g q = grid-is d _ g q cell
  where
    once : ℕ → ℕ → ℕ
    once i j = in_first j (bit_xor (at g i 0) (bit_xor rc (get_or ic i 0))) (at g i j)

    cell : (i j : ℕ) → i < d → j < d → in_first j (bit_xor (at (grid d once) i 0) (bit_xor rc (get_or ic i 0))) (at (grid d once) i j) ≡ at g i j
    cell i zero hi hj = rw (at-grid d once i 0 hi hj, xor-twice)
    cell i (suc j) hi hj = at-grid d once i (suc j) hi hj

-- a turn by m' * i places, and then by m * i, where m + m' is d
turn-turn : (d m m' i j : ℕ) → m + m' ≡ d → j < d → ((j + m' * i) % d + m * i) % d ≡ j
turn-turn d m m' i j e h =
    let sum : j + m' * i + m * i ≡ j + d * i = omega (arith, add-mul m m' i, ap (λ (x : ℕ). x * i) e) in
    rw (mod-add-mod, sum, add-mul-mod_self_left) (mod-eq_of_lt h)

module _ (p : PhotonParameters) (h : Sound p) where
  pub constant-room : 16 ≤ 2 ^ p.s
  constant-room = pow_mono {i = 4} {j = p.s} h.nibble

  pub add-state : (rc : ℕ) → rc < 2 ^ p.s → (g : Grid) → State p g → State p (add_constants p.d rc p.ic g)
  unfolding add_constants
  add-state rc hr g k = record { square = square-grid p.d _; small = small-grid p.d (2 ^ p.s) _ cell }
    where
      cell : (i j : ℕ) → i < p.d → j < p.d → in_first j (bit_xor (at g i 0) (bit_xor rc (get_or p.ic i 0))) (at g i j) < 2 ^ p.s
      cell i zero hi hj = xor_lt p.s (at g i 0) _ (k.small.cell i 0 hi hj) (xor_lt p.s rc (get_or p.ic i 0) hr (h.ic-small i hi))
      cell i (suc j) hi hj = k.small.cell i (suc j) hi hj

  pub sub-state : (w : Direction) (g : Grid) → State p g → State p (sub_cells p.d (box_for p w) g)
  unfolding sub_cells
  sub-state w g k =
      record {
        square = square-grid p.d _;
        small = small-grid p.d (2 ^ p.s) _ (λ i j hi hj. (h.boxes w).within (at g i j) (k.small.cell i j hi hj));
      }

  pub shift-state : (m : ℕ) (g : Grid) → State p g → State p (shift_rows p.d m g)
  unfolding shift_rows
  shift-state m g k =
      record {
        square = square-grid p.d _;
        small = small-grid p.d (2 ^ p.s) _ (λ i j hi hj. k.small.cell i _ hi (mod-lt (j + m * i) h.pos));
      }

  abbrev mix : Direction → Grid → Grid
  mix w = mixing (2 ^ p.s) p.poly p.d w (coefficients_for p w)

  pub mix-state : (w : Direction) (g : Grid) → State p g → State p (mix w g)
  mix-state w g k = mixing-cells p.d p.s p.poly h.poly-low h.poly-high h.pos w (coefficients_for p w) g k

  pub sub_back : (w : Direction) (g : Grid) → State p g → sub_cells p.d (box_for p (opposite w)) (sub_cells p.d (box_for p w) g) ≡ g
  unfolding sub_cells
  sub_back w g k =
      grid-is p.d _ g k.square
      (λ i j hi hj. rw (at-grid p.d (λ a b. get_or (box_for p w) (at g a b) 0) i j hi hj) ((h.boxes w).back (at g i j) (k.small.cell i j hi hj)))

  turns : (w : Direction) → turn_for p w + turn_for p (opposite w) ≡ p.d
  turns Forward = omega (arith, h.pos)
  turns Backward = omega (arith, h.pos)

  pub shift_back : (w : Direction) (g : Grid) → State p g → shift_rows p.d (turn_for p (opposite w)) (shift_rows p.d (turn_for p w) g) ≡ g
  unfolding shift_rows
  shift_back w g k =
      let m : ℕ = turn_for p w in
      let m' : ℕ = turn_for p (opposite w) in
      grid-is p.d _ g k.square
      (λ i j hi hj.
      rw (at-grid p.d (λ a b. at g a ((b + m * a) % p.d)) i ((j + m' * i) % p.d) hi (mod-lt (j + m' * i) h.pos), turn-turn p.d m m' i j (turns w) hj))

  pub mix-back : (w : Direction) (g : Grid) → State p g → mix (opposite w) (mix w g) ≡ g
  mix-back w g k =
      mixing-undo p.d p.s p.poly h.poly-low h.poly-high h.pos w (coefficients_for p w) g k (coefficients_for p (opposite w)) (h.undoes w)

  pub round-state : (w : Direction) (g : Grid) (rc : ℕ) → State p g → rc < 2 ^ p.s → State p (photon_round p w g rc)
  unfolding photon_round
  round-state Forward g rc k hr = mix-state Forward _ (shift-state 1 _ (sub-state Forward _ (add-state rc hr g k)))
  round-state Backward g rc k hr = add-state rc hr _ (sub-state Backward _ (shift-state (p.d - 1) _ (mix-state Backward g k)))

  pub round-undo : (w : Direction) (g : Grid) (rc : ℕ) → State p g → rc < 2 ^ p.s → photon_round p (opposite w) (photon_round p w g rc) rc ≡ g
  unfolding photon_round
  round-undo Forward g rc k hr =
      let ka : State p (add_constants p.d rc p.ic g) = add-state rc hr g k in
      let kb : State p (sub_cells p.d p.box (add_constants p.d rc p.ic g)) = sub-state Forward _ ka in
      rw (mix-back Forward _ (shift-state 1 _ kb), shift_back Forward _ kb, sub_back Forward _ ka) (add-add p.d rc p.ic g k.square)
  round-undo Backward g rc k hr =
      let ka : State p (mix Backward g) = mix-state Backward g k in
      let kb : State p (shift_rows p.d (p.d - 1) (mix Backward g)) = shift-state (p.d - 1) _ ka in
      let kc = sub-state Backward _ kb in
      rw (add-add p.d rc p.ic _ kc.square, sub_back Backward _ kb, shift_back Backward _ ka) (mix-back Backward g k)

  constants-small : All (λ c. c < 2 ^ p.s) round_constants
  constants-small =
      all_of (λ c. c < 2 ^ p.s) 0 round_constants
      (λ k l. omega (arith, constant-room, bound-below (λ i. get_or round_constants i 0) 16 12 tt k l))

  pub photon_rounds-state : (w : Direction) (g : Grid) → State p g → State p (photon_rounds p w g)
  unfolding photon_rounds
  photon_rounds-state w g k = rounds-keep (State p) (λ c. c < 2 ^ p.s) (photon_round p) round-state round-undo w round_constants constants-small g k

  pub photon_rounds-undo : (w : Direction) (g : Grid) → State p g → photon_rounds p (opposite w) (photon_rounds p w g) ≡ g
  unfolding photon_rounds
  photon_rounds-undo w g k = rounds-undo (State p) (λ c. c < 2 ^ p.s) (photon_round p) round-state round-undo w round_constants constants-small g k
