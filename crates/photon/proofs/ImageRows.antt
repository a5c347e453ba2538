-- The matrix that words hold, written row by row into bytes; and the bytes of the first rows against the whole state.
-- Assumes nothing.
use mathlib.Core.Path.{◌≡◌, refl, sym, ap, ap₂, ◌∙◌}
use mathlib.Core.Bool.{Bool}
use mathlib.Core.List.{List, [], ◌∷◌, ◌++◌, append-nil, flat_map}
use Prim.Native.Nat.{ℕ, zero, suc, ◌+◌, ◌*◌, ◌/◌, ◌%◌, ◌^◌, ◌≤◌, ◌<◌}
use native.Mathlib.Nat.{zero-mul, suc-mul, le_refl}
use native.Mathlib.Numerals.{add-one}
use native.Mathlib.Omega.{arith}
use lib.Dec.{lit≤}
use lib.ListN.{length, get_or, take, drop, replicate, length-append, take-append-drop}
use lib.Seq.{take-suc, take_all, take-append-le}
use Rattle.standard.specs.Bits.{high_first, bits_of, bits_in, pack, unpack}
use Rattle.standard.specs.Grid.{Grid, tab, grid}
use Rattle.standard.specs.Photon.{bits_of_matrix}
use Rattle.standard.specs.Variants.{variant}
use Rattle.standard.specs.ForCode.{output_bits}
use Rattle.standard.proofs.Tests.{one-to-five}
use Rattle.standard.proofs.Tab.{length-tab, get_d-tab, square-grid}
use Rattle.standard.proofs.BitLaws.{length-pack, pack-none}
use Rattle.standard.proofs.CutLaws.{flat_map-append}
use Rattle.standard.proofs.MatrixLaws.{length-bits_of_matrix}
use Rattle.photon_tables.specs.Columns.{place_in}
use Rattle.photon.specs.Parameters.{photon_of}
use Rattle.photon.specs.Words.{matrix_in, state_of_columns}
use Rattle.photon.proofs.ParametersOf.{photon-variant}
use Rattle.standard.specs.Layout.{state_room, packed_state}
use Rattle.octets.proofs.LayoutLaws.{packed-bits}
use Rattle.octets.proofs.RowsIntoBytes.{row-length, read_back, kept_back}

-- ---- the first rows of a matrix

module _ (d s : ℕ) (f : ℕ → ℕ → ℕ) where
  rows_more : (i : ℕ) → i < d → bits_of_matrix s (take (i + 1) (grid d f)) ≡ bits_of_matrix s (take i (grid d f)) ++ flat_map (bits_of high_first s) (tab d (f i))
  unfolding bits_of_matrix flat_map
  rows_more i h =
      let row : List ℕ → List Bool = λ r. flat_map (bits_of high_first s) r in
      ap (flat_map row)
      (ap (λ (n : ℕ). take n (grid d f)) (add-one i) ∙ take-suc (grid d f) i [] (rw length-tab h)
      ∙ ap (λ (r : List ℕ). take i (grid d f) ++ (r ∷ [])) (get_d-tab d (λ k. tab d (f k)) i [] h))
      ∙ flat_map-append row (take i (grid d f)) (tab d (f i) ∷ [])
      ∙ ap (λ (Z : List Bool). flat_map row (take i (grid d f)) ++ Z) (append-nil (row (tab d (f i))))

  rows-length : (i : ℕ) → i ≤ d → length (bits_of_matrix s (take i (grid d f))) ≡ i * (d * s)
  unfolding bits_of_matrix flat_map
  rows-length zero h = sym (zero-mul (d * s))
  rows-length (suc i) h =
      ap (λ (n : ℕ). length (bits_of_matrix s (take n (grid d f)))) (sym (add-one i))
      ∙ ap length (rows_more i h)
      ∙ length-append (bits_of_matrix s (take i (grid d f))) (flat_map (bits_of high_first s) (tab d (f i)))
      ∙ omega (arith, rows-length i (omega arith), row-length s (f i) d, suc-mul i (d * s))

-- ---- the matrix in words, row by row into bytes

-- the matrix of d rows and columns of cells of s bits that words hold
abbrev pub words_grid : ℕ → ℕ → List ℕ → Grid
words_grid d s w = grid d (λ i j. get_or w j 0 / 2 ^ place_in d s i % 2 ^ s)

-- the bytes of its first i rows
abbrev pub row_bytes : ℕ → ℕ → List ℕ → ℕ → List ℕ
row_bytes d s w i = pack high_first state_room (bits_of_matrix s (take i (words_grid d s w)))

pub image-none : (d s : ℕ) (w : List ℕ) → replicate state_room 0 ≡ row_bytes d s w 0
unfolding bits_of_matrix flat_map
image-none d s w = sym (pack-none high_first state_room)

-- they fill k nibbles
module _ (d s : ℕ) (w : List ℕ) (i k : ℕ) (h : i < d) (ek : 4 * k ≡ i * (d * s)) (room : k ≤ 72) (out : List ℕ) (e : out ≡ row_bytes d s w i) where
  pub image-kept : out ≡ pack high_first state_room (unpack high_first (4 * k) out)
  image-kept = kept_back out _ k room (rows-length d s _ i (omega arith) ∙ sym ek) e

  pub image-more : (next : List ℕ) (bit : ℕ) → bit ≡ place_in d s i
      → next ≡ pack high_first state_room (unpack high_first (4 * k) out ++ flat_map (bits_of high_first s) (tab d (λ j. get_or w j 0 / 2 ^ bit % 2 ^ s)))
      → next ≡ row_bytes d s w (i + 1)
  image-more next bit eb en =
      en
      ∙ ap₂ (λ (Z : List Bool) (b : ℕ). pack high_first state_room (Z ++ flat_map (bits_of high_first s) (tab d (λ j. get_or w j 0 / 2 ^ b % 2 ^ s))))
      (read_back out _ k room (rows-length d s _ i (omega arith) ∙ sym ek) e) eb
      ∙ ap (pack high_first state_room) (sym (rows_more d s _ i h))

pub image-size : (d s : ℕ) (w : List ℕ) (i : ℕ) (out : List ℕ) → out ≡ row_bytes d s w i → length out ≡ state_room
image-size d s w i out e = ap length e ∙ length-pack high_first state_room _

-- as the matrix of a variant
pub image-rows : (v d s : ℕ) → d ≡ (photon_of v).d → s ≡ (photon_of v).s → (w : List ℕ) (i rows : ℕ) → i ≡ rows → (r : List ℕ) → r ≡ row_bytes d s w i
    → r ≡ pack high_first state_room (bits_of_matrix (photon_of v).s (take rows (matrix_in v w)))
image-rows v d s ed es w i rows ei r e = e ∙ ap (row_bytes d s w) ei ∙ ap₂ (λ (a b : ℕ). row_bytes a b w rows) ed es

-- ---- sizes by a variant's number

-- the rows of its matrix, and those that hold the bits that are given out
abbrev pub side_of : ℕ → ℕ
side_of v = get_or (0 ∷ 5 ∷ 6 ∷ 7 ∷ 8 ∷ 6 ∷ []) v 0

abbrev pub front_of : ℕ → ℕ
front_of v = get_or (0 ∷ 1 ∷ 1 ∷ 2 ∷ 1 ∷ 1 ∷ []) v 0

pub side-of : (v : ℕ) → 1 ≤ v → v ≤ 5 → side_of v ≡ (photon_of v).d
unfolding photon_of variant
side-of = one-to-five (λ v. side_of v ≡ (photon_of v).d) refl refl refl refl refl

-- what the calls for the variants ask
pub sides : (v : ℕ) → 1 ≤ v → v ≤ 5 → (rows : ℕ) → rows ≤ side_of v → (1 ≤ v) × (v ≤ 5) × (rows ≤ (photon_of v).d)
sides v low high rows fits = (low, high, omega (arith, side-of v low high))

abbrev FrontFits : ℕ → Type 0
FrontFits v = (front_of v ≤ (photon_of v).d) × (output_bits (variant v) ≤ front_of v * ((photon_of v).d * (photon_of v).s)) × ((photon_of v).d * ((photon_of v).d * (photon_of v).s) ≤ state_room * 8)

front_fits : (v : ℕ) → 1 ≤ v → v ≤ 5 → FrontFits v
unfolding photon_of variant
front_fits = one-to-five FrontFits (lit≤ tt, lit≤ tt, lit≤ tt) (lit≤ tt, lit≤ tt, lit≤ tt) (lit≤ tt, lit≤ tt, lit≤ tt) (lit≤ tt, lit≤ tt, lit≤ tt) (lit≤ tt, lit≤ tt, lit≤ tt)

-- ---- the whole state, and its front

-- the first m bits of packed bits
take-packed : (m : ℕ) (Z : List Bool) → m ≤ length Z → length Z ≤ state_room * 8 → take m (bits_in high_first (pack high_first state_room Z)) ≡ take m Z
take-packed m Z h room = ap (take m) (packed-bits high_first state_room Z room) ∙ take-append-le m Z _ h

-- by a variant's number as the code has it: v is k
module _ (k : ℕ) (from : 1 ≤ k) (to : k ≤ 5) (v : ℕ) (is : v ≡ k) (w r : List ℕ) where
  low : 1 ≤ v
  low = omega arith

  high : v ≤ 5
  high = omega arith

  pub all-rows : r ≡ pack high_first state_room (bits_of_matrix (photon_of k).s (take (side_of k) (matrix_in k w))) → r ≡ packed_state (variant v) (state_of_columns (photon_of v) w)
  unfolding state_of_columns
  all-rows e =
      rw (photon-variant v low high)
      (rw (← is, side-of v low high) at e
      ∙ ap (λ (g : Grid). pack high_first state_room (bits_of_matrix (photon_of v).s g)) (take_all (photon_of v).d (matrix_in v w) (rw length-tab (le_refl (photon_of v).d))))

  pub front-rows : r ≡ pack high_first state_room (bits_of_matrix (photon_of k).s (take (front_of k) (matrix_in k w)))
      → take (output_bits (variant v)) (bits_in high_first r) ≡ take (output_bits (variant v)) (bits_in high_first (packed_state (variant v) (state_of_columns (photon_of v) w)))
  unfolding state_of_columns bits_of_matrix
  front-rows e =
      let d : ℕ = (photon_of v).d in
      let s : ℕ = (photon_of v).s in
      let g : Grid = matrix_in v w in
      let m : ℕ = output_bits (variant v) in
      let X : List Bool = bits_of_matrix s (take (front_of v) g) in
      let Y : List Bool = bits_of_matrix s (drop (front_of v) g) in
      let fits = front_fits v low high in
      let all : bits_of_matrix s g ≡ X ++ Y =
      ap (bits_of_matrix s) (sym (take-append-drop (front_of v) g)) ∙ flat_map-append (λ row. flat_map (bits_of high_first s) row) (take (front_of v) g) (drop (front_of v) g) in
      let l_x : length X ≡ front_of v * (d * s) = rows-length d s _ (front_of v) fits.0 in
      let l_x_y : length (X ++ Y) ≡ d * (d * s) = ap length (sym all) ∙ length-bits_of_matrix d s g (square-grid d _) in
      let more : length (X ++ Y) ≡ length X + length Y = length-append X Y in
      let enough : m ≤ length X = omega (arith, fits.1) in
      let room : length (X ++ Y) ≤ state_room * 8 = omega (arith, fits.2) in
      rw (photon-variant v low high, rw (← is) at e, all, take-packed m X enough (omega arith), take-packed m (X ++ Y) (omega arith) room, take-append-le m X Y enough)
