-- The block step on words: what is added to the columns of a state is the block xored in, and the rounds on words are the permutation. And the words of an image.
-- Assumes nothing.
use mathlib.Core.Path.{◌≡◌, refl, sym, ap, ap₂, ◌∙◌, subst}
use mathlib.Core.Bool.{Bool}
use mathlib.Core.List.{List}
use Prim.Native.Nat.{ℕ, zero, suc, ◌+◌, ◌-◌, ◌*◌, ◌/◌, ◌%◌, ◌^◌, ◌≤◌, ◌<◌}
use native.Mathlib.Nat.{mul_comm, zero-mul, zero-add, one-mul, add-mul, suc-mul, mul-le-mul_left, mul-le-mul_right, mul_assoc}
use native.Mathlib.Omega.{arith}
use lib.Bits.{bit_xor}
use lib.Dec.{lit≤}
use lib.ListN.{length, get_or, take, drop, replicate, length-drop}
use lib.Seq.{length-take-le, take_all, drop-drop}
use Rattle.standard.specs.Bits.{high_first, bits_in, unpack, value_of, xor_into}
use Rattle.standard.proofs.Turned.{turned-high}
use Rattle.standard.specs.declared.Direction.TheVariants.{Forward}
use Rattle.standard.specs.Grid.{at}
use Rattle.standard.specs.Photon.{matrix_of, bits_of_matrix, photon_rounds, photon_permutation}
use Rattle.standard.specs.Sponge.{permutation, sponge_step}
use Rattle.standard.specs.Families.{state_in}
use Rattle.standard.specs.Chain.{step}
use Rattle.standard.specs.Variants.{variant}
use Rattle.standard.proofs.Tests.{one-to-five}
use Rattle.standard.proofs.Tab.{at-grid, grid-cong, grid-self, square-grid}
use Rattle.standard.proofs.BitLaws.{length-bits_in, bits_in-drop}
use Rattle.standard.proofs.MatrixLaws.{length-bits_of_matrix, matrix_of-square, bits-matrix}
use Rattle.standard.proofs.PhotonLaws.{State}
use Rattle.photon_tables.specs.Columns.{cell_of, place_of}
use Rattle.photon_tables.specs.Tables.{Pairs}
use Rattle.photon_tables.proofs.LookUps.{words-state}
use Rattle.photon.specs.Parameters.{photon_of}
use Rattle.photon.specs.Words.{matrix_in, state_of_columns, TableFor}
use Rattle.photon.proofs.ParametersOf.{photon-variant, sound}
use Rattle.photon.proofs.WordPlaces.{rising-places, four-bits}
use Rattle.octets.specs.Cells.{cell_in}
use Rattle.standard.specs.Layout.{state_room}
use Rattle.photon.proofs.MatrixImage.{matrix-front}
use Rattle.photon.proofs.CellsIntoWords.{Taken, taken_none, taken-row, columns-are, matrix-xor, block-cell}

module _ (v : ℕ) (low : 1 ≤ v) (high : v ≤ 5) where
  -- the first q cells of a block that begins at the bit `from` of the bytes are added, and the rounds run
  pub block-stepped : (bytes w x y : List ℕ) (c from q : ℕ) → from ≡ c * (photon_of v).s → from + q * (photon_of v).s ≤ 8 * length bytes → (variant v).r ≡ q * (photon_of v).s
      → Taken (place_of (photon_of v)) (photon_of v).s (photon_of v).d bytes c q w x
      → matrix_in v y ≡ photon_rounds (photon_of v) Forward (matrix_in v x)
      → state_of_columns (photon_of v) y ≡ step (variant v) (state_of_columns (photon_of v) w) (take (variant v).r (drop from (bits_in high_first bytes)))
  unfolding state_of_columns step sponge_step permutation photon_permutation
  block-stepped bytes w x y c from q begins room rate u e =
      let p = photon_of v in
      let k : State p (matrix_in v w) = words-state p (sound v low high) (place_of p) (rising-places v low high) w in
      let B : List Bool = take (q * p.s) (drop from (bits_in high_first bytes)) in
      let S : List Bool = bits_of_matrix p.s (matrix_in v w) in
      let taken : matrix_of p.d p.s (xor_into S B) ≡ matrix_in v x =
      sym (grid-self p.d (matrix_of p.d p.s (xor_into S B)) (matrix_of-square p.d p.s (xor_into S B)))
      ∙ grid-cong p.d (at (matrix_of p.d p.s (xor_into S B))) (λ i j. cell_of (place_of p) p.s i (get_or x j 0))
      (λ i j hi hj. matrix-xor p.d p.s (matrix_in v w) k.square k.small B i j hi hj
      ∙ ap₂ bit_xor (at-grid p.d (λ a b. cell_of (place_of p) p.s a (get_or w b 0)) i j hi hj) (block-cell bytes p.s c from q begins room (i * p.d + j) (omega (arith, (sound v low high).nibble)))
      ∙ sym (u.cell i j hi hj)) in
      rw (photon-variant v low high, turned-high, rate, taken, e)

first-place : (v : ℕ) → 1 ≤ v → v ≤ 5 → 0 ≡ place_of (photon_of v) 0
unfolding photon_of variant
first-place = one-to-five (λ v. 0 ≡ place_of (photon_of v) 0) refl refl refl refl refl

-- ---- cells of four bits

module _ (v : ℕ) (low : 1 ≤ v) (high : v ≤ 4) (bytes : List ℕ) (m : ℕ) where
  s4 : 4 ≡ (photon_of v).s
  s4 = sym (four-bits v low high)

  up : v ≤ 5
  up = omega arith

  abbrev TakenTo : ℕ → List ℕ → List ℕ → Type 0
  TakenTo e w x = Taken (place_of (photon_of v)) (photon_of v).s (photon_of v).d bytes m e w x

  -- the first n cells are those of row 0
  pub row-taken : (c n : ℕ) → c ≡ m → n ≤ (photon_of v).d → (w x : List ℕ)
      → ((j : ℕ) → j < n → get_or x j 0 ≡ bit_xor (get_or w j 0) (cell_in 4 bytes (c + j) * 2 ^ 0))
      → ((j : ℕ) → n ≤ j → get_or x j 0 ≡ get_or w j 0)
      → TakenTo (0 * (photon_of v).d + n) w x
  row-taken c n e hn w x new old =
      let p = photon_of v in
      let zero_row : 0 ≡ 0 * p.d = sym (zero-mul p.d) in
      taken-row (place_of p) p.s p.d (rising-places v low up) bytes m 0 n 0 (sound v low up).pos hn (first-place v low up) w w x
      (subst (λ (k : ℕ). TakenTo k w w) zero_row (taken_none (place_of p) p.s p.d bytes m w))
      (λ j h. new j h ∙ ap₂ (λ (k s : ℕ). bit_xor (get_or w j 0) (cell_in s bytes k * 2 ^ 0)) (here j) s4)
      old
    where
      here : (j : ℕ) → c + j ≡ m + (0 * (photon_of v).d + j)
      here j = omega (arith, zero-mul (photon_of v).d)

  pub nibbles-stepped : (q : ℕ) → (variant v).r ≡ 4 * q → 4 * m + (variant v).r ≤ 8 * length bytes → (w x y : List ℕ) → TakenTo q w x
      → matrix_in v y ≡ photon_rounds (photon_of v) Forward (matrix_in v x)
      → state_of_columns (photon_of v) y ≡ step (variant v) (state_of_columns (photon_of v) w) (take (variant v).r (drop (4 * m) (bits_in high_first bytes)))
  nibbles-stepped q rate room w x y u e =
      block-stepped v low up bytes w x y m (4 * m) q (mul_comm 4 m ∙ ap (λ (s : ℕ). m * s) s4) (rw (← s4) (omega arith)) (rate ∙ mul_comm 4 q ∙ ap (λ (s : ℕ). q * s) s4) u e

-- ---- a block taken in, as the code does it for each variant

-- n cells of s bits, from the cell c of the bytes on, are added to the words w from the bit `bit` on
abbrev Added : ℕ → List ℕ → ℕ → ℕ → ℕ → List ℕ → List ℕ → Type 0
Added s bytes c n bit w x =
    ((j : ℕ) → j < n → get_or x j 0 ≡ bit_xor (get_or w j 0) (cell_in s bytes (c + j) * 2 ^ bit)) × ((j : ℕ) → n ≤ j → get_or x j 0 ≡ get_or w j 0)

-- the bytes from byte k on, as the code cuts them off
abbrev pub Past : ℕ → List ℕ → List ℕ
Past k bytes = take (length bytes - k) (drop k bytes)

pub past-is : (k : ℕ) (bytes : List ℕ) → Past k bytes ≡ drop k bytes
past-is k bytes = take_all (length bytes - k) (drop k bytes) (omega (arith, length-drop k bytes))

pub past-size : (k : ℕ) (bytes : List ℕ) → length (Past k bytes) ≡ length bytes - k
past-size k bytes = ap length (past-is k bytes) ∙ length-drop k bytes

-- which are those after u cells
cell-past : (s : ℕ) (bytes : List ℕ) (k u : ℕ) → u * s ≡ 8 * k → (n : ℕ) → cell_in s (Past k bytes) n ≡ cell_in s bytes (u + n)
unfolding cell_in
cell-past s bytes k u e n =
    let on : 8 * k + n * s ≡ (u + n) * s = omega (arith, add-mul u n s) in
    ap (λ (Z : List Bool). value_of high_first (take s Z))
    (rw (past-is k bytes, ← bits_in-drop high_first k bytes, drop-drop (n * s) (8 * k) (bits_in high_first bytes), on))

added-past : (s : ℕ) (bytes : List ℕ) (k u : ℕ) → u * s ≡ 8 * k → (c n bit : ℕ) (w x : List ℕ) → Added s (Past k bytes) c n bit w x → Added s bytes (u + c) n bit w x
added-past s bytes k u e c n bit w x added = (
  λ j h.
      let on : u + (c + j) ≡ u + c + j = omega arith in
      added.0 j h ∙ ap (λ (y : ℕ). bit_xor (get_or w j 0) (y * 2 ^ bit)) (cell-past s bytes k u e (c + j) ∙ ap (cell_in s bytes) on),
  added.1,
)

-- the rounds of the variant k lead from the words x to y
abbrev Ran : ℕ → List ℕ → List ℕ → Type 0
Ran k x y = matrix_in k y ≡ photon_rounds (photon_of k) Forward (matrix_in k x)

-- the step of a block from the nibble m of the bytes on leads from the words w to y
abbrev Stepped : ℕ → List ℕ → ℕ → List ℕ → List ℕ → Type 0
Stepped v bytes m w y =
    state_of_columns (photon_of v) y ≡ step (variant v) (state_of_columns (photon_of v) w) (take (variant v).r (drop (4 * m) (bits_in high_first bytes)))

-- a row of the code: the variant k has d columns of cells of four bits, and blocks of q cells
pub record Row (k d q : ℕ) : Type 0 where
  pub low : 1 ≤ k
  pub high : k ≤ 4
  pub size : d ≡ (photon_of k).d
  pub rate : (variant k).r ≡ 4 * q

pub row1 : Row 1 5 5
unfolding photon_of variant
row1 = record { low = lit≤ tt; high = lit≤ tt; size = refl; rate = refl }

pub row2 : Row 2 6 4
unfolding photon_of variant
row2 = record { low = lit≤ tt; high = lit≤ tt; size = refl; rate = refl }

pub row3 : Row 3 7 9
unfolding photon_of variant
row3 = record { low = lit≤ tt; high = lit≤ tt; size = refl; rate = refl }

pub row4 : Row 4 8 8
unfolding photon_of variant
row4 = record { low = lit≤ tt; high = lit≤ tt; size = refl; rate = refl }

-- what is asked of the block and of the table for v, said of k
module _ {k d q : ℕ} (R : Row k d q) {v : ℕ} (is : v ≡ k) where
  pub row_block : (m n : ℕ) → 4 * m + (variant v).r ≤ 8 * n → 4 * m + 4 * q ≤ 8 * n
  row_block m n room = omega (arith, R.rate, rw is at room)

  pub row-even : (m e : ℕ) → q ≡ 2 * e → ((variant v).r % 8 ≡ 0 → m % 2 ≡ 0) → 2 * (m / 2) + 0 ≡ m
  row-even m e two even =
      let whole : (variant v).r % 8 ≡ 0 = rw is (omega (arith, R.rate)) in
      omega (arith, even whole)

  pub row-table : (table : List ℕ) → TableFor v table → record { le_v : (1 ≤ k) × (k ≤ 4); pairs : Pairs (photon_of k) table }
  row-table table T = let four : v ≤ 4 = omega (arith, R.high) in record { le_v = (R.low, R.high); pairs = rw is at (T.pairs four) }

  module _ (bytes : List ℕ) (m : ℕ) (room : 4 * m + (variant v).r ≤ 8 * length bytes) {w s : List ℕ} (copy : s ≡ w) where
    cells-stepped : (x y : List ℕ) → TakenTo k R.low R.high bytes m q s x → Ran k x y → Stepped v bytes m w y
    cells-stepped x y u run = rw (is, ← copy) (nibbles-stepped k R.low R.high bytes m q R.rate (rw is at room) s x y u run)

    -- a block in row 0
    pub one-row : (b c : ℕ) → 2 * b + c ≡ m → q ≤ d → (x y : List ℕ) → Added 4 (Past b bytes) c q 0 s x → Ran k x y → Stepped v bytes m w y
    one-row b c e fits x y block run =
        let added = added-past 4 bytes b (2 * b) (omega arith) c q 0 s x block in
        let whole : 0 * (photon_of k).d + q ≡ q = omega (arith, zero-mul (photon_of k).d) in
        cells-stepped x y
        (subst (λ (n : ℕ). TakenTo k R.low R.high bytes m n s x) whole
        (row-taken k R.low R.high bytes m (2 * b + c) q e (omega (arith, R.size)) s x added.0 added.1)) run

    -- a block that ends in row 1, with n cells there, from the bit `bit` on
    pub two-rows : (b c c₂ n bit : ℕ) → 2 * b + c ≡ m → c₂ ≡ c + d → q ≡ d + n → n ≤ d → 1 < d → bit ≡ place_of (photon_of k) 1
        → (x y z : List ℕ) → Added 4 (Past b bytes) c d 0 s x → Added 4 (Past b bytes) c₂ n bit x y → Ran k y z → Stepped v bytes m w z
    two-rows b c c₂ n bit e e₂ eq fits some place x y z block block₂ run =
        let added = added-past 4 bytes b (2 * b) (omega arith) c d 0 s x block in
        let added₂ = added-past 4 bytes b (2 * b) (omega arith) c₂ n bit x y block₂ in
        let p = photon_of k in
        let size : 1 * p.d + n ≡ q = omega (arith, R.size, one-mul p.d) in
        let first : 0 * p.d + d ≡ 1 * p.d = omega (arith, R.size, one-mul p.d, zero-mul p.d) in
        cells-stepped y z
        (subst (λ (c : ℕ). TakenTo k R.low R.high bytes m c s y) size
        (taken-row (place_of p) p.s p.d (rising-places k R.low (omega (arith, R.high))) bytes m 1 n bit (omega (arith, R.size)) (omega (arith, R.size)) place s x y
        (subst (λ (c : ℕ). TakenTo k R.low R.high bytes m c s x) first (row-taken k R.low R.high bytes m (2 * b + c) d e (omega (arith, R.size)) s x added.0 added.1))
        (λ j h. added₂.0 j h ∙ ap₂ (λ (c b : ℕ). bit_xor (get_or x j 0) (cell_in b bytes c * 2 ^ bit)) (here j) (sym (four-bits k R.low R.high)))
        added₂.1)) run
      where
        here : (j : ℕ) → 2 * b + c₂ + j ≡ m + (1 * (photon_of k).d + j)
        here j = omega (arith, R.size, one-mul (photon_of k).d)

-- cells of eight bits: the variant 5, with blocks of four
pub row8-block : (v m n : ℕ) → v ≡ 5 → 4 * m + (variant v).r ≤ 8 * n → ((variant v).r % 8 ≡ 0 → m % 2 ≡ 0) → (4 * m + 32 ≤ 8 * n) × (m % 2 ≡ 0)
unfolding variant
row8-block v m n is room even = (rw is at room, rw is at even refl)

pub one-row8 : (v : ℕ) → v ≡ 5 → (bytes : List ℕ) (m : ℕ) → 4 * m + (variant v).r ≤ 8 * length bytes → ((variant v).r % 8 ≡ 0 → m % 2 ≡ 0) → {w s : List ℕ} → s ≡ w → (x y : List ℕ)
    → Added 8 (Past (m / 2) bytes) 0 4 0 s x → Ran 5 x y → Stepped v bytes m w y
unfolding photon_of variant
one-row8 v is bytes m room even {w} {s} copy x y block run =
    let added = added-past 8 bytes (m / 2) (m / 2) (mul_comm (m / 2) 8) 0 4 0 s x block in
    let asked = row8-block v m (length bytes) is room even in
    rw (is, ← copy)
    (block-stepped 5 (lit≤ tt) (lit≤ tt) bytes s x y (m / 2) (4 * m) 4 (omega (arith, asked.1)) asked.0 refl
    (taken-row (place_of (photon_of 5)) 8 6 (rising-places 5 (lit≤ tt) (lit≤ tt)) bytes (m / 2) 0 4 0 (lit≤ tt) (lit≤ tt) refl s s x
    (taken_none (place_of (photon_of 5)) 8 6 bytes (m / 2) s)
    (λ j h. let on : m / 2 + 0 + j ≡ m / 2 + (0 * 6 + j) = omega arith in added.0 j h ∙ ap (λ (c : ℕ). bit_xor (get_or s j 0) (cell_in 8 bytes c * 2 ^ 0)) on)
    added.1) run)

-- ---- the columns of an image, row by row

pub row_room : (i d : ℕ) → i < d → d ≤ 8 → i * d + d ≤ 64
row_room i d h l = omega (arith, mul-le-mul_right d h, suc-mul i d, mul-le-mul_left d l)

-- the cells of the first i rows are added
abbrev pub Rows : ℕ → List ℕ → ℕ → List ℕ → List ℕ → Type 0
Rows v bytes i w x = Taken (place_of (photon_of v)) (photon_of v).s (photon_of v).d bytes 0 (i * (photon_of v).d) w x

pub none-at : (n k : ℕ) → ◌≡◌ {A = ℕ} (get_or (replicate n 0) k 0) 0
none-at zero k = refl
none-at (suc n) zero = refl
none-at (suc n) (suc k) = none-at n k

-- a matrix has five to eight rows, and one of cells of eight bits has six
abbrev Shape : ℕ → Type 0
Shape v = (5 ≤ (photon_of v).d) × ((photon_of v).d ≤ 8) × ((photon_of v).s ≡ 8 → (photon_of v).d ≡ 6)

shapes : (v : ℕ) → 1 ≤ v → v ≤ 5 → Shape v
unfolding photon_of variant
shapes = one-to-five Shape (lit≤ tt, lit≤ tt, λ e. absurd (omega arith)) (lit≤ tt, lit≤ tt, λ e. absurd (omega arith)) (lit≤ tt, lit≤ tt, λ e. absurd (omega arith)) (lit≤ tt, lit≤ tt, λ e. absurd (omega arith)) (lit≤ tt, lit≤ tt, λ e. refl)

pub shape-of : (v d s : ℕ) → 1 ≤ v → v ≤ 5 → d ≡ (photon_of v).d → s ≡ (photon_of v).s → (5 ≤ d) × (d ≤ 8) × (s ≡ 8 → d ≡ 6)
shape-of v d s low high ed es = rw (ed, es) (shapes v low high)

-- it fits the bytes of a state
state-rooms : (v : ℕ) → 1 ≤ v → v ≤ 5 → (photon_of v).s * ((photon_of v).d * (photon_of v).d) ≤ 288
unfolding photon_of variant
state-rooms = one-to-five (λ v. (photon_of v).s * ((photon_of v).d * (photon_of v).d) ≤ 288) (lit≤ tt) (lit≤ tt) (lit≤ tt) (lit≤ tt) (lit≤ tt)

-- and so do the cells of its first rows
pub row-room : (v d s : ℕ) → 1 ≤ v → v ≤ 5 → d ≡ (photon_of v).d → s ≡ (photon_of v).s → (i : ℕ) → i < d → s * (i * d + d) ≤ 288
row-room v d s low high ed es i h =
    let next : i + 1 ≤ d = omega arith in
    let rows : i * d + d ≤ d * d = omega (arith, mul-le-mul_right d next, add-mul i 1 d, one-mul d) in
    omega (arith, mul-le-mul_left s rows, rw (← ed, ← es) at (state-rooms v low high))

module _ (v : ℕ) (low : 1 ≤ v) (high : v ≤ 5) (bytes : List ℕ) where
  pub rows_none : (w : List ℕ) → Rows v bytes 0 w w
  rows_none w = subst (λ (k : ℕ). Taken (place_of (photon_of v)) (photon_of v).s (photon_of v).d bytes 0 k w w) (sym (zero-mul (photon_of v).d)) (taken_none (place_of (photon_of v)) (photon_of v).s (photon_of v).d bytes 0 w)

  pub rows_more : (i bit from : ℕ) → i < (photon_of v).d → bit ≡ place_of (photon_of v) i → from ≡ i * (photon_of v).d → (w x y : List ℕ) → Rows v bytes i w x
      → ((j : ℕ) → j < (photon_of v).d → get_or y j 0 ≡ bit_xor (get_or x j 0) (cell_in (photon_of v).s bytes (from + j) * 2 ^ bit))
      → ((j : ℕ) → (photon_of v).d ≤ j → get_or y j 0 ≡ get_or x j 0)
      → Rows v bytes (i + 1) w y
  rows_more i bit from hi eb ef w x y u new old =
      let p = photon_of v in
      let next : i * p.d + p.d ≡ (i + 1) * p.d = omega (arith, add-mul i 1 p.d, one-mul p.d) in
      subst (λ (k : ℕ). Taken (place_of p) p.s p.d bytes 0 k w y) next
      (taken-row (place_of p) p.s p.d (rising-places v low high) bytes 0 i p.d bit hi (omega arith) eb w x y u
      (λ j h. new j h ∙ ap (λ (k : ℕ). bit_xor (get_or x j 0) (cell_in p.s bytes k * 2 ^ bit)) (ap (λ (k : ℕ). k + j) ef ∙ sym (zero-add (i * p.d + j))))
      old)

  pub rows_all : (w x : List ℕ) → ((j : ℕ) → get_or w j 0 ≡ 0) → (i : ℕ) → i ≡ (photon_of v).d → Rows v bytes i w x
      → matrix_in v x ≡ matrix_of (photon_of v).d (photon_of v).s (bits_in high_first bytes)
  rows_all w x none i e u = columns-are (place_of (photon_of v)) (photon_of v).s (photon_of v).d (rising-places v low high) bytes w x none (rw e at u)

-- ---- the state of the words that are made from bytes

state-size : (v : ℕ) → 1 ≤ v → v ≤ 5 → (variant v).t ≡ (photon_of v).d * ((photon_of v).d * (photon_of v).s)
unfolding photon_of variant
state-size = one-to-five (λ v. (variant v).t ≡ (photon_of v).d * ((photon_of v).d * (photon_of v).s)) refl refl refl refl refl

state-most : (v : ℕ) → 1 ≤ v → v ≤ 5 → (variant v).t ≤ 288
unfolding variant
state-most = one-to-five (λ n. (variant n).t ≤ 288) (lit≤ tt) (lit≤ tt) (lit≤ tt) (lit≤ tt) (lit≤ tt)

pub columns-hold : (k : ℕ) → 1 ≤ k → k ≤ 5 → (v : ℕ) → v ≡ k → (bytes r : List ℕ) → length bytes ≡ state_room
    → matrix_in k r ≡ matrix_of (photon_of k).d (photon_of k).s (bits_in high_first bytes) → state_of_columns (photon_of v) r ≡ state_in (variant v) bytes
unfolding state_of_columns state_in unpack
columns-hold k low high v ev bytes r l e =
    let p = photon_of k in
    let t : ℕ = (variant k).t in
    let size : length (take t (bits_in high_first bytes)) ≡ p.d * (p.d * p.s) =
    length-take-le t (bits_in high_first bytes) (omega (arith, length-bits_in high_first bytes, state-most k low high)) ∙ state-size k low high in
    rw (ev, photon-variant k low high, e)
    (ap (bits_of_matrix p.s) (sym (matrix-front p.d p.s t (bits_in high_first bytes) (omega (arith, state-size k low high, mul_assoc p.d p.d p.s))))
    ∙ bits-matrix p.d p.s (take t (bits_in high_first bytes)) size)

-- words hold as many bits as the state has
pub columns-length : (v : ℕ) → 1 ≤ v → v ≤ 5 → (w : List ℕ) → length (state_of_columns (photon_of v) w) ≡ (variant v).t
unfolding state_of_columns
columns-length v low high w =
    length-bits_of_matrix (photon_of v).d (photon_of v).s (matrix_in v w) (square-grid (photon_of v).d _) ∙ sym (state-size v low high)
