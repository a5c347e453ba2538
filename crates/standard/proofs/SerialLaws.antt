-- The serial matrix step is undone by a serial step on the column read from the bottom up; so are its iterates, on each column of a grid.
-- Assumes nothing.
use mathlib.Core.Path.{◌≡◌, refl, sym, ap, ◌∙◌}
use mathlib.Core.List.{List, [], ◌∷◌, map, map-map, reverse, reverse-append, reverse-reverse}
use Prim.Native.Nat.{ℕ, zero, suc, ◌-◌, ◌*◌, ◌^◌, ◌≤◌, ◌<◌}
use native.Mathlib.Nat.{suc_inj}
use native.Mathlib.Omega.{arith}
use lib.ListN.{length, get_or, length-append, length-reverse, length-map}
use Rattle.standard.specs.Rounds.{opposite, iterate}
use Rattle.standard.specs.declared.Direction.{Direction}
use Rattle.standard.specs.declared.Direction.TheVariants.{Forward, Backward}
use Rattle.standard.specs.Grid.{Grid, tab, at, transpose}
use Rattle.standard.specs.ForCode.{Square, Small}
use Rattle.standard.specs.Field.{mul, dot}
use Rattle.standard.specs.Photon.{serial, columns, mix_columns, unmix_columns}
use Rattle.standard.proofs.Xor.{xor-twice}
use Rattle.standard.proofs.Tab.{reverse-tab, get_d_reverse, at-grid, grid-cong, grid-is, square-grid, small-grid}
use Rattle.standard.proofs.Undo.{All, all_append, all-reverse, all_of, all-at, get_d_map, map-undo, iterate-keeps, iterate-undo}
use Rattle.standard.proofs.FieldLaws.{mul-lt, mul-xor, dot-lt, dot-scaled, dot-reverse, Scaled}

-- a column: d cells below top
pub record Column (d top : ℕ) (c : List ℕ) : Type 0 where
  pub size : length c ≡ d
  pub cells : All (λ x. x < top) c

column-reverse : (d top : ℕ) (c : List ℕ) → Column d top c → Column d top (reverse c)
column-reverse d top c k = record { size = length-reverse c ∙ k.size; cells = all-reverse (λ x. x < top) c k.cells }

-- What the coefficients `unz` of the inverse step owe to the coefficients z: the product by the first undoes the product by z's first,
-- and the others, read backwards, are z's others times that first one.
pub record Undoes (d top poly : ℕ) (z unz : List ℕ) : Type 0 where
  pub z₀ : ℕ
  pub zs : List ℕ
  pub u₀ : ℕ
  pub us : List ℕ
  pub z-is : z ≡ z₀ ∷ zs
  pub unz-is : unz ≡ u₀ ∷ us
  pub size : suc (length us) ≡ d
  pub first : (x : ℕ) → x < top → mul top poly u₀ (mul top poly z₀ x) ≡ x
  pub others : Scaled top poly u₀ zs (reverse us)

-- the step on the column read from the bottom up
abbrev pub upward : (List ℕ → List ℕ) → List ℕ → List ℕ
upward f c = reverse (f (reverse c))

-- ---- one column

module _ (d s poly : ℕ) (low : 2 ^ s ≤ poly) (high : poly < 2 ^ s * 2) where
  pub serial-column : (z : List ℕ) → 0 < d → (c : List ℕ) → Column d (2 ^ s) c → Column d (2 ^ s) (serial (2 ^ s) poly z c)
  unfolding serial
  serial-column z h [] k = absurd (omega (arith, k.size))
  serial-column z h (x ∷ xs) k =
      record {
        size = length-append xs _ ∙ omega (arith, k.size);
        cells = all_append (λ y. y < 2 ^ s) xs _ k.cells.1 (dot-lt s poly low high z (x ∷ xs) k.cells, tt);
      }

  upward-column : (f : List ℕ → List ℕ) → ((c : List ℕ) → Column d (2 ^ s) c → Column d (2 ^ s) (f c))
      → (c : List ℕ) → Column d (2 ^ s) c → Column d (2 ^ s) (upward f c)
  upward-column f keeps c k = column-reverse d (2 ^ s) (f (reverse c)) (keeps (reverse c) (column-reverse d (2 ^ s) c k))

  -- the cell that left at the top, found again
  found : (z₀ u₀ : ℕ) (zs us : List ℕ) → ((x : ℕ) → x < 2 ^ s → mul (2 ^ s) poly u₀ (mul (2 ^ s) poly z₀ x) ≡ x) → Scaled (2 ^ s) poly u₀ zs (reverse us)
      → (x : ℕ) (xs : List ℕ) → length us ≡ length xs → x < 2 ^ s → All (λ y. y < 2 ^ s) xs
      → dot (2 ^ s) poly (u₀ ∷ us) (dot (2 ^ s) poly (z₀ ∷ zs) (x ∷ xs) ∷ reverse xs) ≡ x
  unfolding dot
  found z₀ u₀ zs us first others x xs e hx hxs =
      let small = mul-lt s poly low high z₀ x hx in
      let rest = dot-lt s poly low high zs xs hxs in
      rw (mul-xor s poly low high u₀ _ _ small rest, first x hx, dot-reverse (2 ^ s) poly us xs e, dot-scaled s poly low high u₀ zs (reverse us) xs others hxs, xor-twice)

  module _ (z unz : List ℕ) (u : Undoes d (2 ^ s) poly z unz) where
    upward-serial : (c : List ℕ) → Column d (2 ^ s) c → upward (serial (2 ^ s) poly unz) (serial (2 ^ s) poly z c) ≡ c
    unfolding serial
    upward-serial [] k = absurd (omega (arith, k.size, u.size))
    upward-serial (x ∷ xs) k =
        let v : ℕ = dot (2 ^ s) poly z (x ∷ xs) in
        let again = found u.z₀ u.u₀ u.zs u.us u.first u.others x xs (suc_inj (u.size ∙ sym k.size)) k.cells.0 k.cells.1 in
        rw (reverse-append xs (v ∷ []), reverse-append (reverse xs) (dot (2 ^ s) poly unz (v ∷ reverse xs) ∷ []), u.unz-is, u.z-is, reverse-reverse, again)

    -- the same read from the bottom up: here it is `unz` that goes first
    serial-upward : (c : List ℕ) → Column d (2 ^ s) c → serial (2 ^ s) poly unz (upward (serial (2 ^ s) poly z) c) ≡ c
    serial-upward c k =
        rw (← reverse-reverse (serial (2 ^ s) poly unz (upward (serial (2 ^ s) poly z) c)), upward-serial (reverse c) (column-reverse d (2 ^ s) c k), reverse-reverse)

iterate-upward : (n : ℕ) (f : List ℕ → List ℕ) (c : List ℕ) → reverse (iterate n f c) ≡ iterate n (upward f) (reverse c)
iterate-upward zero f c = refl
iterate-upward (suc n) f c = rw (iterate-upward n f (f c), reverse-reverse c)

upward-iterate : (n : ℕ) (f : List ℕ → List ℕ) (c : List ℕ) → upward (iterate n f) c ≡ iterate n (upward f) c
upward-iterate n f c = rw (iterate-upward n f (reverse c), reverse-reverse)

-- ---- each column of a grid

-- d rows of d cells below top
pub record Cells (d top : ℕ) (g : Grid) : Type 0 where
  pub square : Square d g
  pub small : Small d top g

transpose-cells : (d top : ℕ) (g : Grid) → Cells d top g → Cells d top (transpose d g)
unfolding transpose
transpose-cells d top g k = record { square = square-grid d _; small = small-grid d top _ (λ i j hi hj. k.small.cell j i hj hi) }

transpose-transpose : (d : ℕ) (g : Grid) → Square d g → transpose d (transpose d g) ≡ g
unfolding transpose
transpose-transpose d g q = grid-is d _ g q (λ i j hi hj. at-grid d (λ a b. at g b a) j i hj hi)

-- each row has a column's size
row-column : (d top : ℕ) (g : Grid) → Cells d top g → (i : ℕ) → i < d → Column d top (get_or g i [])
row-column d top g k i hi =
    let size : length (get_or g i []) ≡ d = k.square.cols i hi in
    record { size = size; cells = all_of (λ x. x < top) 0 (get_or g i []) (λ j hj. k.small.cell i j hi (rw size at hj)) }

module _ (d top : ℕ) (f : List ℕ → List ℕ) (keeps : (c : List ℕ) → Column d top c → Column d top (f c)) (g : Grid) (k : Cells d top g) where
  map-cells : Cells d top (map f g)
  map-cells =
      record {
        square = record { rows = length-map g f ∙ k.square.rows; cols = λ i hi. rw (row i hi) (column i hi).size };
        small = record { cell = λ i j hi hj. rw (row i hi) (all-at (λ x. x < top) 0 (f (get_or g i [])) (column i hi).cells j (rw (column i hi).size hj)) };
      }
    where
      row : (i : ℕ) → i < d → get_or (map f g) i [] ≡ f (get_or g i [])
      row i hi = get_d_map f g i [] [] (rw k.square.rows hi)

      column : (i : ℕ) → i < d → Column d top (f (get_or g i []))
      column i hi = keeps (get_or g i []) (row-column d top g k i hi)

-- ---- the rows in reverse: each column read from the bottom up

transpose-reverses : (d : ℕ) (g : Grid) → Square d g → transpose d (map reverse g) ≡ reverse (transpose d g)
unfolding transpose
transpose-reverses d g q =
    rw (reverse-tab d (λ i. tab d (λ j. at g j i)))
    (grid-cong d (λ i j. at (map reverse g) j i) (λ i j. at g j (d - 1 - i))
    (λ i j hi hj. rw (get_d_map reverse g j [] [] (rw q.rows hj), get_d_reverse (get_or g j []) i 0 (rw (q.cols j hj) hi), q.cols j hj)))

map-cong : (f f' : List ℕ → List ℕ) → ((c : List ℕ) → f c ≡ f' c) → (g : Grid) → map f g ≡ map f' g
map-cong f f' h [] = refl
map-cong f f' h (c ∷ g) = rw (h c, map-cong f f' h g)

module _ (d top : ℕ) (f : List ℕ → List ℕ) (keeps : (c : List ℕ) → Column d top c → Column d top (f c)) (g : Grid) (k : Cells d top g) where
  columns-cells : Cells d top (columns d f g)
  unfolding columns
  columns-cells = transpose-cells d top _ (map-cells d top f keeps (transpose d g) (transpose-cells d top g k))

  columns-undo : (f' : List ℕ → List ℕ) → ((c : List ℕ) → Column d top c → f' (f c) ≡ c) → columns d f' (columns d f g) ≡ g
  unfolding columns
  columns-undo f' undo =
      let t : Grid = transpose d g in
      let tk : Cells d top t = transpose-cells d top g k in
      let same = map-undo f f' [] t (λ i hi. undo (get_or t i []) (row-column d top t tk i (rw tk.square.rows at hi))) in
      rw (transpose-transpose d (map f t) (map-cells d top f keeps t tk).square, same) (transpose-transpose d g k.square)

  columns-reverse : reverse (columns d f (reverse g)) ≡ columns d (upward f) g
  unfolding columns
  columns-reverse =
      let t : Grid = transpose d g in
      let tk : Cells d top t = transpose-cells d top g k in
      let rk : Cells d top (map reverse t) = map-cells d top reverse (column-reverse d top) t tk in
      let turned : transpose d (reverse g) ≡ map reverse t =
      rw (← transpose-transpose d (map reverse t) rk.square, transpose-reverses d t tk.square, transpose-transpose d g k.square) in
      rw (turned, ← transpose-reverses d (map f (map reverse t)) (map-cells d top f keeps (map reverse t) rk).square, map-map f reverse t, map-map reverse (λ c. f (reverse c)) t)

-- ---- MixColumnsSerial and its inverse

-- the step of a round in either direction, and what it does d times to a column
abbrev pub mixing : ℕ → ℕ → ℕ → Direction → List ℕ → Grid → Grid
mixing top poly d Forward z g = mix_columns top poly d z g
mixing top poly d Backward z g = unmix_columns top poly d z g

abbrev step : ℕ → ℕ → Direction → List ℕ → List ℕ → List ℕ
step top poly Forward z = serial top poly z
step top poly Backward z = upward (serial top poly z)

module _ (d s poly : ℕ) (low : 2 ^ s ≤ poly) (high : poly < 2 ^ s * 2) (pos : 0 < d) where
  step-column : (w : Direction) (z c : List ℕ) → Column d (2 ^ s) c → Column d (2 ^ s) (step (2 ^ s) poly w z c)
  step-column Forward z = serial-column d s poly low high z pos
  step-column Backward z = upward-column d s poly low high (serial (2 ^ s) poly z) (serial-column d s poly low high z pos)

  step-undo : (w : Direction) (z unz : List ℕ) → Undoes d (2 ^ s) poly z unz
      → (c : List ℕ) → Column d (2 ^ s) c → step (2 ^ s) poly (opposite w) unz (step (2 ^ s) poly w z c) ≡ c
  step-undo Forward z unz u = upward-serial d s poly low high z unz u
  step-undo Backward z unz u = serial-upward d s poly low high z unz u

  mixing-is : (w : Direction) (z : List ℕ) (g : Grid) → Cells d (2 ^ s) g
      → mixing (2 ^ s) poly d w z g ≡ columns d (iterate d (step (2 ^ s) poly w z)) g
  unfolding mix_columns unmix_columns columns
  mixing-is Forward z g k = refl
  mixing-is Backward z g k =
      let f : List ℕ → List ℕ = iterate d (serial (2 ^ s) poly z) in
      rw (columns-reverse d (2 ^ s) f (iterate-keeps (Column d (2 ^ s)) (serial (2 ^ s) poly z) (step-column Forward z) d) g k)
      (ap (transpose d) (map-cong (upward f) _ (upward-iterate d (serial (2 ^ s) poly z)) (transpose d g)))

  module _ (w : Direction) (z : List ℕ) (g : Grid) (k : Cells d (2 ^ s) g) where
    abbrev steps : List ℕ → List ℕ
    steps = iterate d (step (2 ^ s) poly w z)

    keeps : (c : List ℕ) → Column d (2 ^ s) c → Column d (2 ^ s) (steps c)
    keeps = iterate-keeps (Column d (2 ^ s)) (step (2 ^ s) poly w z) (step-column w z) d

    pub mixing-cells : Cells d (2 ^ s) (mixing (2 ^ s) poly d w z g)
    mixing-cells = rw (mixing-is w z g k) (columns-cells d (2 ^ s) steps keeps g k)

    pub mixing-undo : (unz : List ℕ) → Undoes d (2 ^ s) poly z unz → mixing (2 ^ s) poly d (opposite w) unz (mixing (2 ^ s) poly d w z g) ≡ g
    mixing-undo unz u =
        let back : List ℕ → List ℕ = step (2 ^ s) poly (opposite w) unz in
        rw (mixing-is (opposite w) unz _ mixing-cells, mixing-is w z g k)
        (columns-undo d (2 ^ s) steps keeps g k (iterate d back)
        (iterate-undo (Column d (2 ^ s)) (step (2 ^ s) poly w z) (step-column w z) back (step-undo w z unz u) d))
