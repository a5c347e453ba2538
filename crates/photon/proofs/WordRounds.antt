-- A round on words by look-ups, as the code sums and joins, and one round more of twelve.
-- Assumes nothing.
use mathlib.Core.Path.{◌≡◌, refl, sym, ap, ap₂, ◌∙◌}
use mathlib.Core.Bool.{cond}
use mathlib.Core.List.{List}
use Prim.Native.Nat.{ℕ, zero, suc, ◌+◌, ◌*◌, ◌/◌, ◌%◌, ◌^◌, ◌≤◌, ◌<◌}
use native.Mathlib.Nat.{mod-lt}
use native.Mathlib.Numerals.{add-one}
use native.Mathlib.Omega.{arith}
use lib.Bits.{bit_xor, xor_zero_r}
use lib.Dec.{eqb, lit≤}
use lib.ListN.{length, get_or, set, replicate}
use lib.Seq.{get_or-set_same, get_or-set_other}
use Rattle.standard.specs.declared.Direction.TheVariants.{Forward}
use Rattle.standard.specs.Grid.{Grid}
use Rattle.standard.specs.Photon.{PhotonParameters, in_first, photon_round, photon_rounds}
use Rattle.standard.specs.Variants.{variant}
use Rattle.standard.proofs.Xor.{xor_assoc}
use Rattle.standard.proofs.PhotonLaws.{State, photon_rounds-state}
use Rattle.photon_tables.specs.Columns.{cell_of, share, sum_of, place_of, with_column, constant_column}
use Rattle.photon_tables.specs.Tables.{Entries, Pairs, share_pair}
use Rattle.photon_tables.proofs.EntryTests.{entry-share}
use Rattle.photon_tables.proofs.WordCells.{cell-xor, cell-none, cell-sum}
use Rattle.photon_tables.proofs.LookUps.{look-round, words-state, added_twice, nothing-added, constants-added}
use Rattle.photon_tables.proofs.PairSums.{pairs-joined}
use Rattle.photon.specs.Parameters.{photon_of}
use Rattle.photon.specs.Words.{matrix_in, round_then}
use Rattle.photon.proofs.ParametersOf.{sound}
use Rattle.photon.proofs.RoundsOf.{first, first_more, first-all}
use Rattle.photon.proofs.WordPlaces.{rising-places, byte-begins, side_by_side}

zeros-at : (n k : ℕ) → ◌≡◌ {A = ℕ} (get_or (replicate n 0) k 0) 0
zeros-at zero k = refl
zeros-at (suc n) zero = refl
zeros-at (suc n) (suc k) = zeros-at n k

-- ---- sums of pairs

module _ (v : ℕ) (words : List ℕ) where
  -- rows 2 k and 2 k + 1 of the column that column m takes them from
  abbrev byte : ℕ → ℕ → ℕ
  byte m k = get_or words ((m + 2 * k) % (photon_of v).d) 0 / 2 ^ place_of (photon_of v) (2 * k) % 256

  -- the sums of the first k bytes of each column, with c in the first
  pub record Summed (c k : ℕ) (f : List ℕ) : Type 0 where
    pub len : length f ≡ 9
    pub sum : (m : ℕ) → m < (photon_of v).d → get_or f m 0 ≡ bit_xor (in_first m c 0) (sum_of k (λ i. share_pair (place_of (photon_of v)) (photon_of v) i (byte m i)))

  pub summed-none : (c : ℕ) → Summed c 0 (set (replicate 9 0) 0 c)
  summed-none c = record { len = refl; sum = λ m h. first m }
    where
      first : (m : ℕ) → get_or (set (replicate 9 0) 0 c) m 0 ≡ bit_xor (in_first m c 0) 0
      first zero = sym (xor_zero_r c)
      first (suc m) = zeros-at 8 m

module _ (v : ℕ) (low : 1 ≤ v) (high : v ≤ 4) (table : List ℕ) (T : Pairs (photon_of v) table) (words : List ℕ) (c : ℕ) where
  abbrev p : PhotonParameters
  p = photon_of v

  pub summed-more : (k : ℕ) → 2 * k < p.d → (f g : List ℕ) → Summed v words c k f → length g ≡ 9
      → ((m : ℕ) → m < p.d → get_or g m 0 ≡ bit_xor (get_or f m 0)
      (get_or table (16 + 256 * k + get_or words ((m + 2 * k) % p.d) 0 / 2 ^ (8 * cond (eqb (k + 1) ((p.d + 1) / 2)) 3 k) % 256) 0))
      → Summed v words c (k + 1) g
  summed-more k hk f g u lg e =
      record {
        len = lg;
        sum = λ m h.
            e m h
            ∙ ap₂ (λ (x y : ℕ). bit_xor x (get_or table (16 + 256 * k + get_or words ((m + 2 * k) % p.d) 0 / 2 ^ y % 256) 0)) (u.sum m h) (byte-begins v low high k (omega arith))
            ∙ ap (bit_xor (bit_xor (in_first m c 0) (sum_of k (λ i. share_pair (place_of p) p i (byte v words m i))))) (T.pair k (byte v words m k) hk (mod-lt _ {m = 256} (omega arith)))
            ∙ xor_assoc (in_first m c 0) (sum_of k (λ i. share_pair (place_of p) p i (byte v words m i))) (share_pair (place_of p) p k (byte v words m k))
            ∙ ap (λ (n : ℕ). bit_xor (in_first m c 0) (sum_of n (λ i. share_pair (place_of p) p i (byte v words m i)))) (sym (add-one k));
      }

  -- joined, they hold the next matrix
  pub round-done : (k : ℕ) → p.d ≤ 2 * k → 2 * k ≤ p.d + 1 → p.d ≤ 8 → c < 2 ^ 32 → (f g : List ℕ) → Summed v words c k f
      → ((j : ℕ) → j < p.d → get_or g j 0 ≡ bit_xor (get_or (set f p.d (get_or f 0 0)) j 0) (get_or (set f p.d (get_or f 0 0)) (j + 1) 0 / 2 ^ 32))
      → matrix_in v g ≡ round_then v c (matrix_in v words)
  round-done k least most few small f g u e =
      let b = side_by_side v low high in
      let sums : ℕ → ℕ = λ m. get_or (set f p.d (get_or f 0 0)) m 0 in
      look-round p b.sound (place_of p) b.rise words c g
      (λ i j hi hj. ap (cell_of (place_of p) p.s i) (e j hj)
      ∙ pairs-joined p (place_of p) b k least most words c small sums
      (λ m h. get_or-set_other f p.d m (get_or f 0 0) 0 (λ q. omega arith) ∙ u.sum m h)
      (get_or-set_same f p.d (get_or f 0 0) 0 (omega (arith, u.len)) ∙ sym (get_or-set_other f p.d 0 (get_or f 0 0) 0 (λ q. omega (arith, b.sound.pos))))
      i j hi hj)

-- ---- sums of shares, for cells of eight bits

module _ (words : List ℕ) where
  abbrev cell : ℕ → ℕ → ℕ
  cell m r = cell_of (place_of (photon_of 5)) (photon_of 5).s r (get_or words ((m + r) % (photon_of 5).d) 0)

  -- the sums of the first k rows of each column, with c in the first
  pub record Shared (c k : ℕ) (f : List ℕ) : Type 0 where
    pub sum : (m : ℕ) → m < 6 → get_or f m 0 ≡ bit_xor (in_first m c 0) (sum_of k (λ r. share (place_of (photon_of 5)) (photon_of 5) r (cell m r)))

  pub shared-none : (c : ℕ) → Shared c 0 (set (replicate 8 0) 0 c)
  shared-none c = record { sum = λ m h. first m }
    where
      first : (m : ℕ) → get_or (set (replicate 8 0) 0 c) m 0 ≡ bit_xor (in_first m c 0) 0
      first zero = sym (xor_zero_r c)
      first (suc m) = zeros-at 7 m

  pub shared-more : (table : List ℕ) → Entries 1552 (photon_of 5) table → (c k : ℕ) → k < 6 → (f g : List ℕ) → Shared c k f
      → ((m : ℕ) → m < 6 → get_or g m 0 ≡ bit_xor (get_or f m 0) (get_or table (16 + 256 * k + get_or words ((m + k) % 6) 0 / 2 ^ place_of (photon_of 5) k % 256) 0))
      → Shared c (k + 1) g
  unfolding photon_of variant
  shared-more table T c k hk f g u e =
      record {
        sum = λ m h.
            let x : ℕ = get_or words ((m + k) % 6) 0 / 2 ^ place_of (photon_of 5) k % 256 in
            let small : x < 256 = mod-lt _ {m = 256} (omega arith) in
            e m h
            ∙ ap₂ bit_xor (u.sum m h) (entry-share 1552 (photon_of 5) table T k x small (omega arith))
            ∙ xor_assoc (in_first m c 0) (sum_of k (λ r. share (place_of (photon_of 5)) (photon_of 5) r (cell m r))) (share (place_of (photon_of 5)) (photon_of 5) k x)
            ∙ ap (λ (n : ℕ). bit_xor (in_first m c 0) (sum_of n (λ r. share (place_of (photon_of 5)) (photon_of 5) r (cell m r)))) (sym (add-one k));
      }

  pub shared-done : (c k : ℕ) → k ≡ 6 → (f : List ℕ) → Shared c k f → matrix_in 5 f ≡ round_then 5 c (matrix_in 5 words)
  unfolding photon_of variant
  shared-done c k e f u =
      look-round (photon_of 5) (sound 5 (lit≤ tt) (lit≤ tt)) (place_of (photon_of 5)) (rising-places 5 (lit≤ tt) (lit≤ tt)) words c f
      (λ i j hi hj.
      let terms : ℕ → ℕ = λ r. share (place_of (photon_of 5)) (photon_of 5) r (cell j r) in
      ap (cell_of (place_of (photon_of 5)) 8 i) (u.sum j hj ∙ ap (λ (n : ℕ). bit_xor (in_first j c 0) (sum_of n terms)) e)
      ∙ cell-xor (place_of (photon_of 5)) 8 i (in_first j c 0) (sum_of 6 terms)
      ∙ ap₂ bit_xor (first i j) (cell-sum (place_of (photon_of 5)) 8 6 terms i))
    where
      first : (i m : ℕ) → cell_of (place_of (photon_of 5)) 8 i (in_first m c 0) ≡ in_first m (cell_of (place_of (photon_of 5)) 8 i c) 0
      first i zero = refl
      first i (suc m) = cell-none (place_of (photon_of 5)) 8 i

-- ---- twelve rounds

no-constants : (place : ℕ → ℕ) (p : PhotonParameters) → constant_column place p 12 ≡ 0
unfolding constant_column
no-constants place p = refl

module _ (v : ℕ) where
  abbrev column : ℕ → Grid → Grid
  column r g = with_column (place_of (photon_of v)) (photon_of v) (constant_column (place_of (photon_of v)) (photon_of v) r) g

  -- r rounds are made, and the constants of the next are added: from words to which the first were added
  pub Rounded : ℕ → List ℕ → List ℕ → Type 0
  Rounded r start words = matrix_in v words ≡ column r (first (photon_of v) Forward (column 0 (matrix_in v start)) r)

module _ (v : ℕ) (low : 1 ≤ v) (high : v ≤ 5) where
  state : (words : List ℕ) → State (photon_of v) (matrix_in v words)
  state words = words-state (photon_of v) (sound v low high) (place_of (photon_of v)) (rising-places v low high) words

  pub rounded-none : (start : List ℕ) → Rounded v 0 start start
  unfolding Rounded
  rounded-none start = sym (added_twice (photon_of v) (sound v low high) (place_of (photon_of v)) (rising-places v low high) _ (matrix_in v start) (state start))

  pub rounded-more : (r c : ℕ) → r < 12 → c ≡ constant_column (place_of (photon_of v)) (photon_of v) (r + 1) → (start words next : List ℕ) → Rounded v r start words
      → matrix_in v next ≡ round_then v c (matrix_in v words) → Rounded v (r + 1) start next
  unfolding Rounded photon_round
  rounded-more r c h ec start words next u e =
      let p = photon_of v in
      let g : Grid = first p Forward (column v 0 (matrix_in v start)) r in
      e ∙ ap₂ (λ (x : ℕ) (y : Grid). round_then v x y) ec (u ∙ constants-added p (sound v low high) (place_of p) (rising-places v low high) r h g)
      ∙ ap (column v (r + 1)) (first_more p Forward (column v 0 (matrix_in v start)) r h)

  pub rounded-all : (start words entry : List ℕ) → (c : ℕ) → c ≡ constant_column (place_of (photon_of v)) (photon_of v) 0 → matrix_in v start ≡ with_column (place_of (photon_of v)) (photon_of v) c (matrix_in v entry)
      → Rounded v 12 start words → matrix_in v words ≡ photon_rounds (photon_of v) Forward (matrix_in v entry)
  unfolding Rounded
  rounded-all start words entry c ec es u =
      let p = photon_of v in
      let place : ℕ → ℕ = place_of p in
      let h = sound v low high in
      let rise = rising-places v low high in
      let begun : column v 0 (matrix_in v start) ≡ matrix_in v entry =
      ap (column v 0) (es ∙ ap (λ (x : ℕ). with_column place p x (matrix_in v entry)) ec) ∙ added_twice p h place rise _ (matrix_in v entry) (state entry) in
      u
      ∙ ap₂ (λ (x : ℕ) (g : Grid). with_column place p x (first p Forward g 12)) (no-constants place p) begun
      ∙ ap (with_column place p 0) (first-all p Forward (matrix_in v entry) 12 refl)
      ∙ nothing-added p h place rise (photon_rounds p Forward (matrix_in v entry)) (photon_rounds-state p h Forward (matrix_in v entry) (state entry))
