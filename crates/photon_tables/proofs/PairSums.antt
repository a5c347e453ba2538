-- Two rows in one look-up: sums of pairs, cut and joined, are sums of shares. For any size and S-box of four bits, coefficients and places that put two rows side by side.
-- Assumes nothing.
use mathlib.Core.Path.{◌≡◌, refl, sym, ap, ap₂, ◌∙◌}
use mathlib.Core.List.{List}
use mathlib.Core.Logic.{⊎_elim}
use Prim.Native.Nat.{ℕ, zero, suc, ◌+◌, ◌*◌, ◌/◌, ◌%◌, ◌^◌, ◌≤◌, ◌<◌}
use native.Mathlib.Nat.{div-eq_of_lt, eq-or-lt_of_le, lt_of_lt_of_le, le_trans, zero-div, mul-add-mod_self_left}
use native.Mathlib.Omega.{arith}
use lib.Bits.{bit_xor, xor_shr, xor_zero_r}
use lib.Pow.{pow_mono, high, shr-shr, mod-mod-pow, field}
use lib.ListN.{get_or}
use borrow.Author.Tests.{ne_eqb}
use Rattle.standard.specs.Grid.{tab}
use Rattle.standard.specs.Photon.{PhotonParameters, in_first}
use Rattle.standard.proofs.Xor.{xor_assoc, xor-exchange}
use Rattle.standard.proofs.Tab.{tab-cong}
use Rattle.standard.proofs.PhotonLaws.{Sound}
use Rattle.photon_tables.specs.Columns.{only, mixed, cell_of, share, sum_of}
use Rattle.photon_tables.specs.Tables.{share_pair}
use Rattle.photon_tables.proofs.ColumnSums.{mixed-none}
use Rattle.photon_tables.proofs.WordCells.{Rising, rising, number-zero, cell-xor, cell-none, cell-sum, cell_below}
use Rattle.photon_tables.proofs.LookUps.{sum-cong, share-lt, value-lt}

-- ---- sums

sum-pairs : (n : ℕ) (f : ℕ → ℕ) → sum_of (2 * n) f ≡ bit_xor (sum_of n (λ k. f (2 * k))) (sum_of n (λ k. f (2 * k + 1)))
sum-pairs zero f = refl
sum-pairs (suc n) f =
    let two : 2 * suc n ≡ suc (suc (2 * n)) = omega arith in
    let one : suc (2 * n) ≡ 2 * n + 1 = omega arith in
    ap (λ (m : ℕ). sum_of m f) two
    ∙ ap₂ (λ (x y : ℕ). bit_xor (bit_xor x (f (2 * n))) (f y)) (sum-pairs n f) one
    ∙ xor_assoc (bit_xor (sum_of n (λ k. f (2 * k))) (sum_of n (λ k. f (2 * k + 1)))) (f (2 * n)) (f (2 * n + 1))
    ∙ xor-exchange (sum_of n (λ k. f (2 * k))) (sum_of n (λ k. f (2 * k + 1))) (f (2 * n)) (f (2 * n + 1))

-- a last term that is nothing
sum_to : (d n : ℕ) (f : ℕ → ℕ) → d ≤ 2 * n → 2 * n ≤ d + 1 → f d ≡ 0 → sum_of (2 * n) f ≡ sum_of d f
sum_to d n f lo hi none =
    ⊎_elim (λ e. ap (λ (m : ℕ). sum_of m f) (sym e))
    (λ l. let more : 2 * n ≡ suc d = omega arith in
    ap (λ (m : ℕ). sum_of m f) more ∙ ap (bit_xor (sum_of d f)) none ∙ xor_zero_r (sum_of d f))
    (eq-or-lt_of_le lo)

sum-shr : (n k : ℕ) (f : ℕ → ℕ) → sum_of n f / 2 ^ k ≡ sum_of n (λ r. f r / 2 ^ k)
sum-shr zero k f = zero-div (2 ^ k)
sum-shr (suc n) k f = xor_shr (sum_of n f) (f n) k ∙ ap (λ (x : ℕ). bit_xor x (f n / 2 ^ k)) (sum-shr n k f)

-- ---- a row past the matrix gives nothing

share-none : (p : PhotonParameters) → Sound p → (place : ℕ → ℕ) (x : ℕ) → share place p p.d x ≡ 0
unfolding share
share-none p h place x =
    let y : ℕ = get_or p.box x 0 in
    let zeros : only p.d p.d y ≡ tab p.d (λ j. 0) = tab-cong p.d _ (λ j. 0) (λ j hj. rw (ne_eqb j p.d (λ e. omega arith))) in
    rw zeros (number-zero place p.s p.d (mixed p (tab p.d (λ j. 0))) (mixed-none p h))

-- ---- the cells of a byte

low_half : (w k : ℕ) → w / 2 ^ k % 256 % 16 ≡ w / 2 ^ k % 16
low_half w k = mod-mod-pow (w / 2 ^ k) 4 4

high_half : (w k : ℕ) → w / 2 ^ k % 256 / 16 ≡ w / 2 ^ (k + 4) % 16
high_half w k = field (w / 2 ^ k) 4 4 ∙ ap (λ (x : ℕ). x % 16) (shr-shr w k 4)

-- places that put rows 2 k and 2 k + 1 side by side, and leave the upper half of a word of 64 bits
pub record SideBySide (place : ℕ → ℕ) (p : PhotonParameters) : Type 0 where
  pub sound : Sound p
  pub four : p.s ≡ 4
  pub rise : Rising place p.s p.d
  pub half : (k : ℕ) → 2 * k + 1 < p.d → place (2 * k + 1) ≡ place (2 * k) + 4
  pub low : place p.d ≤ 32

module _ (p : PhotonParameters) (place : ℕ → ℕ) (b : SideBySide place p) (n : ℕ) (least : p.d ≤ 2 * n) (most : 2 * n ≤ p.d + 1) (words : List ℕ) where
  -- the byte of rows 2 k and 2 k + 1, as column m takes it
  abbrev byte : ℕ → ℕ → ℕ
  byte m k = get_or words ((m + 2 * k) % p.d) 0 / 2 ^ place (2 * k) % 256

  -- the cell that row r gives to column j
  abbrev given : ℕ → ℕ → ℕ
  given j r = cell_of place p.s r (get_or words ((j + r) % p.d) 0)

  low-cell : (j k : ℕ) → byte j k % 16 ≡ given j (2 * k)
  low-cell j k = low_half (get_or words ((j + 2 * k) % p.d) 0) (place (2 * k)) ∙ ap (λ (s : ℕ). get_or words ((j + 2 * k) % p.d) 0 / 2 ^ place (2 * k) % 2 ^ s) (sym b.four)

  fits : (i : ℕ) → i < p.d → place i + p.s ≤ 32
  fits i hi = le_trans (rising place p.s p.d i hi b.rise) b.low

  low-lt : (j k : ℕ) → share place p (2 * k) (byte j k % 16) < 2 ^ 32
  low-lt j k =
      lt_of_lt_of_le
      (share-lt p b.sound place b.rise (2 * k) (byte j k % 16) (rw (low-cell j k) (value-lt p b.sound place b.rise words j (2 * k))))
      (pow_mono b.low)

  -- the lower half of a pair
  pair-low : (i j k : ℕ) → i < p.d → cell_of place p.s i (share_pair place p k (byte j k)) ≡ cell_of place p.s i (share place p (2 * k) (given j (2 * k)))
  unfolding share_pair
  pair-low i j k hi =
      cell_below place p.s i 32 (share place p (2 * k) (byte j k % 16)) (share place p (2 * k + 1) (byte j k / 16)) (fits i hi)
      ∙ ap (λ (x : ℕ). cell_of place p.s i (share place p (2 * k) x)) (low-cell j k)

  -- its upper half, which belongs to the column before
  pair-high : (j k : ℕ) → 2 * k + 1 ≤ p.d → share_pair place p k (byte (j + 1) k) / 2 ^ 32 ≡ share place p (2 * k + 1) (given j (2 * k + 1))
  unfolding share_pair
  pair-high j k l =
      high (share place p (2 * k + 1) (byte (j + 1) k / 16)) 32 (low-lt (j + 1) k)
      ∙ ⊎_elim
      (λ e. ap (λ (r : ℕ). share place p r (byte (j + 1) k / 16)) e ∙ share-none p b.sound place (byte (j + 1) k / 16)
      ∙ sym (ap (λ (r : ℕ). share place p r (given j (2 * k + 1))) e ∙ share-none p b.sound place (given j (2 * k + 1))))
      (λ lt. ap (share place p (2 * k + 1)) (high-cell lt))
      (eq-or-lt_of_le l)
    where
      high-cell : 2 * k + 1 < p.d → byte (j + 1) k / 16 ≡ given j (2 * k + 1)
      high-cell lt =
          let same : j + 1 + 2 * k ≡ j + (2 * k + 1) = omega arith in
          high_half (get_or words ((j + 1 + 2 * k) % p.d) 0) (place (2 * k))
          ∙ ap (λ (x : ℕ). get_or words (x % p.d) 0 / 2 ^ (place (2 * k) + 4) % 16) same
          ∙ ap₂ (λ (x s : ℕ). get_or words ((j + (2 * k + 1)) % p.d) 0 / 2 ^ x % 2 ^ s) (sym (b.half k lt)) (sym b.four)

  -- the sums, with a column c in the first; the one past the last is the first again
  module _ (c : ℕ) (small : c < 2 ^ 32) (sums : ℕ → ℕ)
      (each : (m : ℕ) → m < p.d → sums m ≡ bit_xor (in_first m c 0) (sum_of n (λ k. share_pair place p k (byte m k)))) (again : sums p.d ≡ sums 0) where
    next : (j : ℕ) → j < p.d → sums (j + 1) / 2 ^ 32 ≡ sum_of n (λ k. share place p (2 * k + 1) (given j (2 * k + 1)))
    next j hj = whole ∙ sum-cong n _ _ (λ k hk. pair-high j k (omega arith))
      where
        cut : (m : ℕ) → m < p.d → sums m / 2 ^ 32 ≡ sum_of n (λ k. share_pair place p k (byte m k) / 2 ^ 32)
        cut m hm =
            ap (λ (x : ℕ). x / 2 ^ 32) (each m hm) ∙ xor_shr (in_first m c 0) (sum_of n (λ k. share_pair place p k (byte m k))) 32
            ∙ ap₂ bit_xor (none m) (sum-shr n 32 (λ k. share_pair place p k (byte m k)))
          where
            none : (m : ℕ) → in_first m c 0 / 2 ^ 32 ≡ 0
            none zero = div-eq_of_lt small
            none (suc m) = zero-div (2 ^ 32)

        whole : sums (j + 1) / 2 ^ 32 ≡ sum_of n (λ k. share_pair place p k (byte (j + 1) k) / 2 ^ 32)
        whole =
            ⊎_elim
            (λ e. ap (λ (m : ℕ). sums m / 2 ^ 32) e ∙ ap (λ (x : ℕ). x / 2 ^ 32) again ∙ cut 0 b.sound.pos
            ∙ sum-cong n _ _ (λ k hk. ap (λ (x : ℕ). share_pair place p k (get_or words x 0 / 2 ^ place (2 * k) % 256) / 2 ^ 32) (round k e)))
            (cut (j + 1))
            (let l : j + 1 ≤ p.d = omega arith in eq-or-lt_of_le l)
          where
            round : (k : ℕ) → j + 1 ≡ p.d → (0 + 2 * k) % p.d ≡ (j + 1 + 2 * k) % p.d
            round k e =
                let past : j + 1 + 2 * k ≡ p.d * 1 + (0 + 2 * k) = omega arith in
                sym (ap (λ (x : ℕ). x % p.d) past ∙ mul-add-mod_self_left p.d 1 (0 + 2 * k))

    pub pairs-joined : (i j : ℕ) → i < p.d → j < p.d
        → cell_of place p.s i (bit_xor (sums j) (sums (j + 1) / 2 ^ 32))
        ≡ bit_xor (in_first j (cell_of place p.s i c) 0) (sum_of p.d (λ r. cell_of place p.s i (share place p r (cell_of place p.s r (get_or words ((j + r) % p.d) 0)))))
    pairs-joined i j hi hj =
        let term : ℕ → ℕ = λ r. cell_of place p.s i (share place p r (given j r)) in
        cell-xor place p.s i (sums j) (sums (j + 1) / 2 ^ 32)
        ∙ ap₂ bit_xor (lower ∙ ap (bit_xor (in_first j (cell_of place p.s i c) 0)) (sum-cong n _ _ (λ k hk. pair-low i j k hi)))
        (ap (cell_of place p.s i) (next j hj) ∙ cell-sum place p.s n (λ k. share place p (2 * k + 1) (given j (2 * k + 1))) i)
        ∙ xor_assoc (in_first j (cell_of place p.s i c) 0) (sum_of n (λ k. term (2 * k))) (sum_of n (λ k. term (2 * k + 1)))
        ∙ ap (bit_xor (in_first j (cell_of place p.s i c) 0))
        (sym (sum-pairs n term)
        ∙ sum_to p.d n term least most (ap (cell_of place p.s i) (share-none p b.sound place (given j p.d)) ∙ cell-none place p.s i))
      where
        first : (m : ℕ) → cell_of place p.s i (in_first m c 0) ≡ in_first m (cell_of place p.s i c) 0
        first zero = refl
        first (suc m) = cell-none place p.s i

        lower : cell_of place p.s i (sums j) ≡ bit_xor (in_first j (cell_of place p.s i c) 0) (sum_of n (λ k. cell_of place p.s i (share_pair place p k (byte j k))))
        lower =
            ap (cell_of place p.s i) (each j hj) ∙ cell-xor place p.s i (in_first j c 0) (sum_of n (λ k. share_pair place p k (byte j k)))
            ∙ ap₂ bit_xor (first j) (cell-sum place p.s n (λ k. share_pair place p k (byte j k)) i)
