-- Where rows lie in the words of each variant: the facts that the look-ups ask, by one test for each variant.
-- Assumes nothing.
use mathlib.Core.Path.{◌≡◌, refl}
use mathlib.Core.Bool.{cond}
use Prim.Native.Nat.{ℕ, suc, ◌+◌, ◌-◌, ◌*◌, ◌/◌, ◌%◌, ◌^◌, ◌≤◌, ◌<◌}
use native.Mathlib.Nat.{lt_of_lt_of_le}
use native.Mathlib.Omega.{arith}
use lib.Dec.{T, eqb, leb, leb→le, lit≤}
use lib.Pow.{pow_mono}
use Rattle.standard.specs.Variants.{variant}
use Rattle.standard.proofs.Tests.{below, below_at, same-below, zero-to-three, one-to-five}
use Rattle.photon_tables.specs.Columns.{place_in, place_of, constant_column}
use Rattle.photon_tables.proofs.LookUps.{constant-lt}
use Rattle.photon_tables.proofs.WordCells.{Rising}
use Rattle.photon_tables.proofs.PairSums.{SideBySide}
use Rattle.photon.specs.Parameters.{photon_of}
use Rattle.photon.proofs.ParametersOf.{sound}

rises : (place : ℕ → ℕ) (s d : ℕ) → T (below (λ i. leb (place i + s) (place (suc i))) d) → Rising place s d
rises place s d t i h = leb→le (place i + s) (place (suc i)) (below_at (λ k. leb (place k + s) (place (suc k))) d t i h)

pub rising-places : (v : ℕ) → 1 ≤ v → v ≤ 5 → Rising (place_of (photon_of v)) (photon_of v).s (photon_of v).d
unfolding photon_of variant
rising-places =
    one-to-five (λ v. Rising (place_of (photon_of v)) (photon_of v).s (photon_of v).d)
    (rises (place_of (photon_of 1)) 4 5 tt) (rises (place_of (photon_of 2)) 4 6 tt) (rises (place_of (photon_of 3)) 4 7 tt) (rises (place_of (photon_of 4)) 4 8 tt)
    (rises (place_of (photon_of 5)) 8 6 tt)

-- what holds of each of 1 to 4 holds of every number between
pub one-to-four : (P : ℕ → Type 0) → P 1 → P 2 → P 3 → P 4 → (v : ℕ) → 1 ≤ v → v ≤ 4 → P v
one-to-four P a b c d v l h = one-to-five (λ k. k ≤ 4 → P k) (λ u. a) (λ u. b) (λ u. c) (λ u. d) (λ u. absurd (omega arith)) v l (omega arith) h

-- byte k of a column begins with row 2 k, and has row 2 k + 1 in its upper half
module _ (v : ℕ) where
  abbrev bytes : ℕ
  bytes = ((photon_of v).d + 1) / 2

  abbrev begins : ℕ → ℕ
  begins k = 8 * cond (eqb (k + 1) bytes) 3 k

pub byte-begins : (v : ℕ) → 1 ≤ v → v ≤ 4 → (k : ℕ) → k < ((photon_of v).d + 1) / 2 → 8 * cond (eqb (k + 1) (((photon_of v).d + 1) / 2)) 3 k ≡ place_of (photon_of v) (2 * k)
unfolding photon_of variant
byte-begins =
    one-to-four (λ v. (k : ℕ) → k < bytes v → begins v k ≡ place_of (photon_of v) (2 * k))
    (same-below (begins 1) (λ k. place_of (photon_of 1) (2 * k)) 3 tt) (same-below (begins 2) (λ k. place_of (photon_of 2) (2 * k)) 3 tt)
    (same-below (begins 3) (λ k. place_of (photon_of 3) (2 * k)) 4 tt) (same-below (begins 4) (λ k. place_of (photon_of 4) (2 * k)) 4 tt)

upper-half : (v : ℕ) → 1 ≤ v → v ≤ 4 → (k : ℕ) → k < ((photon_of v).d + 1) / 2 → place_of (photon_of v) (2 * k + 1) ≡ place_of (photon_of v) (2 * k) + 4
unfolding photon_of variant
upper-half =
    one-to-four (λ v. (k : ℕ) → k < bytes v → place_of (photon_of v) (2 * k + 1) ≡ place_of (photon_of v) (2 * k) + 4)
    (same-below (λ k. place_of (photon_of 1) (2 * k + 1)) (λ k. place_of (photon_of 1) (2 * k) + 4) 3 tt)
    (same-below (λ k. place_of (photon_of 2) (2 * k + 1)) (λ k. place_of (photon_of 2) (2 * k) + 4) 3 tt)
    (same-below (λ k. place_of (photon_of 3) (2 * k + 1)) (λ k. place_of (photon_of 3) (2 * k) + 4) 4 tt)
    (same-below (λ k. place_of (photon_of 4) (2 * k + 1)) (λ k. place_of (photon_of 4) (2 * k) + 4) 4 tt)

word_end : (v : ℕ) → 1 ≤ v → v ≤ 4 → place_of (photon_of v) (photon_of v).d ≤ 32
unfolding photon_of variant
word_end = one-to-four (λ v. place_of (photon_of v) (photon_of v).d ≤ 32) (lit≤ tt) (lit≤ tt) (lit≤ tt) (lit≤ tt)

pub four-bits : (v : ℕ) → 1 ≤ v → v ≤ 4 → (photon_of v).s ≡ 4
unfolding photon_of variant
four-bits = one-to-four (λ v. (photon_of v).s ≡ 4) refl refl refl refl

pub side_by_side : (v : ℕ) → 1 ≤ v → v ≤ 4 → SideBySide (place_of (photon_of v)) (photon_of v)
side_by_side v l h =
    record {
      sound = sound v l (omega arith);
      four = four-bits v l h;
      rise = rising-places v l (omega arith);
      half = λ k lt. upper-half v l h k (omega arith);
      low = word_end v l h;
    }

-- the constants of a round fit the lower half of a word
pub constants-low : (v : ℕ) → 1 ≤ v → v ≤ 4 → (r : ℕ) → constant_column (place_of (photon_of v)) (photon_of v) r < 2 ^ 32
constants-low v l h r =
    let b = side_by_side v l h in
    lt_of_lt_of_le (constant-lt (photon_of v) b.sound (place_of (photon_of v)) b.rise r) (pow_mono b.low)

-- ---- as the code computes them

abbrev row_bit : ℕ → ℕ → ℕ
row_bit d i = cond (eqb (i / 2 + 1) ((d + 1) / 2)) (24 + 4 * (i % 2)) (4 * i)

pub row-place : (d : ℕ) → 5 ≤ d → d ≤ 8 → (i : ℕ) → i < d → cond (eqb (i / 2 + 1) ((d + 1) / 2)) (24 + 4 * (i % 2)) (4 * i) ≡ place_in d 4 i
row-place d l h i hi =
    let e : 5 + (d - 5) ≡ d = omega arith in
    rw e at (zero-to-three (λ k. (i : ℕ) → i < 5 + k → row_bit (5 + k) i ≡ place_in (5 + k) 4 i)
    (same-below (row_bit 5) (place_in 5 4) 5 tt) (same-below (row_bit 6) (place_in 6 4) 6 tt) (same-below (row_bit 7) (place_in 7 4) 7 tt) (same-below (row_bit 8) (place_in 8 4) 8 tt)
    (d - 5) (omega arith) i (omega arith))

abbrev byte_bit : ℕ → ℕ
byte_bit i = cond (eqb (i % 3) 2) (32 * (i / 3) + 24) (32 * (i / 3) + 8 * (i % 3))

pub byte-place : (i : ℕ) → i < 6 → cond (eqb (i % 3) 2) (32 * (i / 3) + 24) (32 * (i / 3) + 8 * (i % 3)) ≡ place_in 6 8 i
byte-place = same-below byte_bit (place_in 6 8) 6 tt
