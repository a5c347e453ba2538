-- A sum of products, bit by bit of the coefficients: the rows whose coefficient is odd, and the double of the same sum for the halved coefficients.
-- Assumes nothing.
use mathlib.Core.Path.{◌≡◌, refl, sym, ap, ap₂, ◌∙◌}
use mathlib.Core.Bool.{Bool, true, false, cond}
use mathlib.Core.List.{List}
use Prim.Native.Nat.{ℕ, zero, suc, ◌+◌, ◌-◌, ◌*◌, ◌/◌, ◌%◌, ◌^◌, ◌≤◌, ◌<◌, suc-le-suc}
use native.Mathlib.Nat.{zero-lt-suc, add-zero, add-suc, div-eq_of_lt, div-div-eq-div-mul, div-le_self}
use native.Mathlib.Omega.{arith}
use lib.Bits.{bit_xor, xor_zero_r}
use lib.Dec.{eqb}
use lib.Pow.{pow-add, pow_pos}
use lib.ListN.{get_or}
use Rattle.standard.specs.Grid.{tab}
use Rattle.standard.specs.Field.{double, mul, dot}
use Rattle.standard.proofs.Xor.{xor-exchange}
use Rattle.standard.proofs.Tab.{length-tab, tab-snoc, tab-cong}
use Rattle.standard.proofs.Undo.{All}
use Rattle.standard.proofs.FieldLaws.{double-xor, double-zero, mul-lt, mul-double, mul-none, mul-step, dot-lt, dot-snoc}
use Rattle.photon.specs.Rows.{lane, column_from, odd_sum, Mixing, NoneFrom, SmallRows}
use Rattle.photon.proofs.Lanes.{lane-lt, lane-zero, lane_xor, lane-bit}

-- whether a coefficient is odd is all that counts of it
odd-same : (f f' g : ℕ → ℕ) (n : ℕ) → ((i : ℕ) → i < n → f i % 2 ≡ f' i % 2) → odd_sum f g n ≡ odd_sum f' g n
odd-same f f' g zero h = refl
odd-same f f' g (suc n) h = rw (odd-same f f' g n (λ i l. h i (omega arith)), h n (omega arith))

-- rows whose coefficient is zero add nothing
odd-rest : (f g : ℕ → ℕ) (d k : ℕ) → ((i : ℕ) → d ≤ i → i < d + k → f i ≡ 0) → odd_sum f g (d + k) ≡ odd_sum f g d
odd-rest f g d zero h = rw add-zero
odd-rest f g d (suc k) h = rw (add-suc, h (d + k) (omega arith) (omega arith), xor_zero_r) (odd-rest f g d k (λ i l u. h i l (omega arith)))

odd-first : (f g : ℕ → ℕ) (d : ℕ) → d ≤ 8 → ((i : ℕ) → d ≤ i → i < 8 → f i ≡ 0) → odd_sum f g 8 ≡ odd_sum f g d
odd-first f g d l h =
    let all : d + (8 - d) ≡ 8 = omega arith in
    rw all at (odd-rest f g d (8 - d) (λ i m u. h i m (omega arith)))

lane-odd : (j : ℕ) (f g : ℕ → ℕ) (n : ℕ) → lane j (odd_sum f g n) ≡ odd_sum f (λ i. lane j (g i)) n
lane-odd j f g zero = lane-zero j
lane-odd j f g (suc n) = rw (lane_xor, lane-odd j f g n, chosen (eqb (f n % 2) 1) (g n))
  where
    chosen : (b : Bool) (x : ℕ) → lane j (cond b x 0) ≡ cond b (lane j x) 0
    chosen true x = refl
    chosen false x = lane-zero j

all-tab : (P : ℕ → Type 0) (n : ℕ) (f : ℕ → ℕ) → ((i : ℕ) → i < n → P (f i)) → All P (tab n f)
all-tab P zero f h = tt
all-tab P (suc n) f h = (h 0 (zero-lt-suc n), all-tab P n (λ i. f (suc i)) (λ i l. h (suc i) (suc-le-suc l)))

module _ (s poly : ℕ) (low : 2 ^ s ≤ poly) (high : poly < 2 ^ s * 2) where
  -- the sum of products of the first n
  abbrev dots : ℕ → (ℕ → ℕ) → (ℕ → ℕ) → ℕ
  dots n f g = dot (2 ^ s) poly (tab n f) (tab n g)

  dots-suc : (n : ℕ) (f g : ℕ → ℕ) → dots (suc n) f g ≡ bit_xor (dots n f g) (mul (2 ^ s) poly (f n) (g n))
  dots-suc n f g =
      ap₂ (dot (2 ^ s) poly) (tab-snoc n f) (tab-snoc n g)
      ∙ dot-snoc (2 ^ s) poly (tab n f) (tab n g) (f n) (g n) (length-tab n f ∙ sym (length-tab n g))

  pub dots-lt : (n : ℕ) (f g : ℕ → ℕ) → ((i : ℕ) → i < n → g i < 2 ^ s) → dots n f g < 2 ^ s
  dots-lt n f g h = dot-lt s poly low high (tab n f) (tab n g) (all-tab (λ x. x < 2 ^ s) n g h)

  -- one bit of each coefficient taken off
  pub dots-half : (n : ℕ) (f g : ℕ → ℕ) → ((i : ℕ) → f i < 256) → ((i : ℕ) → i < n → g i < 2 ^ s)
      → dots n f g ≡ bit_xor (odd_sum f g n) (double (2 ^ s) poly (dots n (λ i. f i / 2) g))
  unfolding dot
  dots-half zero f g hf hg = sym (double-zero s poly low high)
  dots-half (suc n) f g hf hg =
      let hn : g n < 2 ^ s = hg n (omega arith) in
      let before : (i : ℕ) → i < n → g i < 2 ^ s = λ i l. hg i (omega arith) in
      let small = dots-lt n (λ i. f i / 2) g before in
      rw (dots-suc n f g, dots-half n f g hf before, mul-step (2 ^ s) poly (f n) (g n) (hf n), mul-double s poly low high (f n / 2) (g n) hn)
      (rw (xor-exchange, dots-suc n (λ i. f i / 2) g, double-xor s poly low high _ _ small (mul-lt s poly low high (f n / 2) (g n) hn)))

-- ---- bit by bit of the coefficients, on the rows

-- In column j: the rows of one bit are summed, and the double of what the higher bits made is added.
module _ (d s poly : ℕ) (m : Mixing d s poly) (rows : List ℕ) (n : ℕ) (small : SmallRows d (2 ^ s) rows n) (j : ℕ) (hj : j < d) where
  abbrev sum_of : (ℕ → ℕ) → ℕ
  sum_of f = dot (2 ^ s) poly (tab d f) (column_from d rows n j)

  -- what doubling a row gives
  abbrev Doubles : ℕ → ℕ → Type 0
  Doubles x r = (k : ℕ) → k < 8 → lane k x < 2 ^ s → lane k r ≡ double (2 ^ s) poly (lane k x)

  bit-more : (f : ℕ → ℕ) → ((i : ℕ) → f i < 256) → (sum above twice : ℕ) → sum ≡ odd_sum f (λ i. get_or rows (n + i) 0) d
      → lane j above ≡ sum_of (λ i. f i / 2) → Doubles above twice → lane j (bit_xor sum twice) ≡ sum_of f
  bit-more f hf sum above twice e h t =
      let cell : (i : ℕ) → i < d → lane j (get_or rows (n + i) 0) < 2 ^ s = λ i hi. small.cell i j hi hj in
      let below : lane j above < 2 ^ s = rw h (dots-lt s poly m.modulus.low m.modulus.high d _ _ cell) in
      rw (lane_xor, e, lane-odd, t j (omega (arith, m.most)) below, h, dots-half s poly m.modulus.low m.modulus.high d f _ hf cell)

  -- the rows whose coefficient has bit b, and the double of what the bits above made
  pub bit-taken : (z b : ℕ) → b < 8 → NoneFrom d z → (sum above twice : ℕ)
      → sum ≡ odd_sum (λ i. lane i (z / 2 ^ b)) (λ i. get_or rows (n + i) 0) 8
      → lane j above ≡ sum_of (λ i. lane i z / 2 ^ (b + 1)) → Doubles above twice → lane j (bit_xor sum twice) ≡ sum_of (λ i. lane i z / 2 ^ b)
  bit-taken z b hb none sum above twice e h t =
      let f : ℕ → ℕ = λ i. lane i z / 2 ^ b in
      let g : ℕ → ℕ = λ i. get_or rows (n + i) 0 in
      bit-more f (λ i. omega (arith, div-le_self (lane i z) (2 ^ b), lane-lt i z)) sum above twice
      (e ∙ odd-same (λ i. lane i (z / 2 ^ b)) f g 8 (λ i l. lane-bit i z b hb)
      ∙ odd-first f g d m.most (λ i l u. ap (λ (x : ℕ). x / 2 ^ b) (none.none i l u) ∙ div-eq_of_lt (pow_pos b)))
      (h ∙ ap (λ (us : List ℕ). dot (2 ^ s) poly us (column_from d rows n j)) (tab-cong d (λ i. lane i z / 2 ^ (b + 1)) (λ i. f i / 2) (λ i l. half (lane i z)))) t
    where
      half : (x : ℕ) → x / 2 ^ (b + 1) ≡ x / 2 ^ b / 2
      half x = ap (λ (k : ℕ). x / k) (pow-add 2 b 1) ∙ sym (div-div-eq-div-mul x (2 ^ b) 2)

-- no bit of the coefficients
pub no_bits : (top poly d j z : ℕ) (g : ℕ → ℕ) → lane j 0 ≡ dot top poly (tab d (λ i. lane i z / 2 ^ 8)) (tab d g)
unfolding dot
no_bits top poly d j z g = lane-zero j ∙ sym (none d (λ i. lane i z / 2 ^ 8) g (λ i l. div-eq_of_lt (lane-lt i z)))
  where
    none : (n : ℕ) (f x : ℕ → ℕ) → ((i : ℕ) → i < n → f i ≡ 0) → dot top poly (tab n f) (tab n x) ≡ 0
    none zero f x e = refl
    none (suc n) f x e = rw (e 0 (zero-lt-suc n), mul-none, none n (λ i. f (suc i)) (λ i. x (suc i)) (λ i l. e (suc i) (suc-le-suc l)))
