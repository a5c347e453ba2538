-- Cells in a word: a column in a number and its rows, the rows of a sum, of a cell that is moved to its place, and of a word with more above.
-- For any places that leave each row its bits.
-- Assumes nothing.
use mathlib.Core.Path.{◌≡◌, refl, sym, ap, ◌∙◌, subst}
use mathlib.Core.Bool.{Bool, true, false, cond}
use mathlib.Core.List.{List}
use mathlib.Core.Logic.{⊎_elim}
use Prim.Native.Nat.{ℕ, zero, suc, ◌+◌, ◌-◌, ◌*◌, ◌/◌, ◌%◌, ◌^◌, ◌≤◌, ◌<◌}
use native.Mathlib.Nat.{not-suc-le-zero, le_of_suc-le-suc, eq-or-lt_of_le, mod-lt, mod-eq_of_lt, mul-add-mod_self_right, mul_assoc, le_trans, lt_of_lt_of_le, zero-div, zero-mod, zero-mul, zero-add}
use native.Mathlib.Omega.{arith}
use lib.Arith.{digits_lt}
use lib.Bits.{bit_xor, xor_shr, xor_mod}
use lib.Dec.{eqb}
use lib.Pow.{pow_pos, pow-add, pow_mono, high, field}
use lib.ListN.{get_or}
use borrow.Author.Tests.{eq-eqb, ne_eqb}
use Rattle.standard.proofs.Tab.{get_d-tab}
use Rattle.photon_tables.specs.Columns.{only, number, cell_of, sum_of}

pub cond-lt : (b : Bool) {x top : ℕ} → x < top → 0 < top → cond b x 0 < top
cond-lt true h pos = h
cond-lt false h pos = pos

-- row i ends before the next begins
abbrev pub Rising : (ℕ → ℕ) → ℕ → ℕ → Type 0
Rising place s d = (i : ℕ) → i < d → place i + s ≤ place (suc i)

module _ (place : ℕ → ℕ) (s : ℕ) where
  -- ---- one row of words

  pub cell-lt : (i w : ℕ) → cell_of place s i w < 2 ^ s
  cell-lt i w = mod-lt (w / 2 ^ place i) (pow_pos s)

  pub cell-xor : (i a b : ℕ) → cell_of place s i (bit_xor a b) ≡ bit_xor (cell_of place s i a) (cell_of place s i b)
  cell-xor i a b = rw (xor_shr a b (place i), xor_mod (a / 2 ^ place i) (b / 2 ^ place i) s)

  pub cell-none : (i : ℕ) → cell_of place s i 0 ≡ 0
  cell-none i = rw (zero-div (2 ^ place i), zero-mod (2 ^ s))

  pub cell-sum : (n : ℕ) (f : ℕ → ℕ) (i : ℕ) → cell_of place s i (sum_of n f) ≡ sum_of n (λ r. cell_of place s i (f r))
  cell-sum zero f i = cell-none i
  cell-sum (suc n) f i = cell-xor i (sum_of n f) (f n) ∙ ap (λ (x : ℕ). bit_xor x (cell_of place s i (f n))) (cell-sum n f i)

  -- what lies past the row's end does not matter
  pub cell_below : (i top a b : ℕ) → place i + s ≤ top → cell_of place s i (b * 2 ^ top + a) ≡ cell_of place s i a
  cell_below i top a b fits =
      let gap : ℕ = top - (s + place i) in
      let whole : top ≡ gap + (s + place i) = omega arith in
      let split : b * 2 ^ top ≡ b * 2 ^ gap * 2 ^ (s + place i) =
      ap (λ (k : ℕ). b * 2 ^ k) whole ∙ ap (λ (k : ℕ). b * k) (pow-add 2 gap (s + place i)) ∙ sym (mul_assoc b (2 ^ gap) (2 ^ (s + place i))) in
      sym (field (b * 2 ^ top + a) s (place i))
      ∙ ap (λ (x : ℕ). (x + a) % 2 ^ (s + place i) / 2 ^ place i) split
      ∙ ap (λ (x : ℕ). x / 2 ^ place i) (mul-add-mod_self_right (b * 2 ^ gap) (2 ^ (s + place i)) a)
      ∙ field a s (place i)

  -- ---- a column in a number

  pub number_lt : (n : ℕ) (c : List ℕ) → Rising place s n → ((i : ℕ) → i < n → get_or c i 0 < 2 ^ s) → number place n c < 2 ^ place n
  number_lt zero c a h = pow_pos (place 0)
  number_lt (suc n) c a h =
      let below : number place n c < 2 ^ place n = number_lt n c (λ i l. a i (omega arith)) (λ i l. h i (omega arith)) in
      let room : 2 ^ s * 2 ^ place n ≡ 2 ^ (s + place n) = sym (pow-add 2 s (place n)) in
      let fits : 2 ^ (s + place n) ≤ 2 ^ place (suc n) = pow_mono (omega (arith, a n (omega arith))) in
      lt_of_lt_of_le (subst (λ (m : ℕ). get_or c n 0 * 2 ^ place n + number place n c < m) room (digits_lt (h n (omega arith)) below)) fits

  pub rising : (n i : ℕ) → i < n → Rising place s n → place i + s ≤ place n
  rising zero i l a = absurd (not-suc-le-zero l)
  rising (suc n) i l a =
      ⊎_elim (λ e. subst (λ (k : ℕ). place k + s ≤ place (suc n)) (sym e) (a n (omega arith)))
      (λ m. le_trans (rising n i m (λ k hk. a k (omega arith))) (omega (arith, a n (omega arith)))) (eq-or-lt_of_le (le_of_suc-le-suc l))

  pub cell-number : (n : ℕ) (c : List ℕ) → Rising place s n → ((i : ℕ) → i < n → get_or c i 0 < 2 ^ s)
      → (i : ℕ) → i < n → cell_of place s i (number place n c) ≡ get_or c i 0
  cell-number zero c a h i l = absurd (not-suc-le-zero l)
  cell-number (suc n) c a h i l =
      ⊎_elim last
      (λ m. cell_below i (place n) (number place n c) (get_or c n 0) (rising n i m (λ k hk. a k (omega arith)))
      ∙ cell-number n c (λ k hk. a k (omega arith)) (λ k hk. h k (omega arith)) i m)
      (eq-or-lt_of_le (le_of_suc-le-suc l))
    where
      last : i ≡ n → cell_of place s i (get_or c n 0 * 2 ^ place n + number place n c) ≡ get_or c i 0
      last e =
          ap (λ (k : ℕ). (get_or c n 0 * 2 ^ place n + number place n c) / 2 ^ place k % 2 ^ s) e
          ∙ ap (λ (x : ℕ). x % 2 ^ s) (high (get_or c n 0) (place n) (number_lt n c (λ k hk. a k (omega arith)) (λ k hk. h k (omega arith))))
          ∙ mod-eq_of_lt (h n (omega arith)) ∙ ap (λ (k : ℕ). get_or c k 0) (sym e)

  -- ---- a cell that is moved to row r

  pub number-zero : (n : ℕ) (c : List ℕ) → ((i : ℕ) → i < n → get_or c i 0 ≡ 0) → number place n c ≡ 0
  number-zero zero c h = refl
  number-zero (suc n) c h = rw (h n (omega arith), number-zero n c (λ i l. h i (omega arith)), zero-mul)

  number-none : (n d r y : ℕ) → n ≤ r → r < d → number place n (only d r y) ≡ 0
  number-none n d r y l h =
      number-zero n (only d r y) (λ i hi. rw (get_d-tab d (λ j. cond (eqb j r) y 0) i 0 (omega arith), ne_eqb i r (λ e. omega arith)))

  number-only : (n d r y : ℕ) → r < n → n ≤ d → number place n (only d r y) ≡ y * 2 ^ place r
  number-only zero d r y l h = absurd (not-suc-le-zero l)
  number-only (suc n) d r y l h =
      ⊎_elim
      (λ e. rw (e, get_d-tab d (λ j. cond (eqb j n) y 0) n 0 (omega arith), eq-eqb n n refl, number-none n d n y (omega arith) (omega arith)) (omega arith))
      (λ m. rw (get_d-tab d (λ j. cond (eqb j r) y 0) n 0 (omega arith), ne_eqb n r (λ e. omega arith))
      (ap (λ (x : ℕ). x + number place n (only d r y)) (zero-mul (2 ^ place n)) ∙ zero-add (number place n (only d r y)) ∙ number-only n d r y m (omega arith)))
      (eq-or-lt_of_le (le_of_suc-le-suc l))

  pub cell-moved : (d : ℕ) → Rising place s d → (r i y : ℕ) → r < d → i < d → y < 2 ^ s → cell_of place s i (y * 2 ^ place r) ≡ cond (eqb i r) y 0
  cell-moved d rise r i y hr hi hy =
      ap (cell_of place s i) (sym (number-only d d r y hr (omega arith)))
      ∙ cell-number d (only d r y) rise (λ k hk. rw (get_d-tab d (λ j. cond (eqb j r) y 0) k 0 hk) (cond-lt (eqb k r) hy (pow_pos s))) i hi
      ∙ get_d-tab d (λ j. cond (eqb j r) y 0) i 0 hi
