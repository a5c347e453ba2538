-- SPONGENT's counter and its reverse in each round of the permutation and of its inverse, for any parameters that are sound; and that those of Table 9 are.
-- Assumes nothing.
use mathlib.Core.Path.{◌≡◌, refl, sym, ap, ◌∙◌}
use mathlib.Core.Bool.{xor}
use mathlib.Core.List.{List, [], ◌∷◌}
use Prim.Native.Nat.{ℕ, zero, suc, ◌+◌, ◌-◌, ◌*◌, ◌^◌, ◌≤◌, ◌<◌}
use native.Mathlib.Nat.{mod-lt, not-suc-le-zero, le_of_suc-le-suc}
use native.Mathlib.Omega.{arith}
use lib.Pow.{pow_pos}
use lib.ListN.{length, get_or}
use Rattle.standard.specs.Bits.{digit}
use Rattle.standard.specs.Rounds.{iterate}
use Rattle.standard.specs.declared.Direction.{Direction}
use Rattle.standard.specs.declared.Direction.TheVariants.{Forward, Backward}
use Rattle.standard.specs.Spongent.{tapped, next_counter, counters, SpongentParameters, l_counters}
use Rattle.standard.specs.Counters.{previous_counter, reversal, stepped_counter, stepped_reversed, counter_in}
use Rattle.standard.specs.Variants.{spongent88, spongent136, spongent176, spongent240, spongent272}
use Rattle.standard.proofs.Undo.{iterate-out}
use Rattle.standard.proofs.Tab.{get_d_reverse}
use Rattle.standard.proofs.CounterSteps.{reversed-after, TopTap, previous-next, within}

-- ---- in each round

length-counters : (w : ℕ) (taps : List ℕ) (c n : ℕ) → length (counters w taps c n) ≡ n
unfolding counters
length-counters w taps c zero = refl
length-counters w taps c (suc n) = ap suc (length-counters w taps (next_counter w taps c) n)

counters-next : (w : ℕ) (taps : List ℕ) (c n k : ℕ) → suc k < n → get_or (counters w taps c n) (suc k) 0 ≡ next_counter w taps (get_or (counters w taps c n) k 0)
unfolding counters
counters-next w taps c zero k h = absurd (not-suc-le-zero h)
counters-next w taps c (suc zero) k h = absurd (omega arith)
counters-next w taps c (suc (suc n)) zero h = refl
counters-next w taps c (suc (suc n)) (suc k) h = counters-next w taps (next_counter w taps c) (suc n) k (le_of_suc-le-suc h)

counters-lt : (w : ℕ) (taps : List ℕ) (c n k : ℕ) → c < 2 ^ w → k < n → get_or (counters w taps c n) k 0 < 2 ^ w
unfolding counters next_counter
counters-lt w taps c zero k h l = absurd (not-suc-le-zero l)
counters-lt w taps c (suc n) zero h l = h
counters-lt w taps c (suc n) (suc k) h l =
    counters-lt w taps (next_counter w taps c) n k (mod-lt (c * 2 + digit (tapped taps c)) {m = 2 ^ w} (pow_pos w)) (le_of_suc-le-suc l)

counters-first : (w : ℕ) (taps : List ℕ) (c n : ℕ) → 0 < n → get_or (counters w taps c n) 0 0 ≡ c
unfolding counters
counters-first w taps c zero h = absurd (not-suc-le-zero h)
counters-first w taps c (suc n) h = refl

-- what the laws ask of Table 9's numbers
pub record SoundCounter (p : SpongentParameters) : Type 0 where
  pub taps : TopTap p.width p.taps
  pub fits : p.width ≤ p.t
  pub start : p.first < 2 ^ p.width

module _ (p : SpongentParameters) where
  abbrev R : ℕ
  R = p.R

  pub length-l_counters : length (l_counters p) ≡ R
  unfolding l_counters
  length-l_counters = length-counters p.width p.taps p.first R

  -- the permutation begins with the first value
  pub first-counter : 0 < R → counter_in p Forward 0 ≡ p.first
  unfolding l_counters
  first-counter = counters-first p.width p.taps p.first R

  -- and its inverse with the last counter
  last-first : (k : ℕ) → k < R → counter_in p Backward k ≡ counter_in p Forward (R - 1 - k)
  last-first k h = get_d_reverse (l_counters p) k 0 (rw length-l_counters h) ∙ ap (λ (n : ℕ). get_or (l_counters p) (n - 1 - k) 0) length-l_counters

module _ (p : SpongentParameters) (z : SoundCounter p) where
  abbrev n : ℕ
  n = p.R

  forward-lt : (k : ℕ) → k < n → counter_in p Forward k < 2 ^ p.width
  unfolding l_counters
  forward-lt k h = counters-lt p.width p.taps p.first n k z.start h

  pub counter_in-lt : (way : Direction) (k : ℕ) → k < n → counter_in p way k < 2 ^ p.width
  counter_in-lt Forward k h = forward-lt k h
  counter_in-lt Backward k h = rw (last-first p k h) (forward-lt (n - 1 - k) (omega arith))

  -- the counter of the next round is this one's, stepped
  pub counter_in-next : (way : Direction) (k : ℕ) → suc k < n → counter_in p way (suc k) ≡ stepped_counter way p.width p.taps (counter_in p way k)
  unfolding stepped_counter l_counters
  counter_in-next Forward k h = counters-next p.width p.taps p.first n k h
  counter_in-next Backward k h =
      let j : ℕ = n - 1 - suc k in
      let e : n - 1 - k ≡ suc j = omega arith in
      last-first p (suc k) h
      ∙ sym (previous-next p.width p.taps z.taps (counter_in p Forward j) (forward-lt j (omega arith)))
      ∙ ap (previous_counter p.width p.taps) (sym (counters-next p.width p.taps p.first n j (omega arith)) ∙ ap (λ (m : ℕ). counter_in p Forward m) (sym e) ∙ sym (last-first p k (omega arith)))

-- what is f of the one before, from place to place, is f many times of the first
steps_of : (f x : ℕ → ℕ) (n : ℕ) → ((k : ℕ) → suc k < n → x (suc k) ≡ f (x k)) → (k : ℕ) → k < n → x k ≡ iterate k f (x 0)
steps_of f x n next zero h = refl
steps_of f x n next (suc k) h = next k h ∙ ap f (steps_of f x n next k (omega arith)) ∙ sym (iterate-out f k (x 0))

module _ (p : SpongentParameters) (z : SoundCounter p) where
  -- in each round of the permutation, and of its inverse, the counter is the first round's, stepped as many times
  pub counter-stepped : (way : Direction) (k : ℕ) → k < p.R → counter_in p way k ≡ iterate k (stepped_counter way p.width p.taps) (counter_in p way 0)
  counter-stepped way = steps_of (stepped_counter way p.width p.taps) (counter_in p way) p.R (counter_in-next p z way)

  -- and its reversal, which c_addition adds, is the first round's, stepped as many times from its own bits
  pub reversed-stepped : (way : Direction) (k : ℕ) → k < p.R
      → reversal p.t (counter_in p way k) ≡ iterate k (stepped_reversed way p.t p.width p.taps) (reversal p.t (counter_in p way 0))
  reversed-stepped way k h =
      ap (reversal p.t) (counter-stepped way k h)
      ∙ sym (reversed-after p.t p.width p.taps z.taps.some z.fits (within p.width p.taps z.taps p.t z.fits) way k (counter_in p way 0)
      (counter_in-lt p z way 0 (omega arith)))

-- ---- Table 9

pub sound88 : SoundCounter spongent88
unfolding tapped xor
sound88 = record { taps = record { some = omega arith; below = (omega arith, (omega arith, tt)); top = refl }; fits = omega arith; start = omega arith }

-- three variants have seven bits
seven : TopTap 7 (6 ∷ 5 ∷ [])
unfolding tapped xor
seven = record { some = omega arith; below = (omega arith, (omega arith, tt)); top = refl }

pub sound136 : SoundCounter spongent136
sound136 = record { taps = seven; fits = omega arith; start = omega arith }

pub sound176 : SoundCounter spongent176
sound176 = record { taps = seven; fits = omega arith; start = omega arith }

pub sound240 : SoundCounter spongent240
sound240 = record { taps = seven; fits = omega arith; start = omega arith }

pub sound272 : SoundCounter spongent272
unfolding tapped xor
sound272 =
    record {
      taps = record { some = omega arith; below = (omega arith, (omega arith, (omega arith, (omega arith, tt)))); top = refl };
      fits = omega arith;
      start = omega arith;
    }
