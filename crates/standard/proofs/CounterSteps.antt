-- SPONGENT's counter and its reverse, one step of each, for any width and any taps: the reverse, stepped from its own bits, stays the reversal of the counter, and a step
-- the other way leads back where the top bit is a tap.
-- Assumes nothing.
use mathlib.Core.Path.{◌≡◌, refl, sym, ap, ap₂, ◌∙◌, subst}
use mathlib.Core.Bool.{Bool, true, false, xor}
use mathlib.Core.List.{List, [], ◌∷◌}
use mathlib.Core.Logic.{⊎_elim}
use Prim.Native.Nat.{ℕ, zero, suc, ◌+◌, ◌-◌, ◌*◌, ◌/◌, ◌%◌, ◌^◌, ◌≤◌, ◌<◌}
use native.Mathlib.Nat.{one-mul, zero-div, eq-or-lt_of_le, le_of_suc-le-suc, pow-suc, mul_comm, add_comm, mod-lt, mod-mod, mod-eq_of_lt, lt_of_lt_of_le, zero-mul, div-add-mod', zero-add, div-eq_of_lt, add-zero, zero-lt-suc, div-lt_iff_lt-mul}
use native.Mathlib.Numerals.{add-one}
use native.Mathlib.Omega.{arith}
use lib.Arith.{digits_div, digits_mod, digits_lt, mod-mul}
use lib.Pow.{pow_pos, pow_mono, shr-shr, shl-shr, high, low, split, shr_lt}
use lib.ListN.{get_or}
use Rattle.standard.specs.Bits.{bit, digit, low_bits}
use Rattle.standard.specs.Rounds.{opposite, iterate}
use Rattle.standard.specs.declared.Direction.{Direction}
use Rattle.standard.specs.declared.Direction.TheVariants.{Forward, Backward}
use Rattle.standard.specs.Spongent.{tapped, next_counter}
use Rattle.standard.specs.Counters.{previous_counter, reversal, mirrored, next_reversed, previous_reversed, stepped_counter, stepped_reversed}
use Rattle.standard.proofs.BitLaws.{xor-false, false-xor, bit-digit, digit-bit, digit_lt, low_bits-at, xor-xor}
use Rattle.standard.proofs.Undo.{All, all-at, all_of}
use Rattle.standard.proofs.Reversal.{reversal-add, reversal-lt, reversal-first, reversal-last, reversal-zero, low_bits-mod, reversal-mod, reversal-twice, reversal-moved, tapped-mirrored}

-- ---- one step

-- the sum of two sums, regrouped
xor-crossed : (a b c d : Bool) → xor (xor a b) (xor c d) ≡ xor (xor a c) (xor b d)
unfolding xor
xor-crossed true true true true = refl
xor-crossed true true true false = refl
xor-crossed true true false true = refl
xor-crossed true true false false = refl
xor-crossed true false true true = refl
xor-crossed true false true false = refl
xor-crossed true false false true = refl
xor-crossed true false false false = refl
xor-crossed false true true true = refl
xor-crossed false true true false = refl
xor-crossed false true false true = refl
xor-crossed false true false false = refl
xor-crossed false false true true = refl
xor-crossed false false true false = refl
xor-crossed false false false true = refl
xor-crossed false false false false = refl

-- a property of two numbers, of numbers that equal them
subst₂ : (P : ℕ → ℕ → Type 0) {a b c d : ℕ} → a ≡ b → c ≡ d → P a c → P b d
subst₂ P {a} {b} {c} {d} e f p = subst (λ (x : ℕ). P x d) e (subst (P a) f p)

-- the high bit cut before the shift, and not after it
pub next-suc : (v : ℕ) (taps : List ℕ) (c : ℕ) → c % 2 ^ v * 2 + digit (tapped taps c) ≡ next_counter (suc v) taps c
unfolding next_counter
next-suc v taps c =
    let hd : digit (tapped taps c) < 2 = digit_lt (tapped taps c) in
    rw (pow-suc, mod-mul (c * 2 + digit (tapped taps c)) (pow_pos v) (zero-lt-suc 1), digits_div c hd, digits_mod c hd)

half_lt : (v c : ℕ) → c < 2 ^ suc v → c / 2 < 2 ^ v
half_lt v c h = (div-lt_iff_lt-mul (zero-lt-suc 1)).1 (rw pow-suc at h)

-- a counter of suc v bits, and m places below its reverse
module _ (v m : ℕ) (taps : List ℕ) where
  abbrev w : ℕ
  w = suc v

  abbrev t : ℕ
  t = suc (v + m)

  below-is : t - w ≡ m
  below-is = omega arith

  top-is : t - 1 ≡ v + m
  top-is = omega arith

  -- the bits of c below v, one place down
  reversal-cut : (c : ℕ) → reversal (v + m) (c % 2 ^ v) ≡ reversal t c / 2 ^ (m + 1) * 2 ^ m
  reversal-cut c =
      let last : c / 2 ^ (v + m) % 2 < 2 = mod-lt (c / 2 ^ (v + m)) {m = 2} (zero-lt-suc 1) in
      let shifted : reversal t c / 2 ^ (m + 1) ≡ reversal v c =
      ap (λ (n : ℕ). reversal t c / 2 ^ n) (add_comm m 1) ∙ sym (shr-shr (reversal t c) 1 m)
      ∙ ap (λ (n : ℕ). n / 2 ^ m) (ap (λ (n : ℕ). n / 2) (reversal-last (v + m) c) ∙ digits_div (reversal (v + m) c) last)
      ∙ ap (λ (n : ℕ). n / 2 ^ m) (reversal-add v m c) ∙ high (reversal v c) m (reversal-lt m (c / 2 ^ v)) in
      let none : c % 2 ^ v / 2 ^ v ≡ 0 = div-eq_of_lt (mod-lt c {m = 2 ^ v} (pow_pos v)) in
      reversal-add v m (c % 2 ^ v)
      ∙ ap₂ (λ (a b : ℕ). a * 2 ^ m + b) (reversal-mod v c ∙ sym shifted) (ap (reversal m) none ∙ reversal-zero m)
      ∙ add-zero (reversal t c / 2 ^ (m + 1) * 2 ^ m)

  mirrors-next : All (λ k. k < t) taps → (c : ℕ) → next_reversed t w taps (reversal t c) ≡ reversal t (next_counter w taps c)
  unfolding next_reversed
  mirrors-next a c =
      let x : ℕ = digit (tapped taps c) in
      let hx : x < 2 = digit_lt (tapped taps c) in
      let next : reversal t (next_counter w taps c) ≡ x * 2 ^ (v + m) + reversal (v + m) (c % 2 ^ v) =
      ap (reversal t) (sym (next-suc v taps c)) ∙ reversal-first (v + m) (c % 2 ^ v * 2 + x)
      ∙ ap₂ (λ (a b : ℕ). a * 2 ^ (v + m) + reversal (v + m) b) (digits_mod (c % 2 ^ v) hx) (digits_div (c % 2 ^ v) hx) in
      ap₂ (λ (u k : ℕ). digit (tapped (mirrored t taps) (reversal t c)) * 2 ^ u + reversal t c / 2 ^ (k + 1) * 2 ^ k) top-is below-is
      ∙ ap₂ (λ (b : Bool) (n : ℕ). digit b * 2 ^ (v + m) + n) (tapped-mirrored t taps c a) (sym (reversal-cut c)) ∙ sym next

  -- the top bit of a counter of w bits comes last
  reversal-top : (y x : ℕ) → y < 2 → x < 2 ^ v → reversal t (y * 2 ^ v + x) ≡ reversal v x * 2 ^ suc m + y * 2 ^ m
  reversal-top y x hy hx =
      let c : ℕ = y * 2 ^ v + x in
      let e : t ≡ v + suc m = omega arith in
      let lower : reversal v c ≡ reversal v x = sym (reversal-mod v c) ∙ ap (reversal v) (low y v hx) in
      let none : y / 2 ≡ 0 = div-eq_of_lt hy in
      let upper : reversal (suc m) (c / 2 ^ v) ≡ y * 2 ^ m =
      ap (reversal (suc m)) (high y v hx) ∙ reversal-first m y
      ∙ ap₂ (λ (a b : ℕ). a * 2 ^ m + b) (mod-eq_of_lt hy) (ap (reversal m) none ∙ reversal-zero m) ∙ add-zero (y * 2 ^ m) in
      ap (λ (n : ℕ). reversal n c) e ∙ reversal-add v (suc m) c ∙ ap₂ (λ (a b : ℕ). a * 2 ^ suc m + b) lower upper

  mirrors-previous : All (λ k. k < t) taps → (c : ℕ) → c < 2 ^ w → previous_reversed t w taps (reversal t c) ≡ reversal t (previous_counter w taps c)
  unfolding previous_reversed previous_counter
  mirrors-previous a c h =
      let x : ℕ = c / 2 in
      let hx : x < 2 ^ v = half_lt v c h in
      let lx : reversal (v + m) x < 2 ^ (v + m) = reversal-lt (v + m) x in
      let first = reversal-first (v + m) c in
      let top : reversal t c / 2 ^ (v + m) % 2 ≡ c % 2 = ap (λ (n : ℕ). n / 2 ^ (v + m) % 2) first ∙ ap (λ (n : ℕ). n % 2) (high (c % 2) (v + m) lx) ∙ mod-mod c 2 in
      let rest : t - v ≡ suc m = omega arith in
      let whole : reversal t x ≡ reversal v x * 2 ^ suc m = rw rest at (reversal-moved t v x (omega arith) hx) in
      let none : x / 2 ^ (v + m) ≡ 0 = div-eq_of_lt (lt_of_lt_of_le hx (pow_mono (omega arith))) in
      let up : reversal t c % 2 ^ (v + m) * 2 ≡ reversal t x =
      ap (λ (n : ℕ). n % 2 ^ (v + m) * 2) first ∙ ap (λ (n : ℕ). n * 2) (low (c % 2) (v + m) lx)
      ∙ sym (reversal-last (v + m) x ∙ ap (λ (n : ℕ). reversal (v + m) x * 2 + n % 2) none ∙ add-zero (reversal (v + m) x * 2)) in
      let y : ℕ = digit (xor (bit (c % 2)) (tapped taps x)) in
      let hy : y < 2 = digit_lt (xor (bit (c % 2)) (tapped taps x)) in
      let d : ℕ = reversal t c in
      let last : suc v - 1 ≡ v = omega arith in
      ap₂ (λ (u k : ℕ). d % 2 ^ u * 2 + digit (xor (bit (d / 2 ^ u % 2)) (tapped (mirrored t taps) (d % 2 ^ u * 2))) * 2 ^ k) top-is below-is
      ∙ rw (top, up, tapped-mirrored t taps x a, last) (ap (λ (n : ℕ). n + y * 2 ^ m) whole ∙ sym (reversal-top y x hy hx))

-- ---- any width and any taps

-- a step leads from w bits to w bits
pub stepped-lt : (w : ℕ) (taps : List ℕ) → 1 ≤ w → (way : Direction) (c : ℕ) → c < 2 ^ w → stepped_counter way w taps c < 2 ^ w
unfolding stepped_counter next_counter previous_counter
stepped-lt w taps some Forward c h = mod-lt (c * 2 + digit (tapped taps c)) {m = 2 ^ w} (pow_pos w)
stepped-lt w taps some Backward c h =
    let b : Bool = xor (bit (c % 2)) (tapped taps (c / 2)) in
    let width : suc (w - 1) ≡ w = omega arith in
    let e : 2 ^ w ≡ 2 * 2 ^ (w - 1) = ap (λ (n : ℕ). 2 ^ n) (sym width) ∙ pow-suc 2 (w - 1) ∙ mul_comm (2 ^ (w - 1)) 2 in
    rw e (digits_lt (digit_lt b) (half_lt (w - 1) c (rw width h)))

-- a counter of w bits among t, and taps that number bits among them
module _ (t w : ℕ) (taps : List ℕ) (some : 1 ≤ w) (fits : w ≤ t) (within : All (λ k. k < t) taps) where
  counter-is : suc (w - 1) ≡ w
  counter-is = omega arith

  state-is : suc (w - 1 + (t - w)) ≡ t
  state-is = omega arith

  pub next-reversed : (c : ℕ) → next_reversed t w taps (reversal t c) ≡ reversal t (next_counter w taps c)
  next-reversed =
      subst₂ (λ (n k : ℕ). All (λ j. j < n) taps → (c : ℕ) → next_reversed n k taps (reversal n c) ≡ reversal n (next_counter k taps c)) state-is counter-is
      (mirrors-next (w - 1) (t - w) taps) within

  pub previous-reversed : (c : ℕ) → c < 2 ^ w → previous_reversed t w taps (reversal t c) ≡ reversal t (previous_counter w taps c)
  previous-reversed =
      subst₂ (λ (n k : ℕ). All (λ j. j < n) taps → (c : ℕ) → c < 2 ^ k → previous_reversed n k taps (reversal n c) ≡ reversal n (previous_counter k taps c)) state-is counter-is
      (mirrors-previous (w - 1) (t - w) taps) within

  -- either way
  pub stepped-reversed : (way : Direction) (c : ℕ) → c < 2 ^ w → stepped_reversed way t w taps (reversal t c) ≡ reversal t (stepped_counter way w taps c)
  unfolding stepped_reversed stepped_counter
  stepped-reversed Forward c h = next-reversed c
  stepped-reversed Backward c h = previous-reversed c h

  -- and as many times as one likes
  pub reversed-after : (way : Direction) (n c : ℕ) → c < 2 ^ w → iterate n (stepped_reversed way t w taps) (reversal t c) ≡ reversal t (iterate n (stepped_counter way w taps) c)
  reversed-after way zero c h = refl
  reversed-after way (suc n) c h =
      ap (iterate n (stepped_reversed way t w taps)) (stepped-reversed way c h) ∙ reversed-after way n (stepped_counter way w taps c) (stepped-lt w taps some way c h)

-- ---- a step taken back

-- taps of a counter of w bits, of which the top bit is one: counted once or any odd number of times, and in any order
pub record TopTap (w : ℕ) (taps : List ℕ) : Type 0 where
  pub some : 1 ≤ w
  pub below : All (λ k. k < w) taps
  pub top : tapped taps (2 ^ (w - 1)) ≡ true

tapped-zero : (taps : List ℕ) → tapped taps 0 ≡ false
unfolding tapped xor
tapped-zero [] = refl
tapped-zero (k ∷ taps) = rw (zero-div, tapped-zero taps)

module _ (v : ℕ) where
  low-bits : (y x : ℕ) → x < 2 ^ v → low_bits v (y * 2 ^ v + x) ≡ low_bits v x
  low-bits y x h = sym (low_bits-mod v (y * 2 ^ v + x)) ∙ ap (low_bits v) (low y v h)

  -- a bit of a number of v bits, and one bit above them
  bit-above : (y x k : ℕ) → y < 2 → x < 2 ^ v → k < suc v → bit ((y * 2 ^ v + x) / 2 ^ k % 2) ≡ xor (bit (y * 2 ^ v / 2 ^ k % 2)) (bit (x / 2 ^ k % 2))
  bit-above y x k hy hx hk =
      ⊎_elim
      (λ (e : k ≡ v).
      let over : (y * 2 ^ v + x) / 2 ^ v ≡ y = high y v hx in
      let top : y * 2 ^ v / 2 ^ v ≡ y = shl-shr y v in
      let none : x / 2 ^ v ≡ 0 = div-eq_of_lt hx in
      rw (e, over, top, none) (sym (xor-false (bit (y % 2)))))
      (λ (l : k < v).
      let alone : bit (y * 2 ^ v / 2 ^ k % 2) ≡ false =
      ap (λ (n : ℕ). bit (n / 2 ^ k % 2)) (sym (add-zero (y * 2 ^ v))) ∙ sym (low_bits-at v (y * 2 ^ v + 0) k l)
      ∙ ap (λ (b : List Bool). get_or b k false) (low-bits y 0 (pow_pos v)) ∙ low_bits-at v 0 k l ∙ ap (λ (n : ℕ). bit (n % 2)) (zero-div (2 ^ k)) in
      sym (low_bits-at v (y * 2 ^ v + x) k l) ∙ ap (λ (b : List Bool). get_or b k false) (low-bits y x hx) ∙ low_bits-at v x k l
      ∙ rw alone (sym (false-xor (bit (x / 2 ^ k % 2)))))
      (eq-or-lt_of_le (le_of_suc-le-suc hk))

  -- so the taps read both apart
  tapped-apart : (taps : List ℕ) → All (λ k. k < suc v) taps → (y x : ℕ) → y < 2 → x < 2 ^ v → tapped taps (y * 2 ^ v + x) ≡ xor (tapped taps (y * 2 ^ v)) (tapped taps x)
  unfolding tapped
  tapped-apart [] a y x hy hx = sym (false-xor false)
  tapped-apart (k ∷ taps) a y x hy hx =
      ap₂ xor (bit-above y x k hy hx a.0) (tapped-apart taps a.1 y x hy hx)
      ∙ xor-crossed (bit (y * 2 ^ v / 2 ^ k % 2)) (bit (x / 2 ^ k % 2)) (tapped taps (y * 2 ^ v)) (tapped taps x)

module _ (v : ℕ) (taps : List ℕ) (below : All (λ k. k < suc v) taps) (top : tapped taps (2 ^ v) ≡ true) where
  top-alone : (y : ℕ) → y < 2 → tapped taps (y * 2 ^ v) ≡ bit y
  top-alone zero h = ap (tapped taps) (zero-mul (2 ^ v)) ∙ tapped-zero taps
  top-alone (suc zero) h = ap (tapped taps) (one-mul (2 ^ v)) ∙ top
  top-alone (suc (suc y)) h = absurd (omega arith)

  -- a counter by its top bit and the others
  tapped-top : (y x : ℕ) → y < 2 → x < 2 ^ v → tapped taps (y * 2 ^ v + x) ≡ xor (bit y) (tapped taps x)
  tapped-top y x hy hx = tapped-apart v taps below y x hy hx ∙ ap (λ (b : Bool). xor b (tapped taps x)) (top-alone y hy)

  next_of : (y x : ℕ) → y < 2 → x < 2 ^ v → next_counter (suc v) taps (y * 2 ^ v + x) ≡ x * 2 + digit (xor (bit y) (tapped taps x))
  next_of y x hy hx = sym (next-suc v taps (y * 2 ^ v + x)) ∙ ap₂ (λ (n : ℕ) (b : Bool). n * 2 + digit b) (low y v hx) (tapped-top y x hy hx)

  previous-of : (x : ℕ) (b : Bool) → previous_counter (suc v) taps (x * 2 + digit b) ≡ digit (xor b (tapped taps x)) * 2 ^ v + x
  unfolding previous_counter
  previous-of x b =
      let last : suc v - 1 ≡ v = omega arith in
      rw (last, digits_div x (digit_lt b), digits_mod x (digit_lt b), bit-digit b)

  next-back : (c : ℕ) → c < 2 ^ suc v → previous_counter (suc v) taps (next_counter (suc v) taps c) ≡ c
  next-back c h =
      let y : ℕ = c / 2 ^ v in
      let x : ℕ = c % 2 ^ v in
      let hy : y < 2 = shr_lt 1 v (rw (← add_comm v 1, add-one v) h) in
      let hx : x < 2 ^ v = mod-lt c {m = 2 ^ v} (pow_pos v) in
      ap (λ (n : ℕ). previous_counter (suc v) taps (next_counter (suc v) taps n)) (sym (split c v))
      ∙ ap (previous_counter (suc v) taps) (next_of y x hy hx) ∙ previous-of x (xor (bit y) (tapped taps x))
      ∙ ap (λ (n : ℕ). n * 2 ^ v + x) (ap digit (xor-xor (bit y) (tapped taps x)) ∙ ap (λ (n : ℕ). digit (bit n)) (sym (mod-eq_of_lt hy)) ∙ digit-bit y ∙ mod-eq_of_lt hy)
      ∙ split c v

  previous-back : (c : ℕ) → c < 2 ^ suc v → next_counter (suc v) taps (previous_counter (suc v) taps c) ≡ c
  previous-back c h =
      let x : ℕ = c / 2 in
      let b : Bool = bit (c % 2) in
      let y : Bool = xor b (tapped taps x) in
      let halves : x * 2 + digit b ≡ c = ap (λ (n : ℕ). x * 2 + n) (digit-bit c) ∙ div-add-mod' c 2 in
      ap (λ (n : ℕ). next_counter (suc v) taps (previous_counter (suc v) taps n)) (sym halves)
      ∙ ap (next_counter (suc v) taps) (previous-of x b) ∙ next_of (digit y) x (digit_lt y) (half_lt v c h)
      ∙ ap (λ (a : Bool). x * 2 + digit a) (ap (λ (a : Bool). xor a (tapped taps x)) (bit-digit y) ∙ xor-xor b (tapped taps x))
      ∙ halves

-- the same of w bits
module _ (w : ℕ) (taps : List ℕ) (z : TopTap w taps) where
  width_is : suc (w - 1) ≡ w
  width_is = let h : 1 ≤ w = z.some in omega arith

  pub previous-next : (c : ℕ) → c < 2 ^ w → previous_counter w taps (next_counter w taps c) ≡ c
  previous-next =
      subst (λ (n : ℕ). All (λ k. k < n) taps → (c : ℕ) → c < 2 ^ n → previous_counter n taps (next_counter n taps c) ≡ c) width_is
      (λ below. next-back (w - 1) taps below z.top) z.below

  next-previous : (c : ℕ) → c < 2 ^ w → next_counter w taps (previous_counter w taps c) ≡ c
  next-previous =
      subst (λ (n : ℕ). All (λ k. k < n) taps → (c : ℕ) → c < 2 ^ n → next_counter n taps (previous_counter n taps c) ≡ c) width_is
      (λ below. previous-back (w - 1) taps below z.top) z.below

  -- a step the other way leads back
  pub stepped-undo : (way : Direction) (c : ℕ) → c < 2 ^ w → stepped_counter (opposite way) w taps (stepped_counter way w taps c) ≡ c
  unfolding stepped_counter
  stepped-undo Forward c h = previous-next c h
  stepped-undo Backward c h = next-previous c h

  -- so it does for the reverse: w bits from the place t - w on
  module _ (t : ℕ) (fits : w ≤ t) where
    pub within : All (λ k. k < t) taps
    within = all_of (λ k. k < t) 0 taps (λ k l. omega (arith, all-at (λ j. j < w) 0 taps z.below k l))

    -- such a number is the reversal of its reversal, which has w bits
    reversed-counter : (d : ℕ) → d < 2 ^ t → d % 2 ^ (t - w) ≡ 0 → reversal t d < 2 ^ w
    reversed-counter d l h =
        let size : t ≡ (t - w) + w = omega arith in
        let none : reversal (t - w) d ≡ 0 = sym (reversal-mod (t - w) d) ∙ ap (reversal (t - w)) h ∙ reversal-zero (t - w) in
        let upper : ℕ = reversal w (d / 2 ^ (t - w)) in
        let is : reversal t d ≡ upper =
        ap (λ (n : ℕ). reversal n d) size ∙ reversal-add (t - w) w d ∙ ap (λ (n : ℕ). n * 2 ^ w + upper) none ∙ ap (λ (n : ℕ). n + upper) (zero-mul (2 ^ w)) ∙ zero-add upper in
        rw is (reversal-lt w (d / 2 ^ (t - w)))

    pub reversed-undo : (way : Direction) (d : ℕ) → d < 2 ^ t → d % 2 ^ (t - w) ≡ 0 → stepped_reversed (opposite way) t w taps (stepped_reversed way t w taps d) ≡ d
    reversed-undo way d l h =
        let c : ℕ = reversal t d in
        let hc : c < 2 ^ w = reversed-counter d l h in
        let back : reversal t c ≡ d = reversal-twice t d l in
        ap (λ (n : ℕ). stepped_reversed (opposite way) t w taps (stepped_reversed way t w taps n)) (sym back)
        ∙ ap (stepped_reversed (opposite way) t w taps) (stepped-reversed t w taps z.some fits within way c hc)
        ∙ stepped-reversed t w taps z.some fits within (opposite way) (stepped_counter way w taps c) (stepped-lt w taps z.some way c hc)
        ∙ ap (reversal t) (stepped-undo way c hc) ∙ back
