-- Bits moved as pairs: the planes of the pairs are p_layer on the bits, and the way back is its inverse.
-- Assumes nothing.
use mathlib.Core.Path.{◌≡◌, refl, sym, ap, ◌∙◌}
use mathlib.Core.Bool.{Bool, false}
use mathlib.Core.List.{List, [], ◌∷◌}
use Prim.Native.Nat.{ℕ, zero, suc, ◌+◌, ◌-◌, ◌*◌, ◌/◌, ◌%◌, ◌^◌, ◌≤◌, ◌<◌}
use native.Mathlib.Nat.{div-add-mod', div-one, div-div-eq-div-mul, div-lt_iff_lt-mul, mod-lt, mul_comm}
use native.Mathlib.Omega.{arith}
use lib.Arith.{mod-mul}
use lib.Dec.{T, eqb, eqb→eq}
use lib.Pow.{shr-shr}
use lib.ListN.{length, get_or, take, drop, replicate, length-drop, length-replicate}
use lib.Seq.{ext_get_or, get_or-take, get_or-drop, length-take-le}
use Rattle.standard.specs.Bits.{low_first, digit, bits_in}
use Rattle.standard.specs.Spongent.{p_layer}
use Rattle.standard.proofs.BitLaws.{bits_in-digit, bit-digit, length-bits_in, bits_in-drop, bits_in-zeros}
use Rattle.standard.proofs.SpongentLaws.{length-p_layer, p_layer-plane}
use Rattle.standard.proofs.Tests.{below, below_at, every, every-at, zero-to-three}
use Rattle.octets.proofs.FilledFrom.{zeros-at}
use Rattle.spongent.specs.Pairs.{Joined, pair_at, plane_pair}

-- ---- pairs and their places

pub pair_lt : (b x : ℕ) → plane_pair b x < 4
unfolding plane_pair
pair_lt b x = omega arith

pub pair_at-lt : (s : List ℕ) (j : ℕ) → pair_at s j < 4
unfolding pair_at
pair_at-lt s j = omega arith

-- the pair m of byte k
pub pair_at-in : (s : List ℕ) (k m : ℕ) → m < 4 → pair_at s (4 * k + m) ≡ get_or s k 0 / 2 ^ (2 * m) % 4
unfolding pair_at
pair_at-in s k m h =
    let ek : (4 * k + m) / 4 ≡ k = omega arith in
    let em : (4 * k + m) % 4 ≡ m = omega arith in
    rw (ek, em)

pub joined_at : (pairs r : List ℕ) (j : ℕ) → Joined pairs (j / 4) (get_or r (j / 4) 0) → pair_at r j ≡ get_or pairs j 0
unfolding pair_at
joined_at pairs r j h =
    let k : ℕ = j / 4 in
    let x : ℕ = get_or r k 0 in
    let e0 : 4 * k + 0 ≡ 4 * k = omega arith in
    let ej : 4 * k + j % 4 ≡ j = omega arith in
    rw ej at (zero-to-three (λ m. x / 2 ^ (2 * m) % 4 ≡ get_or pairs (4 * k + m) 0) (rw (div-one x, e0) h.0) h.1.0 h.1.1.0 h.1.1.1 (j % 4) (omega arith))

pairs_of : (w x y z n : ℕ) → w < 4 → x < 4 → y < 4 → z < 4 → n ≡ w + x * 4 + y * 16 + z * 64
    → (n % 4 ≡ w) × ((n / 4 % 4 ≡ x) × ((n / 16 % 4 ≡ y) × (n / 64 % 4 ≡ z)))
pairs_of w x y z n hw hx hy hz e = (omega arith, (omega arith, (omega arith, omega arith)))

-- a byte that is made of four pairs gives each of them back: one test, computed at all pairs
module _ (made : ℕ → ℕ → ℕ → ℕ → ℕ) (f g h k : ℕ → ℕ) where
  abbrev tests : ℕ → ℕ → List Bool
  tests n r = eqb (f r) (n % 4) ∷ eqb (g r) (n / 4 % 4) ∷ eqb (h r) (n / 16 % 4) ∷ eqb (k r) (n / 64 % 4) ∷ []

  abbrev of : ℕ → ℕ
  of n = made (n % 4) (n / 4 % 4) (n / 16 % 4) (n / 64 % 4)

  pub pairs-back : T (below (λ n. every (tests n (of n))) 256) → (w x y z : ℕ) → w < 4 → x < 4 → y < 4 → z < 4
      → (f (made w x y z) ≡ w) × ((g (made w x y z) ≡ x) × ((h (made w x y z) ≡ y) × (k (made w x y z) ≡ z)))
  pairs-back t w x y z hw hx hy hz =
      let n : ℕ = w + x * 4 + y * 16 + z * 64 in
      let e = pairs_of w x y z n hw hx hy hz refl in
      let passed = every-at (tests n (of n)) (below_at (λ m. every (tests m (of m))) 256 t n (omega arith)) in
      let m : of n ≡ made w x y z = rw (e.0, e.1.0, e.1.1.0, e.1.1.1) in (
        rw (← m) (eqb→eq (f (of n)) _ (passed 0) ∙ e.0),
        (
          rw (← m) (eqb→eq (g (of n)) _ (passed 1) ∙ e.1.0),
          (rw (← m) (eqb→eq (h (of n)) _ (passed 2) ∙ e.1.1.0), rw (← m) (eqb→eq (k (of n)) _ (passed 3) ∙ e.1.1.1)),
        ),
      )

-- the pairs of byte i are those at place i of the planes
abbrev pub Gathered : ℕ → List ℕ → ℕ → ℕ → Type 0
Gathered n pairs i x =
    (plane_pair 0 x ≡ get_or pairs i 0)
    × ((plane_pair 1 x ≡ get_or pairs (n + i) 0) × ((plane_pair 2 x ≡ get_or pairs (2 * n + i) 0) × (plane_pair 3 x ≡ get_or pairs (3 * n + i) 0)))

plane-lt : (j n : ℕ) → j < 4 * n → j / n < 4
plane-lt j n h = (div-lt_iff_lt-mul {k = n} {x = j} {y = 4} (omega arith)).1 h

-- what holds at each place of each plane of n pairs holds at every place
pub in-planes : (n : ℕ) (Q : ℕ → ℕ → ℕ → Type 0)
    → ((i : ℕ) → i < n → Q i 0 i) → ((i : ℕ) → i < n → Q (n + i) 1 i) → ((i : ℕ) → i < n → Q (2 * n + i) 2 i) → ((i : ℕ) → i < n → Q (3 * n + i) 3 i)
    → (j : ℕ) → j < 4 * n → Q j (j / n) (j % n)
in-planes n Q q0 q1 q2 q3 j h =
    let i : ℕ = j % n in
    let hi : i < n = mod-lt j {m = n} (omega arith) in
    let e0 : 0 * n + i ≡ i = omega arith in
    let e1 : 1 * n + i ≡ n + i = omega arith in
    rw (div-add-mod' j n) at (zero-to-three (λ b. Q (b * n + i) b i) (rw e0 (q0 i hi)) (rw e1 (q1 i hi)) (q2 i hi) (q3 i hi) (j / n) (plane-lt j n h))

-- ---- their bits

low-of-four : (y e : ℕ) → e < 2 → y % 4 / 2 ^ e % 2 ≡ y / 2 ^ e % 2
low-of-four y zero h = omega arith
low-of-four y (suc zero) h = omega arith
low-of-four y (suc (suc e)) h = absurd (omega arith)

pair_at-digit : (r : List ℕ) (k : ℕ) → pair_at r (k / 2) / 2 ^ (k % 2) % 2 ≡ get_or r (k / 8) 0 / 2 ^ (k % 8) % 2
unfolding pair_at
pair_at-digit r k =
    let ei : k / 2 / 4 ≡ k / 8 = omega arith in
    let ew : 2 * (k / 2 % 4) + k % 2 ≡ k % 8 = omega arith in
    rw (low-of-four _ (k % 2) (omega arith), shr-shr, ei, ew)

plane_pair-digit : (b x e : ℕ) → e < 2 → plane_pair b x / 2 ^ e % 2 ≡ x / 2 ^ (4 * e + b) % 2
unfolding plane_pair
plane_pair-digit b x zero h = let z : 4 * 0 + b ≡ b = omega arith in omega (arith, ap (λ (l : ℕ). x / 2 ^ l % 2) z)
plane_pair-digit b x (suc zero) h = let z : 4 * 1 + b ≡ b + 4 = omega arith in omega (arith, ap (λ (l : ℕ). x / 2 ^ l % 2) z)
plane_pair-digit b x (suc (suc e)) h = absurd (omega arith)

-- ---- the state

-- r is s moved, n bytes of each
abbrev pub Moved : ℕ → List ℕ → List ℕ → Type 0
Moved n s r = (j : ℕ) → j < 4 * n → pair_at r j ≡ plane_pair (j / n) (get_or s (j % n) 0)

same-digit : (a b : Bool) → digit a ≡ digit b → a ≡ b
same-digit a b e = rw (← bit-digit a, e, bit-digit)

module _ (t : ℕ) (least : 8 ≤ t) (most : t ≤ 288) (whole : t % 8 ≡ 0) (s r : List ℕ) (ls : length s ≡ 36) (lr : length r ≡ 36) where
  -- bit k of r comes from where p_layer takes it
  moved-digit : Moved (t / 8) s r → (k p : ℕ) → k < t → p ≡ 4 * (k % (t / 4)) + k / (t / 4) → get_or r (k / 8) 0 / 2 ^ (k % 8) % 2 ≡ get_or s (p / 8) 0 / 2 ^ (p % 8) % 2
  moved-digit h k p hk ep =
      let n : ℕ = t / 8 in
      let j : ℕ = k / 2 in
      let hj : j < 4 * n = omega arith in
      let q : t / 4 ≡ n * 2 = omega arith in
      let hb : j / n < 4 = plane-lt j n hj in
      let eb : k / (t / 4) ≡ j / n = rw (q, mul_comm n 2, div-div-eq-div-mul) in
      let ei : k % (t / 4) ≡ j % n * 2 + k % 2 = rw q (mod-mul k {m = n} {c = 2} (omega arith) (omega arith)) in
      let ip : j % n ≡ p / 8 = omega arith in
      let wp : 4 * (k % 2) + j / n ≡ p % 8 = omega arith in
      rw (← pair_at-digit r k, h j hj, plane_pair-digit (j / n) (get_or s (j % n) 0) (k % 2) (omega arith), ip, wp)

  pub moved-bits : Moved (t / 8) s r → take t (bits_in low_first r) ≡ p_layer t (t / 4) (take t (bits_in low_first s))
  moved-bits h =
      let R : List Bool = bits_in low_first r in
      let S : List Bool = bits_in low_first s in
      let P : List Bool = p_layer t (t / 4) (take t S) in
      let l_r : length (take t R) ≡ t = length-take-le t R (omega (arith, length-bits_in low_first r)) in
      ext_get_or false (take t R) P (l_r ∙ sym (length-p_layer t (t / 4) (take t S)))
      (λ k hl.
      let hk : k < t = omega arith in
      let p : ℕ = 4 * (k % (t / 4)) + k / (t / 4) in
      let hp : p < t = place-lt k hk in
      same-digit (get_or (take t R) k false) (get_or P k false)
      (ap digit (get_or-take t R k false hk) ∙ bits_in-digit r k (omega arith) ∙ moved-digit h k p hk refl ∙ sym (bits_in-digit s p (omega arith))
      ∙ ap digit (sym (p_layer-plane t (t / 4) (omega arith) (take t S) k hk ∙ get_or-take t S p false hp))))
    where
      place-lt : (k : ℕ) → k < t → 4 * (k % (t / 4)) + k / (t / 4) < t
      place-lt k hk =
          let hi : k % (t / 4) < t / 4 = mod-lt k {m = t / 4} (omega arith) in
          let hb : k / (t / 4) < 4 = plane-lt k (t / 4) (omega arith) in
          omega arith

module _ (t : ℕ) (least : 8 ≤ t) (most : t ≤ 288) (whole : t % 8 ≡ 0) (r : List ℕ) (lr : length r ≡ 36) where
  pub bits-after : ((k : ℕ) → t / 8 ≤ k → get_or r k 0 ≡ 0) → drop t (bits_in low_first r) ≡ replicate (288 - t) false
  bits-after h =
      let et : 8 * (t / 8) ≡ t = omega arith in
      let left : 8 * (36 - t / 8) ≡ 288 - t = omega arith in
      rw (none, bits_in-zeros, et, left) at (bits_in-drop low_first (t / 8) r)
    where
      none : drop (t / 8) r ≡ replicate (36 - t / 8) 0
      none =
          ext_get_or 0 (drop (t / 8) r) (replicate (36 - t / 8) 0) (simp (length-drop, lr, length-replicate))
          (λ k hk. rw (get_or-drop, h (t / 8 + k) (omega arith), zeros-at))
