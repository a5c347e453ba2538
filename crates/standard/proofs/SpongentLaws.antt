-- SPONGENT for any state of t bits: what each layer keeps, and that the layers, a round and the permutation are undone by their opposites.
-- Assumes nothing.
use mathlib.Core.Path.{◌≡◌, refl, sym, ap, ◌∙◌}
use mathlib.Core.Bool.{Bool, true, false, xor}
use mathlib.Core.List.{List, [], ◌∷◌, ◌++◌, flat_map}
use mathlib.Core.Logic.{⊎_elim, ◌⊎◌}
use Prim.Native.Nat.{ℕ, zero, suc, ◌+◌, ◌-◌, ◌*◌, ◌/◌, ◌%◌, ◌≤◌, ◌<◌}
use native.Mathlib.Nat.{le_of_suc-le-suc, not-suc-le-zero, mul_assoc, mul_comm, div-add-mod', add-mul, mul-add-mod_self_right, mod-eq_of_lt, mod-lt, eq-or-lt_of_le, mul-suc, mul_right_comm, div-lt_iff_lt-mul}
use native.Mathlib.Omega.{arith}
use lib.ListN.{length, get_or, length-set, length-append, length-replicate}
use lib.Seq.{get_or-set_same, get_or-set_other, ext_get_or}
use borrow.Author.Tests.{eq-eqb, ne_eqb}
use Rattle.standard.specs.Bits.{low_first, high_first, low_bits, low_value, bits_of, cut, xor_into}
use Rattle.standard.specs.Rounds.{opposite}
use Rattle.standard.specs.declared.Direction.{Direction}
use Rattle.standard.specs.declared.Direction.TheVariants.{Forward, Backward}
use Rattle.standard.specs.Spongent.{c_addition, nibbles, s_box_layer, goes_to, placed, p_layer, spongent_round, SpongentParameters, l_counters, spongent_permutation}
use Rattle.standard.specs.Backward.{unnibbles}
use Rattle.standard.proofs.BitLaws.{length-low_bits, length-xor_into, xor_into-twice, low_value-low_bits, low_bits-low_value, low_value-lt, xor-false}
use Rattle.standard.proofs.Tests.{zero-to-three, Back, entry, tables-back}
use Rattle.standard.proofs.Undo.{All, all_of, rounds-keep, rounds-undo}

-- ---- p_layer

pub length-placed : (f : ℕ → ℕ) (t : ℕ) (s : List Bool) (n : ℕ) → length (placed f t s n) ≡ t
unfolding placed
length-placed f t s zero = length-replicate t false
length-placed f t s (suc j) = length-set (placed f t s j) (f j) (get_or s j false) ∙ length-placed f t s j

module _ (f g : ℕ → ℕ) (t : ℕ) (u : Back t f g) (s : List Bool) where
  -- bit j stands where f says, and no later bit is put there
  placed-there : (n j : ℕ) → n ≤ t → j < n → get_or (placed f t s n) (f j) false ≡ get_or s j false
  unfolding placed
  placed-there zero j hn h = absurd (not-suc-le-zero h)
  placed-there (suc n) j hn h =
      ⊎_elim
      (λ e. rw e (get_or-set_same (placed f t s n) (f n) (get_or s n false) false (rw length-placed (u.within n hn))))
      (λ l. get_or-set_other (placed f t s n) (f n) (f j) (get_or s n false) false
      (λ e. let z : j ≡ n = sym (u.back j (omega arith)) ∙ ap g e ∙ u.back n hn in omega arith)
      ∙ placed-there n j (omega arith) l)
      (eq-or-lt_of_le (le_of_suc-le-suc h))

module _ (f g : ℕ → ℕ) (t : ℕ) (u : Back t f g) (v : Back t g f) where
  -- bit k of the result comes from where g says
  pub placed_at : (s : List Bool) (k : ℕ) → k < t → get_or (placed f t s t) k false ≡ get_or s (g k) false
  placed_at s k h =
      ap (λ (m : ℕ). get_or (placed f t s t) m false) (sym (v.back k h)) ∙ placed-there f g t u s t (g k) (omega arith) (v.within k h)

pub placed-undo : (f g : ℕ → ℕ) (t : ℕ) → Back t f g → Back t g f → (s : List Bool) → length s ≡ t → placed g t (placed f t s t) t ≡ s
placed-undo f g t u v s e =
    ext_get_or false (placed g t (placed f t s t) t) s (length-placed g t (placed f t s t) t ∙ sym e)
    (λ k h. let h' : k < t = rw length-placed at h in
    rw (placed_at g f t v u (placed f t s t) k h', placed_at f g t u v s (f k) (u.within k h'), u.back k h'))

mod-mul-mod : (a b n : ℕ) → a % n * b % n ≡ a * b % n
mod-mul-mod a b n =
    let e : a * b ≡ a / n * b * n + a % n * b = rw mul_right_comm at (rw (div-add-mod' a n) at (add-mul (a / n * n) (a % n) b)) in
    rw e (sym (mul-add-mod_self_right (a / n * b) n (a % n * b)))

pub goes_to-last : (t m j : ℕ) → j ≡ t - 1 → goes_to t m j ≡ j
unfolding goes_to
goes_to-last t m j e = rw (eq-eqb j (t - 1) e)

pub goes_to-other : (t m j : ℕ) → j < t - 1 → goes_to t m j ≡ j * m % (t - 1)
unfolding goes_to
goes_to-other t m j h = rw (ne_eqb j (t - 1) (λ e. omega arith))

last? : (t j : ℕ) → j < t → (j ≡ t - 1) ⊎ (j < t - 1)
last? t j h = eq-or-lt_of_le (omega arith)

pub goes_to-within : (t m j : ℕ) → j < t → goes_to t m j < t
goes_to-within t m j h =
    ⊎_elim (λ e. rw (goes_to-last t m j e) h)
    (λ l. rw (goes_to-other t m j l) (omega (arith, mod-lt (j * m) {m = t - 1} (omega arith)))) (last? t j h)

times_mod : (j u t : ℕ) → t ≡ suc u → j < u → j * t % u ≡ j
times_mod j u t e h = rw (e, mul-suc j u) (mul-add-mod_self_right j u j ∙ mod-eq_of_lt h)

-- j * a * b is j * t, and t is 1 modulo t - 1
goes_to-undo : (t a b : ℕ) → a * b ≡ t → (j : ℕ) → j < t → goes_to t b (goes_to t a j) ≡ j
goes_to-undo t a b e j h =
    ⊎_elim
    (λ l. rw (goes_to-last t a j l) (goes_to-last t b j l))
    (λ l. rw (goes_to-other t a j l, goes_to-other t b (j * a % (t - 1)) (mod-lt (j * a) {m = t - 1} (omega arith)), mod-mul-mod, mul_assoc, e)
    (times_mod j (t - 1) t (omega arith) l))
    (last? t j h)

pub goes_to-back : (t a b : ℕ) → a * b ≡ t → Back t (goes_to t a) (goes_to t b)
goes_to-back t a b e = record { within = goes_to-within t a; back = goes_to-undo t a b e }

pub length-p_layer : (t m : ℕ) (s : List Bool) → length (p_layer t m s) ≡ t
unfolding p_layer
length-p_layer t m s = length-placed (goes_to t m) t s t

pub p_layer-at : (t a b : ℕ) → a * b ≡ t → (s : List Bool) (k : ℕ) → k < t → get_or (p_layer t a s) k false ≡ get_or s (goes_to t b k) false
unfolding p_layer
p_layer-at t a b e s k h = placed_at (goes_to t a) (goes_to t b) t (goes_to-back t a b e) (goes_to-back t b a (mul_comm b a ∙ e)) s k h

pub p_layer-undo : (t a b : ℕ) → a * b ≡ t → (s : List Bool) → length s ≡ t → p_layer t b (p_layer t a s) ≡ s
unfolding p_layer
p_layer-undo t a b e s h = placed-undo (goes_to t a) (goes_to t b) t (goes_to-back t a b e) (goes_to-back t b a (mul_comm b a ∙ e)) s h

-- ---- p_layer by planes: the result is bit 0 of every nibble, then bit 1 of every nibble, and so on

module _ (t q : ℕ) (et : t ≡ 4 * q) where
  goes_to-turned : (b i : ℕ) → b * q + i < t → (b * q + i) * 4 ≡ b * (t - 1) + (4 * i + b) → (b * q + i ≡ t - 1 → 4 * i + b ≡ b * q + i)
      → (b * q + i < t - 1 → 4 * i + b < t - 1) → goes_to t 4 (b * q + i) ≡ 4 * i + b
  goes_to-turned b i h e last other =
      ⊎_elim
      (λ z. goes_to-last t 4 (b * q + i) z ∙ sym (last z))
      (λ l. rw (goes_to-other t 4 (b * q + i) l, e, mul-add-mod_self_right) (mod-eq_of_lt (other l)))
      (last? t (b * q + i) h)

  goes_to-plane : (k : ℕ) → k < t → goes_to t 4 k ≡ 4 * (k % q) + k / q
  goes_to-plane k h =
      let i : ℕ = k % q in
      let hi : i < q = mod-lt k {m = q} (omega arith) in
      ap (goes_to t 4) (sym (div-add-mod' k q))
      ∙ zero-to-three (λ b. goes_to t 4 (b * q + i) ≡ 4 * i + b)
      (goes_to-turned 0 i (omega arith) (omega arith) (λ e. omega arith) (λ l. omega arith))
      (goes_to-turned 1 i (omega arith) (omega arith) (λ e. omega arith) (λ l. omega arith))
      (goes_to-turned 2 i (omega arith) (omega arith) (λ e. omega arith) (λ l. omega arith))
      (goes_to-turned 3 i (omega arith) (omega arith) (λ e. omega arith) (λ l. omega arith))
      (k / q) ((div-lt_iff_lt-mul (omega arith)).1 (omega arith))

  -- bit k is bit k / q of the nibble k % q
  pub p_layer-plane : (s : List Bool) (k : ℕ) → k < t → get_or (p_layer t q s) k false ≡ get_or s (4 * (k % q) + k / q) false
  p_layer-plane s k h = p_layer-at t q 4 (omega arith) s k h ∙ ap (λ (j : ℕ). get_or s j false) (goes_to-plane k h)

-- ---- s_box_layer

-- nibble by nibble
pub s_box_layer-none : (box : List ℕ) → s_box_layer box [] ≡ []
unfolding s_box_layer cut flat_map
s_box_layer-none box = refl

pub s_box_layer-more : (box : List ℕ) (a b c d : Bool) (s : List Bool)
    → s_box_layer box (a ∷ b ∷ c ∷ d ∷ s) ≡ low_bits 4 (get_or box (low_value (a ∷ b ∷ c ∷ d ∷ [])) 0) ++ s_box_layer box s
unfolding s_box_layer cut flat_map
s_box_layer-more box a b c d s =
    let one : length (a ∷ b ∷ c ∷ d ∷ s) / 4 ≡ suc (length s / 4) = omega arith in
    ap (λ (n : ℕ). flat_map (λ z. low_bits 4 (get_or box (low_value z) 0)) (cut 4 n (a ∷ b ∷ c ∷ d ∷ s))) one

pub length-s_box_layer : (box : List ℕ) (s : List Bool) → length s % 4 ≡ 0 → length (s_box_layer box s) ≡ length s
length-s_box_layer box [] h = ap length (s_box_layer-none box)
length-s_box_layer box (a ∷ []) h = absurd (omega arith)
length-s_box_layer box (a ∷ b ∷ []) h = absurd (omega arith)
length-s_box_layer box (a ∷ b ∷ c ∷ []) h = absurd (omega arith)
length-s_box_layer box (a ∷ b ∷ c ∷ d ∷ s) h =
    let x : List Bool = low_bits 4 (get_or box (low_value (a ∷ b ∷ c ∷ d ∷ [])) 0) in
    let four : length x ≡ 4 = length-low_bits 4 (get_or box (low_value (a ∷ b ∷ c ∷ d ∷ [])) 0) in
    ap length (s_box_layer-more box a b c d s) ∙ length-append x (s_box_layer box s) ∙ omega (arith, four, length-s_box_layer box s (omega arith))

-- the second table takes back the nibbles of the first
module _ (box unbox : List ℕ) (h : Back 16 (entry box) (entry unbox)) where
  nibble-undo : (bs : List Bool) → length bs ≡ 4 → low_bits 4 (entry unbox (low_value (low_bits 4 (entry box (low_value bs))))) ≡ bs
  nibble-undo bs e =
      let lt : low_value bs < 16 = rw e at (low_value-lt bs) in
      rw (low_value-low_bits 4 (entry box (low_value bs)) (h.within (low_value bs) lt), h.back (low_value bs) lt) (rw e at (low_bits-low_value bs))

  first-nibble : (y : ℕ) (s : List Bool) → s_box_layer unbox (low_bits 4 y ++ s) ≡ low_bits 4 (entry unbox (low_value (low_bits 4 y))) ++ s_box_layer unbox s
  unfolding low_bits
  first-nibble y s = s_box_layer-more unbox _ _ _ _ s

  pub s_box_layer-undo : (s : List Bool) → length s % 4 ≡ 0 → s_box_layer unbox (s_box_layer box s) ≡ s
  s_box_layer-undo [] e = ap (s_box_layer unbox) (s_box_layer-none box) ∙ s_box_layer-none unbox
  s_box_layer-undo (a ∷ []) e = absurd (omega arith)
  s_box_layer-undo (a ∷ b ∷ []) e = absurd (omega arith)
  s_box_layer-undo (a ∷ b ∷ c ∷ []) e = absurd (omega arith)
  s_box_layer-undo (a ∷ b ∷ c ∷ d ∷ s) e =
      ap (s_box_layer unbox) (s_box_layer-more box a b c d s)
      ∙ first-nibble (entry box (low_value (a ∷ b ∷ c ∷ d ∷ []))) (s_box_layer box s)
      ∙ rw (nibble-undo (a ∷ b ∷ c ∷ d ∷ []) refl, s_box_layer-undo s (omega arith))

pub nibbles-back : Back 16 (entry nibbles) (entry unnibbles)
nibbles-back = tables-back 16 nibbles unnibbles tt

pub unnibbles-back : Back 16 (entry unnibbles) (entry nibbles)
unnibbles-back = tables-back 16 unnibbles nibbles tt

-- ---- c_addition

pub length-c_addition : (t c : ℕ) (s : List Bool) → length (c_addition t c s) ≡ length s
unfolding c_addition
length-c_addition t c s = simp length-xor_into

xor-swap : (x y z : Bool) → xor (xor x y) z ≡ xor (xor x z) y
unfolding xor
xor-swap x true true = refl
xor-swap x true false = rw (xor-false (xor x true), xor-false x)
xor-swap x false true = rw (xor-false (xor x true), xor-false x)
xor-swap x false false = refl

xor_into-swap : (s a b : List Bool) → xor_into (xor_into s a) b ≡ xor_into (xor_into s b) a
unfolding xor_into
xor_into-swap [] a b = refl
xor_into-swap (x ∷ s) [] [] = refl
xor_into-swap (x ∷ s) (y ∷ a) [] = refl
xor_into-swap (x ∷ s) [] (z ∷ b) = refl
xor_into-swap (x ∷ s) (y ∷ a) (z ∷ b) = rw (xor-swap x y z, xor_into-swap s a b)

pub c_addition-twice : (t c : ℕ) (s : List Bool) → c_addition t c (c_addition t c s) ≡ s
unfolding c_addition
c_addition-twice t c s =
    let a : List Bool = bits_of low_first t c in
    rw (xor_into-swap (xor_into s a) (bits_of high_first t c) a, xor_into-twice (xor_into (xor_into s a) a), xor_into-twice)

-- ---- rounds

module _ (t : ℕ) (h : t % 4 ≡ 0) where
  quarter : t / 4 * 4 ≡ t
  quarter = omega arith

  -- t bits are whole nibbles
  nibbles-whole : (s : List Bool) → length s ≡ t → length s % 4 ≡ 0
  nibbles-whole s e = ap (λ (n : ℕ). n % 4) e ∙ h

  length-replaced : (box : List ℕ) (s : List Bool) → length s ≡ t → length (s_box_layer box s) ≡ t
  length-replaced box s e = length-s_box_layer box s (nibbles-whole s e) ∙ e

  pub length-spongent_round : (w : Direction) (s : List Bool) (c : ℕ) → length (spongent_round t w s c) ≡ t
  unfolding spongent_round
  length-spongent_round Forward s c = length-p_layer t (t / 4) _
  length-spongent_round Backward s c = length-c_addition t c _ ∙ length-replaced unnibbles (p_layer t 4 s) (length-p_layer t 4 s)

  pub spongent_round-undo : (w : Direction) (s : List Bool) (c : ℕ) → length s ≡ t → spongent_round t (opposite w) (spongent_round t w s c) c ≡ s
  unfolding spongent_round
  spongent_round-undo Forward s c e =
      let l : length (c_addition t c s) ≡ t = length-c_addition t c s ∙ e in
      rw (p_layer-undo t (t / 4) 4 quarter (s_box_layer nibbles (c_addition t c s)) (length-replaced nibbles (c_addition t c s) l), s_box_layer-undo nibbles unnibbles nibbles-back (c_addition t c s) (nibbles-whole (c_addition t c s) l), c_addition-twice)
  spongent_round-undo Backward s c e =
      rw (c_addition-twice, s_box_layer-undo unnibbles nibbles unnibbles-back (p_layer t 4 s) (nibbles-whole (p_layer t 4 s) (length-p_layer t 4 s)))
      (p_layer-undo t 4 (t / 4) (mul_comm 4 (t / 4) ∙ quarter) s e)

-- ---- the permutation

module _ (p : SpongentParameters) (h : p.t % 4 ≡ 0) where
  keeps : (w : Direction) (s : List Bool) (c : ℕ) → length s ≡ p.t → Unit {0} → length (spongent_round p.t w s c) ≡ p.t
  keeps w s c e u = length-spongent_round p.t h w s c

  undo : (w : Direction) (s : List Bool) (c : ℕ) → length s ≡ p.t → Unit {0} → spongent_round p.t (opposite w) (spongent_round p.t w s c) c ≡ s
  undo w s c e u = spongent_round-undo p.t h w s c e

  -- the rounds ask nothing of a counter
  any : All (λ c. Unit {0}) (l_counters p)
  any = all_of (λ c. Unit {0}) 0 (l_counters p) (λ k l. tt)

  pub length-spongent_permutation : (w : Direction) (s : List Bool) → length s ≡ p.t → length (spongent_permutation p w s) ≡ p.t
  unfolding spongent_permutation
  length-spongent_permutation w s e = rounds-keep (λ x. length x ≡ p.t) (λ c. Unit {0}) (spongent_round p.t) keeps undo w (l_counters p) any s e

  pub spongent_permutation-undo : (w : Direction) (s : List Bool) → length s ≡ p.t → spongent_permutation p (opposite w) (spongent_permutation p w s) ≡ s
  unfolding spongent_permutation
  spongent_permutation-undo w s e = rounds-undo (λ x. length x ≡ p.t) (λ c. Unit {0}) (spongent_round p.t) keeps undo w (l_counters p) any s e
