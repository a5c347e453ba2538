-- A round by look-ups, for any number n of bytes and any table of nibbles: where each pair is what the look-ups give, the bits are replaced and moved.
-- Assumes nothing.
use mathlib.Core.Path.{◌≡◌, refl, sym, ap, ap₂, ◌∙◌}
use mathlib.Core.Bool.{Bool}
use mathlib.Core.List.{List, [], ◌∷◌, ◌++◌}
use mathlib.Core.Logic.{⊎_elim}
use Prim.Native.Nat.{ℕ, zero, suc, min, ◌+◌, ◌-◌, ◌*◌, ◌/◌, ◌%◌, ◌^◌, ◌≤◌, ◌<◌}
use native.Mathlib.Nat.{mul-one, lt_of_lt_of_le, div-add-mod', div-lt_iff_lt-mul, mod-lt, zero-div, min-le_left, min-le_right, le-min, le_of_suc-le-suc, not-suc-le-zero}
use native.Mathlib.Omega.{arith}
use lib.Bits.{bit_xor, xor_zero_l, xor_zero_r}
use lib.ListN.{length, get_or, set, take, drop, replicate, length-set}
use lib.Seq.{length-take-le}
use Rattle.standard.specs.Bits.{low_first, bits_in, unpack}
use Rattle.standard.specs.declared.Direction.TheVariants.{Forward}
use Rattle.standard.specs.Spongent.{nibbles, c_addition, s_box_layer, p_layer, spongent_round}
use Rattle.standard.specs.Counters.{reversal}
use Rattle.standard.proofs.BitLaws.{length-bits_in}
use Rattle.standard.proofs.SpongentLaws.{length-s_box_layer, length-c_addition}
use Rattle.standard.proofs.Reversal.{reversal-lt}
use Rattle.standard.proofs.Tests.{lt-or-le, bound-below}
use Rattle.octets.proofs.FilledFrom.{zeros-at}
use Rattle.octets.proofs.Mapped.{mapped, length-mapped}
use Rattle.spongent.specs.Pairs.{plane_pair}
use Rattle.spongent.specs.Words.{bytes_in, pair_in, s_box_byte, spread_word, lanes_into}
use Rattle.spongent.proofs.Layers.{byte_by, byte-nibbles, mapped-bits, bytes-c_addition, first-bits}
use Rattle.spongent.proofs.Places.{pair_lt, moved-bits}
use Rattle.spongent.proofs.Shifts.{shifted_down, shifted_past, shifted-before}
use Rattle.spongent.proofs.WordLaws.{length-bytes_in, bytes_in-at, bytes_in-lt, pairs-in-bytes, xored_word, byte-xored}
use Rattle.spongent.proofs.TableLaws.{lane, row, row_lt, row_at, given, spread-lane}
use Rattle.spongent.proofs.LanePlaces.{lanes-pair}

-- ---- all pairs at once

mapped-before : (f : ℕ → ℕ) (n : ℕ) (s : List ℕ) (k : ℕ) → k < n → k < length s → get_or (mapped f n s) k 0 ≡ f (get_or s k 0)
mapped-before f n [] k h l = absurd (not-suc-le-zero l)
mapped-before f zero (x ∷ s) k h l = absurd (not-suc-le-zero h)
mapped-before f (suc n) (x ∷ s) zero h l = refl
mapped-before f (suc n) (x ∷ s) (suc k) h l = mapped-before f n s k (le_of_suc-le-suc h) (le_of_suc-le-suc l)

-- the pair m of n bytes that are looked up
abbrev pub looked_up : List ℕ → ℕ → List ℕ → ℕ → ℕ
looked_up box n s m = plane_pair (m / n) (s_box_byte box (get_or s (m % n) 0))

module _ (n : ℕ) (least : 0 < n) (most : n ≤ 36) (box : List ℕ) (small : (x : ℕ) → x < 16 → get_or box x 0 < 16) where
  -- words r whose pairs are what the look-ups of the bytes s give hold the bits of s, replaced and moved
  pub look-up-round : (s r : List ℕ) → length s ≡ 36 → ((i : ℕ) → get_or s i 0 < 256) → ((m : ℕ) → m < 4 * n → pair_in r m ≡ looked_up box n s m)
      → take (8 * n) (bits_in low_first (bytes_in r)) ≡ p_layer (8 * n) (8 * n / 4) (s_box_layer box (take (8 * n) (bits_in low_first s)))
  unfolding s_box_byte
  look-up-round s r ls bs h =
      let t : ℕ = 8 * n in
      let en : t / 8 ≡ n = omega arith in
      let s' : List ℕ = mapped (byte_by box) n s in
      let L : List Bool = bits_in low_first s in
      let x : List Bool = s_box_layer box (take t L) in
      let lt : length (take t L) ≡ t = length-take-le t L (omega (arith, length-bits_in low_first s)) in
      let lx : length x ≡ t = length-s_box_layer box (take t L) (omega arith) ∙ lt in
      moved-bits t (omega arith) (omega arith) (omega arith) s' (bytes_in r) (length-mapped (byte_by box) n s ∙ ls) (length-bytes_in r)
      (λ j l.
      let i : ℕ = j % n in
      let hi : i < n = mod-lt j {m = n} least in
      rw en
      (pairs-in-bytes r j (omega arith) ∙ h j (omega arith)
      ∙ ap (plane_pair (j / n)) (byte-nibbles box small (get_or s i 0) (bs i) ∙ sym (mapped-before (byte_by box) n s i hi (omega arith)))))
      ∙ ap (p_layer t (t / 4)) (first-bits t (bits_in low_first s') x (drop t L) lx (mapped-bits box n s))

-- ---- a word at a time

-- the first j words are looked up, and nothing else is written
abbrev pub Looked : List ℕ → ℕ → List ℕ → ℕ → List ℕ → Type 0
Looked box n w j out =
    (m : ℕ) → m < 4 * n → (m % n < 8 * j → pair_in out m ≡ looked_up box n (bytes_in w) m) × (8 * j ≤ m % n → pair_in out m ≡ 0)

no_pairs : (m : ℕ) → pair_in (replicate 8 0) m ≡ 0
unfolding pair_in
no_pairs m = rw (zeros-at 8 (m / 32), zero-div)

module _ (box : List ℕ) (n : ℕ) (least : 0 < n) (most : n ≤ 36) (w : List ℕ) where
  pub looked-none : Looked box n w 0 (replicate 8 0)
  looked-none m h = (λ l. absurd (omega arith), λ l. no_pairs m)

  module _ (j c lanes : ℕ) (out out' : List ℕ) (more : 8 * j < n) (ec : c ≡ min (n - 8 * j) 8) (el : lanes ≡ spread_word box c (get_or w j 0))
      (put : (m : ℕ) → pair_in out' m ≡ lanes_into lanes (16 * j) n m 4 (pair_in out m)) where
    narrow : c ≤ 8
    narrow = rw ec (min-le_right (n - 8 * j) 8)

    inside : 8 * j + c ≤ n
    inside = let h : c ≤ n - 8 * j = rw ec (min-le_left (n - 8 * j) 8) in omega arith

    enough : (i : ℕ) → i < 8 → i < n - 8 * j → i < c
    enough i h l = rw ec (le-min l h)

    lane-is : (b : ℕ) → b < 4 → lane lanes b ≡ row (given box (get_or w j 0) b) c
    lane-is b h = ap (λ (l : ℕ). lane l b) el ∙ spread-lane box (get_or w j 0) b c h narrow

    pair_is : (b i : ℕ) → b < 4 → i < n → pair_in out' (b * n + i) ≡ bit_xor (pair_in out (b * n + i)) (lane lanes b * 2 ^ (2 * (8 * j)) / 2 ^ (2 * i) % 4)
    pair_is b i hb hi =
        let e : 16 * j ≡ 2 * (8 * j) = omega arith in
        let x : ℕ = pair_in out (b * n + i) in
        put (b * n + i) ∙ ap (λ (p : ℕ). lanes_into lanes p n (b * n + i) 4 x) e
        ∙ lanes-pair lanes (8 * j) c n inside
        (λ d l. rw (lane-is d l) (row_lt (given box (get_or w j 0) d) (λ k. pair_lt d (s_box_byte box (get_or w j 0 / 2 ^ (8 * k) % 256))) c)) b i x hb hi

    -- what the word j gives to the pair i of plane b: nothing before its first byte
    nothing-before : (b i : ℕ) → i < 8 * j → lane lanes b * 2 ^ (2 * (8 * j)) / 2 ^ (2 * i) % 4 ≡ 0
    nothing-before b i h = shifted-before (lane lanes b) 2 (2 * (8 * j)) (2 * i) (omega arith)

    -- its own bytes
    own : (b i : ℕ) → b < 4 → i < n → 8 * j ≤ i → i < 8 * (j + 1) → lane lanes b * 2 ^ (2 * (8 * j)) / 2 ^ (2 * i) % 4 ≡ plane_pair b (s_box_byte box (get_or (bytes_in w) i 0))
    own b i hb hi l u =
        let k : ℕ = i - 8 * j in
        let ek : 2 * i - 2 * (8 * j) ≡ 2 * k = omega arith in
        let eq : j ≡ i / 8 = omega arith in
        let er : k ≡ i % 8 = omega arith in
        ap (λ (y : ℕ). y % 4) (shifted_down (lane lanes b) (2 * (8 * j)) (2 * i) (omega arith))
        ∙ ap₂ (λ (y p : ℕ). y / 2 ^ p % 4) (lane-is b hb) ek
        ∙ row_at (given box (get_or w j 0) b) (λ m. pair_lt b (s_box_byte box (get_or w j 0 / 2 ^ (8 * m) % 256))) c k (enough k (omega arith) (omega arith))
        ∙ ap (λ (y : ℕ). plane_pair b (s_box_byte box y)) (ap₂ (λ (p q : ℕ). get_or w p 0 / 2 ^ (8 * q) % 256) eq er ∙ sym (bytes_in-at w i (omega arith)))

    -- and nothing after them
    nothing-after : (b i : ℕ) → b < 4 → 8 * (j + 1) ≤ i → lane lanes b * 2 ^ (2 * (8 * j)) / 2 ^ (2 * i) % 4 ≡ 0
    nothing-after b i hb u =
        let f : ℕ → ℕ = given box (get_or w j 0) b in
        ap (λ (y : ℕ). y % 4)
        (shifted_past (lane lanes b) (2 * c) (2 * (8 * j)) (2 * i)
        (rw (lane-is b hb) (row_lt f (λ k. pair_lt b (s_box_byte box (get_or w j 0 / 2 ^ (8 * k) % 256))) c)) (omega (arith, narrow)))

    pub looked-more : Looked box n w j out → Looked box n w (j + 1) out'
    looked-more done m h =
        let b : ℕ = m / n in
        let i : ℕ = m % n in
        let hb : b < 4 = (div-lt_iff_lt-mul {k = n} {x = m} {y = 4} least).1 h in
        let hi : i < n = mod-lt m {m = n} least in
        let y : ℕ = lane lanes b * 2 ^ (2 * (8 * j)) / 2 ^ (2 * i) % 4 in
        let now : pair_in out' m ≡ bit_xor (pair_in out m) y = rw (div-add-mod' m n) at (pair_is b i hb hi) in (
          (λ (l : i < 8 * (j + 1)).
              ⊎_elim
              (λ (u : i < 8 * j). now ∙ ap₂ bit_xor ((done m h).0 u) (nothing-before b i u) ∙ xor_zero_r (looked_up box n (bytes_in w) m))
              (λ (u : 8 * j ≤ i). now ∙ ap₂ bit_xor ((done m h).1 u) (own b i hb hi u l) ∙ xor_zero_l (looked_up box n (bytes_in w) m))
              (lt-or-le i (8 * j))),
          (λ (l : 8 * (j + 1) ≤ i). now ∙ ap₂ bit_xor ((done m h).1 (omega arith)) (nothing-after b i hb l)),
        )

-- ---- the round

-- the words with x xored into the first, where the counter goes, and y into the one of the last of n bytes, where its reverse goes
abbrev pub counted : List ℕ → ℕ → ℕ → ℕ → List ℕ
counted w n x y = xored_word (xored_word w 0 x) ((n - 1) / 8) y

module _ (w : List ℕ) (n c r x y : ℕ) (lw : length w ≡ 8) (least : 0 < n) (most : n ≤ 36) (byte : c < 256) (mirror : r ≡ reversal 8 c)
    (ex : x ≡ c) (ey : y ≡ r * 2 ^ (8 * ((n - 1) % 8))) where
  counted-bits : bits_in low_first (bytes_in (counted w n x y))
      ≡ c_addition (8 * n) c (take (8 * n) (bits_in low_first (bytes_in w))) ++ drop (8 * n) (bits_in low_first (bytes_in w))
  counted-bits =
      let hr : r < 256 = rw mirror (reversal-lt 8 c) in
      let one : List ℕ = xored_word w 0 x in
      let lone : length one ≡ 8 = length-set w 0 (bit_xor (get_or w 0 0) x) ∙ lw in
      let first : bytes_in one ≡ set (bytes_in w) 0 (bit_xor (get_or (bytes_in w) 0 0) c) =
      ap (λ (z : ℕ). bytes_in (xored_word w 0 z)) (ex ∙ sym (mul-one c)) ∙ byte-xored w 0 c lw (omega arith) byte in
      let last : bytes_in (counted w n x y) ≡ set (bytes_in one) (n - 1) (bit_xor (get_or (bytes_in one) (n - 1) 0) r) =
      ap (λ (z : ℕ). bytes_in (xored_word one ((n - 1) / 8) z)) ey ∙ byte-xored one (n - 1) r lone (omega arith) hr in
      ap (bits_in low_first) last ∙ bytes-c_addition (bytes_in w) n c r least (omega (arith, length-bytes_in w)) byte mirror (bytes_in one) first

  pub looked-round : (j : ℕ) (out : List ℕ) → n ≤ 8 * j → Looked nibbles n (counted w n x y) j out
      → unpack low_first (8 * n) (bytes_in out) ≡ spongent_round (8 * n) Forward (unpack low_first (8 * n) (bytes_in w)) c
  unfolding unpack spongent_round
  looked-round j out all done =
      let t : ℕ = 8 * n in
      let s : List ℕ = bytes_in (counted w n x y) in
      let L : List Bool = bits_in low_first (bytes_in w) in
      let added : List Bool = c_addition t c (take t L) in
      let la : length added ≡ t = length-c_addition t c (take t L) ∙ length-take-le t L (omega (arith, length-bits_in low_first (bytes_in w), length-bytes_in w)) in
      look-up-round n least most nibbles (bound-below _ 16 16 tt) s out (length-bytes_in (counted w n x y)) (bytes_in-lt (counted w n x y))
      (λ m h. (done m h).0 (lt_of_lt_of_le (mod-lt m {m = n} least) all))
      ∙ ap (λ (l : List Bool). p_layer t (t / 4) (s_box_layer nibbles l)) (first-bits t (bits_in low_first s) added (drop t L) la counted-bits)
