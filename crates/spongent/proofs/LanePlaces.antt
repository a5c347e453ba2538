-- Lanes xored into words: a lane may lie across two words, and four of them go to the four planes.
-- Assumes nothing.
use mathlib.Core.Path.{◌≡◌, refl, sym, ap, ap₂, ◌∙◌}
use mathlib.Core.List.{List}
use mathlib.Core.Logic.{⊎_elim}
use Prim.Native.Nat.{ℕ, zero, suc, ◌+◌, ◌-◌, ◌*◌, ◌/◌, ◌%◌, ◌^◌, ◌≤◌, ◌<◌}
use native.Mathlib.Nat.{div-one, add-zero, add-suc, suc-mul, mul-le-mul_right, mul_left_comm, le_refl}
use native.Mathlib.Omega.{arith}
use lib.Pow.{shr-shr}
use lib.Bits.{bit_xor, xor_zero_r}
use lib.ListN.{length, get_or, length-set}
use Rattle.standard.proofs.Tests.{lt-or-le}
use Rattle.spongent.specs.Words.{pair_in, lanes_into}
use Rattle.spongent.proofs.Shifts.{shifted_down, shifted-both, shifted_past, shifted-before, masked}
use Rattle.spongent.proofs.WordLaws.{same_or_not, xored_word, word-xored, word_kept}
use Rattle.spongent.proofs.TableLaws.{lane}

-- ---- one lane

-- the part of a number from the bit p on that lies in the word of that bit, and the part in the next word
abbrev pub low_part : ℕ → ℕ → ℕ
low_part p x = x * 2 ^ (p % 64) % 2 ^ 64

abbrev pub high_part : ℕ → ℕ → ℕ
high_part p x = x / 2 / 2 ^ (63 - p % 64)

module _ (w : List ℕ) (p x : ℕ) (lw : length w ≡ 8) (even : p % 2 ≡ 0) (hp : p < 448) (hx : x < 65536) where
  low-pair : (m : ℕ) → m / 32 ≡ p / 64 → low_part p x / 2 ^ (2 * (m % 32)) % 4 ≡ x * 2 ^ p / 2 ^ (2 * m) % 4
  low-pair m e =
      let a : ℕ = 64 * (p / 64) in
      let ep : a + p % 64 ≡ p = omega arith in
      let em : a + 2 * (m % 32) ≡ 2 * m = omega arith in
      masked (x * 2 ^ (p % 64)) 64 (2 * (m % 32)) 2 (omega arith)
      ∙ ap (λ (y : ℕ). y % 4) (sym (shifted-both x a (p % 64) (2 * (m % 32))) ∙ ap₂ (λ (k l : ℕ). x * 2 ^ k / 2 ^ l) ep em)

  high-pair : (m : ℕ) → m / 32 ≡ p / 64 + 1 → high_part p x / 2 ^ (2 * (m % 32)) % 4 ≡ x * 2 ^ p / 2 ^ (2 * m) % 4
  high-pair m e =
      let d : ℕ = 63 - p % 64 in
      let ed : 1 + (d + 2 * (m % 32)) ≡ 2 * m - p = omega arith in
      ap (λ (y : ℕ). y % 4)
      (shr-shr (x / 2) d (2 * (m % 32)) ∙ shr-shr x 1 (d + 2 * (m % 32)) ∙ ap (λ (l : ℕ). x / 2 ^ l) ed ∙ sym (shifted_down x p (2 * m) (omega arith)))

  no-pair : (m : ℕ) → (m / 32 ≡ p / 64 → ⊥) → (m / 32 ≡ p / 64 + 1 → ⊥) → x * 2 ^ p / 2 ^ (2 * m) % 4 ≡ 0
  no-pair m n n' =
      ⊎_elim
      (λ (l : m / 32 < p / 64). shifted-before x 2 p (2 * m) (omega arith))
      (λ (l : p / 64 ≤ m / 32).
      ⊎_elim
      (λ (u : m / 32 < p / 64 + 2). absurd (between l u))
      (λ (u : p / 64 + 2 ≤ m / 32). ap (λ (y : ℕ). y % 4) (shifted_past x 16 p (2 * m) hx (omega arith)))
      (lt-or-le (m / 32) (p / 64 + 2)))
      (lt-or-le (m / 32) (p / 64))
    where
      between : p / 64 ≤ m / 32 → m / 32 < p / 64 + 2 → ⊥
      between l u = ⊎_elim (λ (v : m / 32 < p / 64 + 1). n (omega arith)) (λ (v : p / 64 + 1 ≤ m / 32). n' (omega arith)) (lt-or-le (m / 32) (p / 64 + 1))

  pub put-pair : (m : ℕ) → pair_in (xored_word (xored_word w (p / 64) (low_part p x)) (p / 64 + 1) (high_part p x)) m ≡ bit_xor (pair_in w m) (x * 2 ^ p / 2 ^ (2 * m) % 4)
  unfolding pair_in
  put-pair m =
      let q : ℕ = p / 64 in
      let once : List ℕ = xored_word w q (low_part p x) in
      let lo : length once ≡ 8 = length-set w q (bit_xor (get_or w q 0) (low_part p x)) ∙ lw in
      let k : ℕ = m / 32 in
      let j : ℕ = 2 * (m % 32) in
      ⊎_elim
      (λ (e : k ≡ q).
      word_kept once (q + 1) (high_part p x) k j 2 (omega arith) (λ f. absurd (omega arith))
      ∙ rw e (word-xored w q (low_part p x) j 2 (omega arith))
      ∙ ap₂ (λ (y z : ℕ). bit_xor (get_or w y 0 / 2 ^ j % 4) z) (sym e) (low-pair m e))
      (λ (n : k ≡ q → ⊥).
      let first = word_kept w q (low_part p x) k j 2 (omega arith) (λ f. absurd (n f)) in
      ⊎_elim
      (λ (e : k ≡ q + 1).
      rw e (word-xored once (q + 1) (high_part p x) j 2 (omega arith))
      ∙ ap₂ bit_xor (ap (λ (y : ℕ). get_or once y 0 / 2 ^ j % 4) (sym e) ∙ first) (high-pair m e))
      (λ (n' : k ≡ q + 1 → ⊥).
      word_kept once (q + 1) (high_part p x) k j 2 (omega arith) (λ f. absurd (n' f)) ∙ first
      ∙ sym (ap (bit_xor (get_or w k 0 / 2 ^ j % 4)) (no-pair m n n') ∙ xor_zero_r (get_or w k 0 / 2 ^ j % 4)))
      (same_or_not k (q + 1)))
      (same_or_not k q)

-- ---- four lanes

-- four lanes of c pairs each, xored in from the pair a on, with a + c ≤ n: none reaches into a different plane
module _ (lanes a c n : ℕ) (fits : a + c ≤ n) (small : (b : ℕ) → b < 4 → lane lanes b < 2 ^ (2 * c)) (b i x : ℕ) (hb : b < 4) (hi : i < n) where
  -- what the lane d gives to the pair i of plane b
  part : ℕ → ℕ
  part d = lane lanes d * 2 ^ (2 * a + d * (2 * n)) / 2 ^ (2 * (b * n + i)) % 4

  place : (d : ℕ) → 2 * a + d * (2 * n) ≡ 2 * (d * n + a)
  place d = let e : d * (2 * n) ≡ 2 * (d * n) = mul_left_comm d 2 n in omega arith

  part-before : (d : ℕ) → d < b → part d ≡ 0
  unfolding part
  part-before d h =
      let l : suc d * n ≤ b * n = mul-le-mul_right n h in
      let e : suc d * n ≡ d * n + n = suc-mul d n in
      ap (λ (y : ℕ). y % 4) (shifted_past (lane lanes d) (2 * c) (2 * a + d * (2 * n)) (2 * (b * n + i)) (small d (omega arith)) (omega (arith, place d)))

  part-after : (d : ℕ) → b < d → part d ≡ 0
  unfolding part
  part-after d h =
      let l : suc b * n ≤ d * n = mul-le-mul_right n h in
      let e : suc b * n ≡ b * n + n = suc-mul b n in
      shifted-before (lane lanes d) 2 (2 * a + d * (2 * n)) (2 * (b * n + i)) (omega (arith, place d))

  part-own : part b ≡ lane lanes b * 2 ^ (2 * a) / 2 ^ (2 * i) % 4
  unfolding part
  part-own =
      let p : 2 * (b * n) + 2 * a ≡ 2 * a + b * (2 * n) = omega (arith, place b) in
      let m : 2 * (b * n) + 2 * i ≡ 2 * (b * n + i) = omega arith in
      ap (λ (y : ℕ). y % 4) (ap₂ (λ (k l : ℕ). lane lanes b * 2 ^ k / 2 ^ l) (sym p) (sym m) ∙ shifted-both (lane lanes b) (2 * (b * n)) (2 * a) (2 * i))

  lanes-before : (d : ℕ) → d ≤ b → lanes_into lanes (2 * a) n (b * n + i) d x ≡ x
  unfolding lanes_into part
  lanes-before zero h = refl
  lanes-before (suc d) h = ap₂ bit_xor (lanes-before d (omega arith)) (part-before d h) ∙ xor_zero_r x

  lanes-after : (d : ℕ) → lanes_into lanes (2 * a) n (b * n + i) (suc b + d) x ≡ bit_xor x (lane lanes b * 2 ^ (2 * a) / 2 ^ (2 * i) % 4)
  unfolding lanes_into part
  lanes-after zero = ap (λ (k : ℕ). lanes_into lanes (2 * a) n (b * n + i) k x) (add-zero (suc b)) ∙ ap₂ bit_xor (lanes-before b (le_refl b)) part-own
  lanes-after (suc d) =
      let y : ℕ = bit_xor x (lane lanes b * 2 ^ (2 * a) / 2 ^ (2 * i) % 4) in
      ap (λ (k : ℕ). lanes_into lanes (2 * a) n (b * n + i) k x) (add-suc (suc b) d) ∙ ap₂ bit_xor (lanes-after d) (part-after (suc b + d) (omega arith)) ∙ xor_zero_r y

  pub lanes-pair : lanes_into lanes (2 * a) n (b * n + i) 4 x ≡ bit_xor x (lane lanes b * 2 ^ (2 * a) / 2 ^ (2 * i) % 4)
  lanes-pair = let e : suc b + (3 - b) ≡ 4 = omega arith in ap (λ (k : ℕ). lanes_into lanes (2 * a) n (b * n + i) k x) (sym e) ∙ lanes-after (3 - b)

-- ---- lane after lane

-- some of the four lanes are put, the next goes to the bit p, and it is the lowest of those left
pub record Put (lanes at n : ℕ) (before after : List ℕ) (rest p : ℕ) : Type 0 where
  pub count : ℕ
  pub some : count ≤ 4
  pub place : p ≡ at + count * (2 * n)
  pub left : rest ≡ lanes / 2 ^ (16 * count)
  pub pairs : (m : ℕ) → pair_in after m ≡ lanes_into lanes at n m count (pair_in before m)

module _ {lanes at n : ℕ} {before : List ℕ} where
  pub put-none : Put lanes at n before before lanes at
  unfolding lanes_into
  put-none = record { count = 0; some = omega arith; place = omega arith; left = sym (div-one lanes); pairs = λ m. refl }

  module _ {after : List ℕ} {rest p : ℕ} (u : Put lanes at n before after rest p) where
    pub put-even : at % 2 ≡ 0 → p % 2 ≡ 0
    put-even h = let e : u.count * (2 * n) ≡ 2 * (u.count * n) = mul_left_comm u.count 2 n in omega (arith, u.place)

    pub put-more : p < 8 * n → (next : List ℕ) → ((m : ℕ) → pair_in next m ≡ bit_xor (pair_in after m) (rest % 65536 * 2 ^ p / 2 ^ (2 * m) % 4))
        → Put lanes at n before next (rest / 65536) (p + 2 * n)
    unfolding lanes_into
    put-more h next more =
        let k : ℕ = u.count in
        let fewer : k < 4 =
        ⊎_elim (λ (l : k < 4). l) (λ (l : 4 ≤ k). let f : 4 * (2 * n) ≤ k * (2 * n) = mul-le-mul_right (2 * n) l in absurd (omega (arith, u.place))) (lt-or-le k 4) in
        let e : suc k * (2 * n) ≡ k * (2 * n) + 2 * n = suc-mul k (2 * n) in
        let s : 16 * k + 16 ≡ 16 * suc k = omega arith in
        record {
          count = suc k;
          some = fewer;
          place = omega (arith, u.place);
          left = ap (λ (x : ℕ). x / 65536) u.left ∙ shr-shr lanes (16 * k) 16 ∙ ap (λ (l : ℕ). lanes / 2 ^ l) s;
          pairs = λ m. more m ∙ ap₂ bit_xor (u.pairs m) (ap₂ (λ (x q : ℕ). x % 65536 * 2 ^ q / 2 ^ (2 * m) % 4) u.left u.place);
        }

    pub put_all : at < 2 * n → 8 * n ≤ p → (m : ℕ) → pair_in after m ≡ lanes_into lanes at n m 4 (pair_in before m)
    put_all h l m =
        let k : ℕ = u.count in
        let all : 4 ≤ k =
        ⊎_elim (λ (f : k < 4). let g : k * (2 * n) ≤ 3 * (2 * n) = mul-le-mul_right (2 * n) (omega arith) in absurd (omega (arith, u.place))) (λ (f : 4 ≤ k). f) (lt-or-le k 4) in
        let e : k ≡ 4 = omega (arith, u.some) in
        u.pairs m ∙ ap (λ (d : ℕ). lanes_into lanes at n m d (pair_in before m)) e
