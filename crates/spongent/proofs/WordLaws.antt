-- Words against the bytes and the pairs of bits that they hold.
-- Assumes nothing.
use mathlib.Core.Path.{◌≡◌, refl, sym, ap, ap₂, ◌∙◌}
use mathlib.Core.List.{List, ◌++◌}
use mathlib.Core.Logic.{◌⊎◌, inl, inr, ⊎_elim}
use Prim.Native.Nat.{ℕ, suc, ◌+◌, ◌-◌, ◌*◌, ◌/◌, ◌%◌, ◌^◌, ◌≤◌, ◌<◌}
use native.Mathlib.Nat.{mod-eq_of_lt, zero-div}
use lib.Arith.{lt_of_le-ne}
use native.Mathlib.Numerals.{add-one}
use native.Mathlib.Omega.{arith}
use lib.Pow.{shl-shr, shr-shr, shl_exact}
use lib.Bits.{bit_xor, xor_zero_l, xor_zero_r}
use lib.ListN.{length, get_or, set, take, replicate, length-set, get_or-eq_default}
use lib.Seq.{length-take-le, take-suc, append_snoc, set_at, ext_get_or, get_or-set_same, get_or-set_other}
use Rattle.standard.specs.Bits.{low_first, bits_in, pack, unpack}
use Rattle.standard.proofs.BitLaws.{length-bits_in, bits_in-take, pack-bits_in, pack-whole}
use Rattle.standard.proofs.Tab.{get_d-tab}
use Rattle.standard.proofs.Tests.{lt-or-le}
use Rattle.octets.proofs.ByteLaws.{take-bytes}
use Rattle.octets.proofs.FilledFrom.{zeros-at}
use Rattle.octets.proofs.Upto.{Upto, upto-more}
use Rattle.spongent.specs.Pairs.{pair_at}
use Rattle.spongent.specs.Words.{bytes_in, pair_in}
use Rattle.spongent.proofs.Shifts.{shifted_past, shifted-before, masked, xored}

pub same_or_not : (a b : ℕ) → (a ≡ b) ⊎ (a ≡ b → ⊥)
same_or_not a b =
    ⊎_elim (λ (l : a < b). inr (λ e. omega arith)) (λ (l : b ≤ a). ⊎_elim (λ (m : b < a). inr (λ e. omega arith)) (λ (m : a ≤ b). inl (omega arith)) (lt-or-le b a)) (lt-or-le a b)

pub length-bytes_in : (w : List ℕ) → length (bytes_in w) ≡ 36
unfolding bytes_in
length-bytes_in w = refl

pub bytes_in-at : (w : List ℕ) (i : ℕ) → i < 36 → get_or (bytes_in w) i 0 ≡ get_or w (i / 8) 0 / 2 ^ (8 * (i % 8)) % 256
unfolding bytes_in
bytes_in-at w i h = get_d-tab 36 (λ k. get_or w (k / 8) 0 / 2 ^ (8 * (k % 8)) % 256) i 0 h

pub bytes_in-lt : (w : List ℕ) (i : ℕ) → get_or (bytes_in w) i 0 < 256
bytes_in-lt w i =
    ⊎_elim (λ (h : i < 36). rw (bytes_in-at w i h) (omega arith)) (λ (h : 36 ≤ i). rw (get_or-eq_default (bytes_in w) 0 {n = i} (omega (arith, length-bytes_in w))) (omega arith)) (lt-or-le i 36)

-- the pairs of the bytes are those of the words
pub pairs-in-bytes : (w : List ℕ) (j : ℕ) → j < 144 → pair_at (bytes_in w) j ≡ pair_in w j
unfolding pair_at pair_in
pairs-in-bytes w j h =
    let ei : j / 4 / 8 ≡ j / 32 = omega arith in
    let ew : 8 * (j / 4 % 8) + 2 * (j % 4) ≡ 2 * (j % 32) = omega arith in
    let x : ℕ = get_or w (j / 4 / 8) 0 / 2 ^ (8 * (j / 4 % 8)) in
    ap (λ (y : ℕ). y / 2 ^ (2 * (j % 4)) % 4) (bytes_in-at w (j / 4) (omega arith))
    ∙ masked x 8 (2 * (j % 4)) 2 (omega arith)
    ∙ ap (λ (y : ℕ). y % 4) (shr-shr (get_or w (j / 4 / 8) 0) (8 * (j / 4 % 8)) (2 * (j % 4)))
    ∙ ap₂ (λ (k l : ℕ). get_or w k 0 / 2 ^ l % 4) ei ew

-- ---- a number xored into one word

abbrev pub xored_word : List ℕ → ℕ → ℕ → List ℕ
xored_word w q y = set w q (bit_xor (get_or w q 0) y)

-- d bits from the bit j on, of that word
pub word-xored : (w : List ℕ) (q y j d : ℕ) → q < length w
    → get_or (xored_word w q y) q 0 / 2 ^ j % 2 ^ d ≡ bit_xor (get_or w q 0 / 2 ^ j % 2 ^ d) (y / 2 ^ j % 2 ^ d)
word-xored w q y j d h = ap (λ (z : ℕ). z / 2 ^ j % 2 ^ d) (get_or-set_same w q (bit_xor (get_or w q 0) y) 0 h) ∙ xored (get_or w q 0) y j d

-- and of any word, where the number has none of them
pub word_kept : (w : List ℕ) (q y k j d : ℕ) → q < length w → (k ≡ q → y / 2 ^ j % 2 ^ d ≡ 0)
    → get_or (xored_word w q y) k 0 / 2 ^ j % 2 ^ d ≡ get_or w k 0 / 2 ^ j % 2 ^ d
word_kept w q y k j d h none =
    ⊎_elim
    (λ (e : k ≡ q).
    let x : ℕ = get_or w q 0 / 2 ^ j % 2 ^ d in
    rw e (word-xored w q y j d h ∙ ap (bit_xor x) (none e) ∙ xor_zero_r x))
    (λ (n : k ≡ q → ⊥). ap (λ (z : ℕ). z / 2 ^ j % 2 ^ d) (get_or-set_other w q k (bit_xor (get_or w q 0) y) 0 n))
    (same_or_not k q)

-- ---- a byte xored in

-- a byte v at place a of a word is nothing at a different place b
byte-elsewhere : (v a b : ℕ) → v < 256 → (b ≡ a → ⊥) → v * 2 ^ (8 * a) / 2 ^ (8 * b) % 256 ≡ 0
byte-elsewhere v a b h n =
    ⊎_elim
    (λ (l : a < b). ap (λ (y : ℕ). y % 256) (shifted_past v 8 (8 * a) (8 * b) h (omega arith)))
    (λ (l : b ≤ a). shifted-before v 8 (8 * a) (8 * b) (omega (arith, lt_of_le-ne l n)))
    (lt-or-le a b)

-- the words w with v xored into their byte i
abbrev pub xored_at : List ℕ → ℕ → ℕ → List ℕ
xored_at w i v = xored_word w (i / 8) (v * 2 ^ (8 * (i % 8)))

module _ (w : List ℕ) (i v : ℕ) (lw : length w ≡ 8) (hi : i < 36) (hv : v < 256) where
  pub byte-xored : bytes_in (xored_at w i v) ≡ set (bytes_in w) i (bit_xor (get_or (bytes_in w) i 0) v)
  byte-xored =
      ext_get_or 0 (bytes_in (xored_at w i v)) (set (bytes_in w) i new) (length-bytes_in (xored_at w i v) ∙ sym (length-set (bytes_in w) i new ∙ length-bytes_in w))
      (λ k l. at k (omega (arith, length-bytes_in (xored_at w i v))))
    where
      new : ℕ
      new = bit_xor (get_or (bytes_in w) i 0) v

      here : get_or (bytes_in (xored_at w i v)) i 0 ≡ new
      here =
          let j : ℕ = 8 * (i % 8) in
          let y : ℕ = v * 2 ^ j in
          bytes_in-at (xored_at w i v) i hi ∙ word-xored w (i / 8) y j 8 (omega arith)
          ∙ ap₂ bit_xor (sym (bytes_in-at w i hi)) (ap (λ (z : ℕ). z % 256) (shl-shr v j) ∙ mod-eq_of_lt hv)

      other : (k : ℕ) → k < 36 → (k ≡ i → ⊥) → get_or (bytes_in (xored_at w i v)) k 0 ≡ get_or (bytes_in w) k 0
      other k h n =
          bytes_in-at (xored_at w i v) k h
          ∙ word_kept w (i / 8) (v * 2 ^ (8 * (i % 8))) (k / 8) (8 * (k % 8)) 8 (omega arith) (λ e. byte-elsewhere v (i % 8) (k % 8) hv (λ f. n (omega arith)))
          ∙ sym (bytes_in-at w k h)

      at : (k : ℕ) → k < 36 → get_or (bytes_in (xored_at w i v)) k 0 ≡ get_or (set (bytes_in w) i new) k 0
      at k h =
          ⊎_elim
          (λ (e : k ≡ i). rw e (here ∙ sym (get_or-set_same (bytes_in w) i new 0 (omega (arith, length-bytes_in w)))))
          (λ (n : k ≡ i → ⊥). other k h n ∙ sym (get_or-set_other (bytes_in w) i k new 0 n))
          (same_or_not k i)

-- byte k of the first word
pub byte-in-first : (w : List ℕ) (k v y : ℕ) → length w ≡ 8 → k < 8 → v < 256 → y ≡ v * 2 ^ (8 * k)
    → bytes_in (xored_word w 0 y) ≡ set (bytes_in w) k (bit_xor (get_or (bytes_in w) k 0) v)
byte-in-first w k v y lw hk hv ey =
    let first : 0 ≡ k / 8 = omega arith in
    let place : k ≡ k % 8 = omega arith in
    ap₂ (λ (q z : ℕ). bytes_in (xored_word w q z)) first (ey ∙ ap (λ (j : ℕ). v * 2 ^ (8 * j)) place) ∙ byte-xored w k v lw (omega arith) hv

-- ---- all bytes, one after the other

no_byte : (k : ℕ) → k < 36 → get_or (bytes_in (replicate 8 0)) k 0 ≡ 0
no_byte k h = bytes_in-at (replicate 8 0) k h ∙ rw (zeros-at 8 (k / 8), zero-div)

-- the first i bytes are those of s, and the others are zero
abbrev pub Filled : List ℕ → ℕ → List ℕ → Type 0
Filled s i w = Upto 0 (λ k x. x ≡ get_or s k 0) 36 i (bytes_in (replicate 8 0)) (bytes_in w)

pub filled_more : (s w : List ℕ) (i v : ℕ) → length w ≡ 8 → i < 36 → v < 256 → v ≡ get_or s i 0 → Filled s i w → Filled s (i + 1) (xored_at w i v)
filled_more s w i v lw hi hv ev u =
    let none : get_or (bytes_in w) i 0 ≡ 0 = u.rest i (omega arith) ∙ no_byte i hi in
    rw (byte-xored w i v lw hi hv)
    (upto-more i (bytes_in (replicate 8 0)) (bytes_in w) (bit_xor (get_or (bytes_in w) i 0) v) hi (ap (λ (x : ℕ). bit_xor x v) none ∙ xor_zero_l v ∙ ev) u)

pub filled-all : (s w : List ℕ) → length s ≡ 36 → Filled s 36 w → bytes_in w ≡ s
filled-all s w ls u = ext_get_or 0 (bytes_in w) s (length-bytes_in w ∙ sym ls) (λ k h. u.done k (omega (arith, length-bytes_in w)))

-- a shift by whole bytes leaves all of a byte in a word
pub byte-shifted : (v k : ℕ) → v < 256 → k < 8 → v * 2 ^ (8 * k) % 2 ^ 64 ≡ v * 2 ^ (8 * k)
byte-shifted v k h l = shl_exact 8 (8 * k) 64 h (omega arith)

-- the first i bytes of b, with zeros after them up to n, and one more
pub front-more : (b : List ℕ) (n i : ℕ) → i < n → i < length b
    → set (take i b ++ replicate (n - i) 0) i (get_or b i 0) ≡ take (i + 1) b ++ replicate (n - (i + 1)) 0
front-more b n i h l =
    let e : n - i ≡ suc (n - suc i) = omega arith in
    rw (add-one i, e, take-suc b i 0 l, append_snoc) (set_at (take i b) 0 (replicate (n - suc i) 0) (get_or b i 0) i (length-take-le i b (omega arith)))

-- the first n bytes, with zeros after them, are the image of their bits
pub image-packed : (w : List ℕ) (n : ℕ) → n ≤ 36 → take n (bytes_in w) ++ replicate (36 - n) 0 ≡ pack low_first 36 (unpack low_first (8 * n) (bytes_in w))
unfolding unpack
image-packed w n h =
    let b : List ℕ = take n (bytes_in w) in
    let lb : length b ≡ n = length-take-le n (bytes_in w) (omega (arith, length-bytes_in w)) in
    let bits : bits_in low_first b ≡ take (8 * n) (bits_in low_first (bytes_in w)) = sym (bits_in-take low_first n (bytes_in w)) in
    let all : pack low_first n (bits_in low_first b) ≡ b = rw lb at (pack-bits_in low_first b (take-bytes n (bytes_in w) (bytes_in-lt w))) in
    rw (← bits) (sym (pack-whole low_first n 36 (bits_in low_first b) h (length-bits_in low_first b ∙ ap (λ (k : ℕ). 8 * k) lb) ∙ ap (λ (l : List ℕ). l ++ replicate (36 - n) 0) all))
