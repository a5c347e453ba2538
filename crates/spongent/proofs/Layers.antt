-- The three layers on bytes, and one layer after another on the first t bits.
-- Assumes nothing.
use mathlib.Core.Path.{◌≡◌, refl, sym, ap, ap₂, ◌∙◌}
use mathlib.Core.Bool.{Bool, false}
use mathlib.Core.List.{List, [], ◌∷◌, ◌++◌, map, append-nil}
use Prim.Native.Nat.{ℕ, ◌+◌, ◌-◌, ◌*◌, ◌/◌, ◌%◌, ◌≤◌, ◌<◌}
use native.Mathlib.Nat.{mod-eq_of_lt, le_of_eq}
use native.Mathlib.Omega.{arith}
use lib.Bits.{bit_xor}
use lib.ListN.{length, get_or, set, take, drop, replicate, length-set}
use lib.Seq.{length-take-le, take_at, drop_at}
use Rattle.standard.specs.Bits.{low_first, high_first, low_bits, low_value, ordered, bits_of, bits_in, xor_into}
use Rattle.standard.specs.Spongent.{c_addition, s_box_layer}
use Rattle.standard.specs.Counters.{reversal}
use Rattle.standard.proofs.BitLaws.{length-low_bits, low_value-low_bits, low_bits-low_value, low_bits-add, low_value-append, low_value-of, bits_in-append, bits_in-take, bits_in-drop, bits_in-xor, xor_into-behind, xor_into-front, xor_into-append, xor_into-nil, length-xor_into, length-bits_of, length-bits_in, low_bits-byte, high_byte}
use Rattle.standard.proofs.SpongentLaws.{s_box_layer-none, s_box_layer-more, length-s_box_layer}
use Rattle.octets.proofs.Mapped.{mapped}

-- ---- s_box_layer

-- a byte through the layer
abbrev pub byte_by : List ℕ → ℕ → ℕ
byte_by box b = low_value (s_box_layer box (low_bits 8 b))

two-nibbles : (box : List ℕ) (x y : ℕ)
    → s_box_layer box (low_bits 4 x ++ low_bits 4 y) ≡ low_bits 4 (get_or box (low_value (low_bits 4 x)) 0) ++ low_bits 4 (get_or box (low_value (low_bits 4 y)) 0)
unfolding low_bits
two-nibbles box x y =
    s_box_layer-more box _ _ _ _ (low_bits 4 y)
    ∙ ap (λ (l : List Bool). low_bits 4 (get_or box (low_value (low_bits 4 x)) 0) ++ l)
    (s_box_layer-more box _ _ _ _ [] ∙ ap (λ (l : List Bool). low_bits 4 (get_or box (low_value (low_bits 4 y)) 0) ++ l) (s_box_layer-none box) ∙ append-nil (low_bits 4 (get_or box (low_value (low_bits 4 y)) 0)))

pub byte-nibbles : (box : List ℕ) → ((x : ℕ) → x < 16 → get_or box x 0 < 16) → (b : ℕ) → b < 256 → get_or box (b % 16) 0 + 16 * get_or box (b / 16) 0 ≡ byte_by box b
unfolding low_bits
byte-nibbles box h b hb =
    let lo : ℕ = get_or box (b % 16) 0 in
    let hi : ℕ = get_or box (b / 16) 0 in
    let top : b / 16 % 16 ≡ b / 16 = mod-eq_of_lt (omega arith) in
    let e : s_box_layer box (low_bits 8 b) ≡ low_bits 4 lo ++ low_bits 4 hi =
    ap (s_box_layer box) (low_bits-add 4 4 b) ∙ two-nibbles box b (b / 16) ∙ rw (low_value-of 4 b, low_value-of 4 (b / 16), top) in
    let sum = low_value-append (low_bits 4 lo) (low_bits 4 hi) in
    sym (ap low_value e ∙ rw (low_value-low_bits 4 lo (h (b % 16) (omega arith)), low_value-low_bits 4 hi (h (b / 16) (omega arith))) at sum)

first_byte : (box : List ℕ) (b : ℕ) (l : List Bool) → s_box_layer box (low_bits 8 b ++ l) ≡ s_box_layer box (low_bits 8 b) ++ s_box_layer box l
unfolding low_bits
first_byte box b l = rw (s_box_layer-more, s_box_layer-more, s_box_layer-more, s_box_layer-more, s_box_layer-none)

s_box_layer-bytes : (box bytes : List ℕ) → bits_in low_first (map (byte_by box) bytes) ≡ s_box_layer box (bits_in low_first bytes)
unfolding bits_in bits_of ordered
s_box_layer-bytes box [] = sym (s_box_layer-none box)
s_box_layer-bytes box (b ∷ bytes) =
    let size : length (s_box_layer box (low_bits 8 b)) ≡ 8 = length-s_box_layer box (low_bits 8 b) (rw length-low_bits refl) ∙ length-low_bits 8 b in
    rw (rw size at (low_bits-low_value (s_box_layer box (low_bits 8 b))), s_box_layer-bytes box bytes) (sym (first_byte box b (bits_in low_first bytes)))

-- the first n bytes replaced
pub mapped-bits : (box : List ℕ) (n : ℕ) (s : List ℕ)
    → bits_in low_first (mapped (byte_by box) n s) ≡ s_box_layer box (take (8 * n) (bits_in low_first s)) ++ drop (8 * n) (bits_in low_first s)
mapped-bits box n s = rw (bits_in-append, s_box_layer-bytes, ← bits_in-take, ← bits_in-drop)

-- ---- c_addition

low-is : (w n : ℕ) → bits_of low_first w n ≡ low_bits w n
unfolding bits_of ordered
low-is w n = refl

low_value_lem : (v : ℕ) (bs : List Bool) → length bs ≡ 8 → v ≡ low_value bs → bits_of low_first 8 v ≡ bs
low_value_lem v bs e h = low-is 8 v ∙ ap₂ low_bits (sym e) h ∙ low_bits-low_value bs

-- the counter into byte 0, and its reverse v into the last byte
pub bytes-c_addition : (s : List ℕ) (n c v : ℕ) → 0 < n → n ≤ length s → c < 256 → v ≡ reversal 8 c → (s' : List ℕ)
    → s' ≡ set s 0 (bit_xor (get_or s 0 0) c)
    → bits_in low_first (set s' (n - 1) (bit_xor (get_or s' (n - 1) 0) v))
    ≡ c_addition (8 * n) c (take (8 * n) (bits_in low_first s)) ++ drop (8 * n) (bits_in low_first s)
unfolding c_addition reversal
bytes-c_addition s n c v h0 hn hc ev s' es =
    let t : ℕ = 8 * n in
    let k : ℕ = 8 * (n - 1) in
    let et : t ≡ 8 + k = omega arith in
    let L : List Bool = bits_in low_first s in
    let lo : List Bool = bits_of low_first t c in
    let hi : List Bool = bits_of high_first t c in
    let elo : lo ≡ low_bits 8 c ++ replicate k false = low-is t c ∙ ap (λ (m : ℕ). low_bits m c) et ∙ low_bits-byte k c hc in
    let ehi : hi ≡ replicate k false ++ bits_of low_first 8 v =
    ap (λ (m : ℕ). bits_of high_first m c) et ∙ high_byte k c hc
    ∙ ap (λ (l : List Bool). replicate k false ++ l) (sym (low_value_lem v (bits_of high_first 8 c) (length-bits_of high_first 8 c) ev)) in
    let e1 : bits_in low_first s' ≡ xor_into (take t L) lo ++ drop t L =
    ap (bits_in low_first) es ∙ bits_in-xor low_first s 0 c (omega arith) ∙ ap (xor_into L) (low-is 8 c)
    ∙ sym (xor_into-behind L (low_bits 8 c) k) ∙ ap (xor_into L) (sym elo)
    ∙ xor_into-front t L lo (le_of_eq (length-bits_of low_first t c)) in
    let el : length s' ≡ length s = ap length es ∙ length-set s 0 (bit_xor (get_or s 0 0) c) in
    let e_a : length (xor_into (take t L) lo) ≡ length hi =
    length-xor_into (take t L) lo ∙ length-take-le t L (omega (arith, length-bits_in low_first s)) ∙ sym (length-bits_of high_first t c) in
    bits_in-xor low_first s' (n - 1) v (omega arith)
    ∙ ap₂ xor_into e1 (sym ehi)
    ∙ ap (xor_into (xor_into (take t L) lo ++ drop t L)) (sym (append-nil hi))
    ∙ xor_into-append (xor_into (take t L) lo) (drop t L) hi [] e_a
    ∙ ap (λ (l : List Bool). xor_into (xor_into (take t L) lo) hi ++ l) (xor_into-nil (drop t L))

-- ---- layers in turn: bits A that are x, of t bits, and z after them

module _ (t : ℕ) (A x z : List Bool) (lx : length x ≡ t) (e : A ≡ x ++ z) where
  pub first-bits : take t A ≡ x
  first-bits = ap (take t) e ∙ take_at x z t lx

  pub other-bits : drop t A ≡ z
  other-bits = ap (drop t) e ∙ drop_at x z t lx

  -- a layer g on the first n bytes
  pub layer-after : (g : List Bool → List Bool) (n : ℕ) (B : List Bool) → 8 * n ≡ t → B ≡ g (take (8 * n) A) ++ drop (8 * n) A → B ≡ g x ++ z
  layer-after g n B en eb = rw (en, first-bits, other-bits) at eb
