-- Bits of bytes turned round in each byte: nothing is lost, the way back is the same, and it is what one reads in the other order from the bytes that hold the bits.
-- Assumes nothing.
use mathlib.Core.Path.{◌≡◌, refl, sym, ap, ap₂, ◌∙◌, subst}
use mathlib.Core.Bool.{Bool, false}
use mathlib.Core.List.{List, [], ◌∷◌, ◌++◌, reverse, flat_map, append-nil, reverse-reverse}
use mathlib.Core.Logic.{◌⊎◌, inl, inr, ⊎_elim}
use Prim.Native.Nat.{ℕ, zero, suc, ◌+◌, ◌-◌, ◌*◌, ◌%◌, ◌≤◌}
use native.Mathlib.Nat.{not-suc-le-zero}
use native.Mathlib.Omega.{arith}
use lib.ListN.{length, take, drop, replicate, length-append, length-drop, length-replicate, length-reverse, take-append-drop, replicate-append-replicate}
use lib.Seq.{take_all, take_at, drop_at, length-take-le}
use Rattle.standard.specs.Bits.{Order, low_first, high_first, ordered, bits_of, value_of, bits_in, pack, unpack, bytes_for, cut, turned}
use Rattle.standard.proofs.Tests.{lt-or-le}
use Rattle.standard.proofs.BitLaws.{filled-take, low_bits-low_value, length-bits_in, length-pack, unpack-pack, reverse-replicate}
use Rattle.standard.proofs.CutLaws.{cut-add, cut-append, flat_map-append}

-- at most a byte is turned whole
short : (bs : List Bool) → length bs ≤ 8 → turned low_first bs ≡ reverse bs
unfolding turned cut flat_map
short [] h = refl
short (b ∷ bs) h =
    let one : bytes_for (length (b ∷ bs)) ≡ 1 = omega arith in
    ap (λ (n : ℕ). flat_map reverse (cut 8 n (b ∷ bs))) one
    ∙ append-nil (reverse (take 8 (b ∷ bs)))
    ∙ ap reverse (take_all 8 (b ∷ bs) h)

-- whole bytes turn by themselves
pub turned-append : (o : Order) (x y : List Bool) → (high_first ≡ o) ⊎ (length x % 8 ≡ 0) → turned o (x ++ y) ≡ turned o x ++ turned o y
unfolding turned
turned-append o x y w =
    ⊎_elim (λ e. subst (λ (p : Order). turned p (x ++ y) ≡ turned p x ++ turned p y) e refl) (λ e. go o e) w
  where
    go : (p : Order) → length x % 8 ≡ 0 → turned p (x ++ y) ≡ turned p x ++ turned p y
    go high_first e = refl
    go low_first e =
        let k : ℕ = bytes_for (length x) in
        let n : ℕ = bytes_for (length y) in
        let whole : k * 8 ≡ length x = omega arith in
        let sum : bytes_for (length (x ++ y)) ≡ k + n = omega (arith, length-append x y) in
        ap (λ (m : ℕ). flat_map reverse (cut 8 m (x ++ y))) sum
        ∙ ap (flat_map reverse) (cut-add 8 k n (x ++ y) ∙ ap₂ (λ (a : List (List Bool)) (b : List Bool). a ++ cut 8 n b) (cut-append 8 k x y (omega arith)) (drop_at x y (k * 8) (sym whole)))
        ∙ flat_map-append reverse (cut 8 k x) (cut 8 n y)

-- the first byte, and those behind it
first : (bs : List Bool) → 8 ≤ length bs → turned low_first bs ≡ reverse (take 8 bs) ++ turned low_first (drop 8 bs)
first bs h =
    let size : length (take 8 bs) ≡ 8 = length-take-le 8 bs h in
    ap (turned low_first) (sym (take-append-drop 8 bs))
    ∙ turned-append low_first (take 8 bs) (drop 8 bs) (inr (ap (λ (n : ℕ). n % 8) size))
    ∙ ap (λ (z : List Bool). z ++ turned low_first (drop 8 bs)) (short (take 8 bs) (omega arith))

-- byte by byte, of as many bits as n bytes hold
length-short : (bs : List Bool) → length bs ≤ 8 → length (turned low_first bs) ≡ length bs
length-short bs h = ap length (short bs h) ∙ length-reverse bs

length-upto : (n : ℕ) (bs : List Bool) → length bs ≤ 8 * n → length (turned low_first bs) ≡ length bs
length-upto zero bs h = length-short bs (omega arith)
length-upto (suc n) bs h =
    ⊎_elim (λ l. length-short bs (omega arith))
    (λ l.
    ap length (first bs l) ∙ length-append (reverse (take 8 bs)) (turned low_first (drop 8 bs))
    ∙ omega (arith, length-reverse (take 8 bs), length-take-le 8 bs l, length-drop 8 bs, length-upto n (drop 8 bs) (omega (arith, length-drop 8 bs))))
    (lt-or-le (length bs) 8)

pub length-turned : (o : Order) (bs : List Bool) → length (turned o bs) ≡ length bs
unfolding turned
length-turned high_first bs = refl
length-turned low_first bs = length-upto (length bs) bs (omega arith)

twice-short : (bs : List Bool) → length bs ≤ 8 → turned low_first (turned low_first bs) ≡ bs
twice-short bs h = ap (turned low_first) (short bs h) ∙ short (reverse bs) (omega (arith, length-reverse bs)) ∙ reverse-reverse bs

twice-upto : (n : ℕ) (bs : List Bool) → length bs ≤ 8 * n → turned low_first (turned low_first bs) ≡ bs
twice-upto zero bs h = twice-short bs (omega arith)
twice-upto (suc n) bs h =
    ⊎_elim (λ l. twice-short bs (omega arith))
    (λ l.
    let x : List Bool = reverse (take 8 bs) in
    let y : List Bool = turned low_first (drop 8 bs) in
    let lx : length x ≡ 8 = length-reverse (take 8 bs) ∙ length-take-le 8 bs l in
    ap (turned low_first) (first bs l)
    ∙ turned-append low_first x y (inr (ap (λ (k : ℕ). k % 8) lx))
    ∙ ap₂ (λ (a b : List Bool). a ++ b) (short x (omega arith) ∙ reverse-reverse (take 8 bs)) (twice-upto n (drop 8 bs) (omega (arith, length-drop 8 bs)))
    ∙ take-append-drop 8 bs)
    (lt-or-le (length bs) 8)

-- turned twice, bits are as they were
pub turned-twice : (o : Order) (bs : List Bool) → turned o (turned o bs) ≡ bs
unfolding turned
turned-twice high_first bs = refl
turned-twice low_first bs = twice-upto (length bs) bs (omega arith)

pub turned-injective : (o : Order) (x y : List Bool) → turned o x ≡ turned o y → x ≡ y
turned-injective o x y e = sym (turned-twice o x) ∙ ap (turned o) e ∙ turned-twice o y

-- the first m bits turned, where these are whole bytes
pub turned-take : (o : Order) (m : ℕ) (bs : List Bool) → (high_first ≡ o) ⊎ (m % 8 ≡ 0) → take m (turned o bs) ≡ turned o (take m bs)
turned-take o m bs w =
    ⊎_elim
    (λ l.
    let size : length (take m bs) ≡ m = length-take-le m bs (omega arith) in
    ap (λ (z : List Bool). take m (turned o z)) (sym (take-append-drop m bs))
    ∙ ap (take m) (turned-append o (take m bs) (drop m bs) (⊎_elim inl (λ e. inr (ap (λ (k : ℕ). k % 8) size ∙ e)) w))
    ∙ take_at (turned o (take m bs)) (turned o (drop m bs)) m (length-turned o (take m bs) ∙ size))
    (λ l. take_all m (turned o bs) (omega (arith, length-turned o bs)) ∙ ap (turned o) (sym (take_all m bs l)))
    (lt-or-le m (length bs))

pub turned-high : (bs : List Bool) → turned high_first bs ≡ bs
unfolding turned
turned-high bs = refl

-- ---- bytes that hold the bits, read in the other order

module _ (a b : Order) (other : (x : List Bool) → length x ≡ 8 → bits_of b 8 (value_of a x) ≡ reverse x) where
  bytes-upto : (n : ℕ) (bs : List Bool) → length bs ≡ 8 * n → turned low_first bs ≡ bits_in b (pack a n bs)
  unfolding bits_in pack
  bytes-upto zero bs h = short bs (omega arith) ∙ none bs (omega arith)
    where
      none : (l : List Bool) → length l ≤ 0 → reverse l ≡ []
      none [] z = refl
      none (c ∷ l) z = absurd (not-suc-le-zero z)
  bytes-upto (suc n) bs h =
      let l : 8 ≤ length bs = omega arith in
      let size : length (take 8 bs) ≡ 8 = length-take-le 8 bs l in
      first bs l
      ∙ ap₂ (λ (x y : List Bool). x ++ y) (sym (ap (λ (x : List Bool). bits_of b 8 (value_of a x)) (filled-take 8 bs l) ∙ other (take 8 bs) size))
      (bytes-upto n (drop 8 bs) (omega (arith, length-drop 8 bs)))

low-of-high : (x : List Bool) → length x ≡ 8 → bits_of low_first 8 (value_of high_first x) ≡ reverse x
unfolding bits_of value_of ordered
low-of-high x h = rw (length-reverse x, h) at (low_bits-low_value (reverse x))

high-of-low : (x : List Bool) → length x ≡ 8 → bits_of high_first 8 (value_of low_first x) ≡ reverse x
unfolding bits_of value_of ordered
high-of-low x h = ap reverse (rw h at (low_bits-low_value x))

-- read from n whole bytes, or in the one order
module _ (bs : List Bool) where
  whole : (a b : Order) → length bs % 8 ≡ 0 → bits_in b (pack a (bytes_for (length bs)) bs) ≡ unpack b (length bs) (pack a (bytes_for (length bs)) bs)
  unfolding unpack
  whole a b e =
      let bytes : List ℕ = pack a (bytes_for (length bs)) bs in
      sym (take_all (length bs) (bits_in b bytes) (omega (arith, length-bits_in b bytes, length-pack a (bytes_for (length bs)) bs)))

  same : (o : Order) → unpack o (length bs) (pack o (bytes_for (length bs)) bs) ≡ bs
  same o = unpack-pack o (bytes_for (length bs)) bs (omega arith)

  -- the bits of bytes, in the order of the state
  pub turned-in : (o : Order) → (high_first ≡ o) ⊎ (length bs % 8 ≡ 0) → turned o bs ≡ unpack o (length bs) (pack high_first (bytes_for (length bs)) bs)
  turned-in o w = ⊎_elim (λ e. subst (λ (p : Order). turned p bs ≡ unpack p (length bs) (pack high_first (bytes_for (length bs)) bs)) e high) (λ e. go o e) w
    where
      high : turned high_first bs ≡ unpack high_first (length bs) (pack high_first (bytes_for (length bs)) bs)
      high = turned-high bs ∙ sym (same high_first)

      go : (p : Order) → length bs % 8 ≡ 0 → turned p bs ≡ unpack p (length bs) (pack high_first (bytes_for (length bs)) bs)
      go high_first e = high
      go low_first e = bytes-upto high_first low_first low-of-high (bytes_for (length bs)) bs (omega arith) ∙ whole high_first low_first e

  -- the state's bits, in the order of bytes
  pub turned-out : (o : Order) → (high_first ≡ o) ⊎ (length bs % 8 ≡ 0) → turned o bs ≡ unpack high_first (length bs) (pack o (bytes_for (length bs)) bs)
  turned-out o w = ⊎_elim (λ e. subst (λ (p : Order). turned p bs ≡ unpack high_first (length bs) (pack p (bytes_for (length bs)) bs)) e high) (λ e. go o e) w
    where
      high : turned high_first bs ≡ unpack high_first (length bs) (pack high_first (bytes_for (length bs)) bs)
      high = turned-high bs ∙ sym (same high_first)

      go : (p : Order) → length bs % 8 ≡ 0 → turned p bs ≡ unpack high_first (length bs) (pack p (bytes_for (length bs)) bs)
      go high_first e = high
      go low_first e = bytes-upto low_first high_first high-of-low (bytes_for (length bs)) bs (omega arith) ∙ whole low_first high_first e

-- ---- zeros

few : (m : ℕ) → m ≤ 8 → turned low_first (replicate m false) ≡ replicate m false
few m h = short (replicate m false) (omega (arith, length-replicate m false)) ∙ reverse-replicate m

zeros-upto : (n m : ℕ) → m ≤ 8 * n → turned low_first (replicate m false) ≡ replicate m false
zeros-upto zero m h = few m (omega arith)
zeros-upto (suc n) m h =
    ⊎_elim (λ l. few m (omega arith))
    (λ l.
    let sum : m ≡ 8 + (m - 8) = omega arith in
    let two : replicate m false ≡ replicate 8 false ++ replicate (m - 8) false = ap (λ (i : ℕ). replicate i false) sum ∙ sym (replicate-append-replicate 8 (m - 8) false) in
    ap (turned low_first) two
    ∙ turned-append low_first (replicate 8 false) (replicate (m - 8) false) (inr refl)
    ∙ ap₂ (λ (x y : List Bool). x ++ y) (few 8 (omega arith)) (zeros-upto n (m - 8) (omega arith))
    ∙ sym two)
    (lt-or-le m 8)

pub turned-zeros : (o : Order) (n : ℕ) → turned o (replicate n false) ≡ replicate n false
turned-zeros high_first n = turned-high (replicate n false)
turned-zeros low_first n = zeros-upto n n (omega arith)
