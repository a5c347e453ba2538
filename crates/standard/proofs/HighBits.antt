-- The bits of a number from the highest on: its high ones and its low ones, numbers with zeros behind them, and a 1 bit between.
-- Assumes nothing.
use mathlib.Core.Path.{◌≡◌, sym, ap, ap₂, ◌∙◌}
use mathlib.Core.Bool.{Bool, true, false}
use mathlib.Core.List.{List, [], ◌∷◌, ◌++◌, reverse-append, append_assoc}
use Prim.Native.Nat.{ℕ, suc, ◌+◌, ◌*◌, ◌/◌, ◌%◌, ◌^◌}
use native.Mathlib.Nat.{add_comm, mul-div_cancel, mul-mod_left}
use native.Mathlib.Omega.{arith}
use lib.ListN.{take, drop, replicate}
use lib.Seq.{take_at, drop_at}
use lib.Pow.{pow_pos}
use Rattle.standard.specs.Bits.{Order, high_first, low_bits, low_value, ordered, bits_of, value_of}
use Rattle.standard.proofs.BitLaws.{length-bits_of, ordered-ordered, low_value-of, bits_of-value_of, low_bits-add, zeros_of, reverse-replicate}

-- a high bits, and w low ones behind them
pub high-split : (a w x : ℕ) → bits_of high_first (a + w) x ≡ bits_of high_first a (x / 2 ^ w) ++ bits_of high_first w x
unfolding bits_of ordered
high-split a w x = rw (add_comm a w, low_bits-add w a x, reverse-append)

pub high-take : (a w x : ℕ) → take a (bits_of high_first (a + w) x) ≡ bits_of high_first a (x / 2 ^ w)
high-take a w x = ap (take a) (high-split a w x) ∙ take_at (bits_of high_first a (x / 2 ^ w)) _ a (length-bits_of high_first a (x / 2 ^ w))

pub high-drop : (a w x : ℕ) → drop a (bits_of high_first (a + w) x) ≡ bits_of high_first w x
high-drop a w x = ap (drop a) (high-split a w x) ∙ drop_at (bits_of high_first a (x / 2 ^ w)) _ a (length-bits_of high_first a (x / 2 ^ w))

-- w bits tell no more than the number below 2 ^ w
pub value-mod : (o : Order) (w x : ℕ) → value_of o (bits_of o w x) ≡ x % 2 ^ w
unfolding value_of bits_of
value-mod o w x = ap low_value (ordered-ordered o (low_bits w x)) ∙ low_value-of w x

pub bits-mod : (o : Order) (w x : ℕ) → bits_of o w (x % 2 ^ w) ≡ bits_of o w x
bits-mod o w x = ap (bits_of o w) (sym (value-mod o w x)) ∙ bits_of-value_of o w (bits_of o w x) (length-bits_of o w x)

high-zeros : (w : ℕ) → bits_of high_first w 0 ≡ replicate w false
unfolding bits_of ordered
high-zeros w = rw (zeros_of, reverse-replicate)

-- a number with z zeros behind it
pub top-bits : (k z n : ℕ) → bits_of high_first (k + z) (n * 2 ^ z) ≡ bits_of high_first k n ++ replicate z false
top-bits k z n =
    high-split k z (n * 2 ^ z)
    ∙ ap₂ (λ (a b : List Bool). a ++ b)
    (ap (bits_of high_first k) (mul-div_cancel n (pow_pos z)))
    (sym (bits-mod high_first z (n * 2 ^ z)) ∙ ap (bits_of high_first z) (mul-mod_left n (2 ^ z)) ∙ high-zeros z)

one_bit : (n : ℕ) → bits_of high_first 1 (2 * n + 1) ≡ true ∷ []
unfolding bits_of ordered low_bits
one_bit n =
    let e : (2 * n + 1) % 2 ≡ 1 = omega arith in
    rw e

-- a number with a 1 bit and z zeros behind it
pub top_one : (k z n : ℕ) → bits_of high_first (k + suc z) ((2 * n + 1) * 2 ^ z) ≡ bits_of high_first k n ++ true ∷ replicate z false
top_one k z n =
    let width : k + suc z ≡ k + 1 + z = omega arith in
    let half : (2 * n + 1) / 2 ^ 1 ≡ n = omega arith in
    ap (λ (w : ℕ). bits_of high_first w ((2 * n + 1) * 2 ^ z)) width
    ∙ top-bits (k + 1) z (2 * n + 1)
    ∙ ap (λ (bs : List Bool). bs ++ replicate z false)
    (high-split k 1 (2 * n + 1) ∙ ap₂ (λ (a : ℕ) (b : List Bool). bits_of high_first k a ++ b) half (one_bit n))
    ∙ append_assoc (bits_of high_first k n) (true ∷ []) (replicate z false)
