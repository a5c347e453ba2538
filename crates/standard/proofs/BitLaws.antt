-- Laws of bit strings: lengths, packing and unpacking, xor, one bit or byte changed.
-- Assumes nothing.
use mathlib.Core.Path.{◌≡◌, refl, sym, ap, ap₂, ◌∙◌}
use mathlib.Core.Bool.{Bool, true, false, xor}
use mathlib.Core.List.{List, [], ◌∷◌, ◌++◌, reverse, reverse-reverse, reverse-cons, reverse-append, append_assoc, append-nil}
use Prim.Native.Nat.{ℕ, zero, suc, ◌+◌, ◌-◌, ◌*◌, ◌/◌, ◌%◌, ◌^◌, ◌≤◌, ◌<◌}
use native.Mathlib.Nat.{le_of_suc-le-suc, not-suc-le-zero, zero-add, suc-add, pow-suc, div-add-mod', suc_inj, zero-lt-suc, div-one, div-div-eq-div-mul, pow-succ', suc-ne-zero, one-mul, div-eq_of_lt, mod-eq_of_lt, mul_right_comm, mod-one, sub-zero, suc-sub-suc}
use native.Mathlib.Omega.{arith}
use native.Mathlib.Numerals.{add-one}
use lib.ListN.{length, get_or, take, drop, set, replicate, length-append, length-reverse, length-take, get_or-append, replicate-append-replicate, take-append-drop}
use lib.Seq.{take_at, drop_at, take-append-add, get_or-append-add, drop-nil, take-nil, drop-append-add, drop-drop, drop-length}
use lib.Arith.{digits_div, digits_mod, digits_lt, mod-mul}
use lib.Bits.{bit_xor, xor_step, differ}
use lib.Pow.{pow_pos}
use Rattle.standard.proofs.Tests.{same-below}
use Rattle.standard.proofs.Xor.{differ-lt, xor-half}
use Rattle.standard.specs.Bits.{Order, low_first, high_first, bit, digit, low_bits, low_value, ordered, bits_of, value_of, bits_in, unpack, filled, pack, xor_into}

pub length-low_bits : (w n : ℕ) → length (low_bits w n) ≡ w
unfolding low_bits
length-low_bits zero n = refl
length-low_bits (suc w) n = ap suc (length-low_bits w (n / 2))

pub length-ordered : (o : Order) (bs : List Bool) → length (ordered o bs) ≡ length bs
unfolding ordered
length-ordered low_first bs = refl
length-ordered high_first bs = length-reverse bs

pub ordered-ordered : (o : Order) (bs : List Bool) → ordered o (ordered o bs) ≡ bs
unfolding ordered
ordered-ordered low_first bs = refl
ordered-ordered high_first bs = reverse-reverse bs

pub length-bits_of : (o : Order) (w n : ℕ) → length (bits_of o w n) ≡ w
unfolding bits_of
length-bits_of o w n = length-ordered o (low_bits w n) ∙ length-low_bits w n

pub bit-digit : (b : Bool) → bit (digit b) ≡ b
bit-digit true = refl
bit-digit false = refl

pub digit_lt : (b : Bool) → digit b < 2
digit_lt true = omega arith
digit_lt false = omega arith

pub digit-bit : (n : ℕ) → digit (bit (n % 2)) ≡ n % 2
digit-bit n = same-below (λ d. digit (bit d)) (λ d. d) 2 tt (n % 2) (omega arith)

pub low_value-of : (w n : ℕ) → low_value (low_bits w n) ≡ n % 2 ^ w
unfolding low_bits low_value
low_value-of zero n = sym (mod-one n)
low_value-of (suc w) n = rw (low_value-of w (n / 2), digit-bit, pow-suc, mod-mul n (pow_pos w) (zero-lt-suc 1))

pub low_value-low_bits : (w n : ℕ) → n < 2 ^ w → low_value (low_bits w n) ≡ n
low_value-low_bits w n h = low_value-of w n ∙ mod-eq_of_lt h

pub low_bits-low_value : (bs : List Bool) → low_bits (length bs) (low_value bs) ≡ bs
unfolding low_bits low_value
low_bits-low_value [] = refl
low_bits-low_value (b ∷ bs) = rw (digits_mod (low_value bs) (digit_lt b), bit-digit, digits_div (low_value bs) (digit_lt b), low_bits-low_value bs)

pub low_value-lt : (bs : List Bool) → low_value bs < 2 ^ length bs
unfolding low_value
low_value-lt [] = omega arith
low_value-lt (b ∷ bs) = rw (pow-suc 2 (length bs)) (digits_lt (low_value-lt bs) (digit_lt b))

pub value_of-bits_of : (o : Order) (w n : ℕ) → n < 2 ^ w → value_of o (bits_of o w n) ≡ n
unfolding value_of bits_of
value_of-bits_of o w n h = ap low_value (ordered-ordered o (low_bits w n)) ∙ low_value-low_bits w n h

pub bits_of-value_of : (o : Order) (w : ℕ) (bs : List Bool) → length bs ≡ w → bits_of o w (value_of o bs) ≡ bs
unfolding value_of bits_of
bits_of-value_of o w bs e = rw (← e, ← length-ordered o bs, low_bits-low_value, ordered-ordered)

pub value_of-lt : (o : Order) (w : ℕ) (bs : List Bool) → length bs ≡ w → value_of o bs < 2 ^ w
unfolding value_of
value_of-lt o w bs e = rw (← e, ← length-ordered o bs) (low_value-lt (ordered o bs))

-- ---- bytes

pub length-bits_in : (o : Order) (bytes : List ℕ) → length (bits_in o bytes) ≡ 8 * length bytes
unfolding bits_in
length-bits_in o [] = refl
length-bits_in o (b ∷ bs) = simp (length-append, length-bits_of, length-bits_in o bs) (omega arith)

pub bits_in-append : (o : Order) (xs bs : List ℕ) → bits_in o (xs ++ bs) ≡ bits_in o xs ++ bits_in o bs
unfolding bits_in
bits_in-append o [] bs = refl
bits_in-append o (a ∷ xs) bs = rw (bits_in-append o xs bs, append_assoc)

pub length-unpack : (o : Order) (t : ℕ) (bytes : List ℕ) → t ≤ 8 * length bytes → length (unpack o t bytes) ≡ t
unfolding unpack
length-unpack o t bytes h = simp (length-take, length-bits_in) (omega arith)

pub length-filled : (w : ℕ) (bs : List Bool) → length (filled w bs) ≡ w
unfolding filled
length-filled zero bs = refl
length-filled (suc w) [] = ap suc (length-filled w [])
length-filled (suc w) (b ∷ bs) = ap suc (length-filled w bs)

pub filled-add : (a b : ℕ) (bs : List Bool) → filled (a + b) bs ≡ filled a bs ++ filled b (drop a bs)
unfolding filled
filled-add zero b bs = rw zero-add
filled-add (suc a) b [] = rw (suc-add, filled-add a b [], drop-nil)
filled-add (suc a) b (x ∷ bs) = rw (suc-add, filled-add a b bs)

pub filled-short : (w : ℕ) (bs : List Bool) → length bs ≤ w → filled w bs ≡ bs ++ replicate (w - length bs) false
unfolding filled
filled-short zero [] h = refl
filled-short (suc w) [] h = rw (filled-short w [] (omega arith), sub-zero, sub-zero)
filled-short zero (b ∷ bs) h = absurd (not-suc-le-zero h)
filled-short (suc w) (b ∷ bs) h = rw (filled-short w bs (le_of_suc-le-suc h), suc-sub-suc)

pub filled-take : (w : ℕ) (bs : List Bool) → w ≤ length bs → filled w bs ≡ take w bs
unfolding filled
filled-take zero bs h = refl
filled-take (suc w) [] h = absurd (not-suc-le-zero h)
filled-take (suc w) (b ∷ bs) h = ap (λ (l : List Bool). b ∷ l) (filled-take w bs (le_of_suc-le-suc h))

pub take-filled : (w : ℕ) (bs : List Bool) → length bs ≤ w → take (length bs) (filled w bs) ≡ bs
take-filled w bs h = rw (filled-short w bs h) (take_at bs _ (length bs) refl)

suc-eight : (n : ℕ) → 8 + 8 * n ≡ 8 * suc n
suc-eight n = omega arith

pub bits_in-pack : (o : Order) (n : ℕ) (bs : List Bool) → bits_in o (pack o n bs) ≡ filled (n * 8) bs
unfolding bits_in pack filled
bits_in-pack o zero bs = refl
bits_in-pack o (suc n) bs =
    let e : suc n * 8 ≡ 8 + n * 8 = omega arith in
    rw (bits_of-value_of o 8 (filled 8 bs) (length-filled 8 bs), bits_in-pack o n (drop 8 bs), e, filled-add)

pub unpack-pack : (o : Order) (n : ℕ) (bs : List Bool) → length bs ≤ n * 8 → unpack o (length bs) (pack o n bs) ≡ bs
unfolding unpack
unpack-pack o n bs h = rw bits_in-pack (take-filled (n * 8) bs h)

filled-seam : (w : ℕ) (bs more : List Bool) → length bs ≡ w → filled w (bs ++ more) ≡ bs
unfolding filled
filled-seam zero [] more e = refl
filled-seam zero (b ∷ bs) more e = absurd (suc-ne-zero (length bs) e)
filled-seam (suc w) [] more e = absurd (suc-ne-zero w (sym e))
filled-seam (suc w) (b ∷ bs) more e = ap (λ (l : List Bool). b ∷ l) (filled-seam w bs more (suc_inj e))

pub pack-bits_in : (o : Order) (bytes : List ℕ) → ((i : ℕ) → get_or bytes i 0 < 256) → pack o (length bytes) (bits_in o bytes) ≡ bytes
unfolding bits_in pack
pack-bits_in o [] h = refl
pack-bits_in o (b ∷ bs) h =
    let size : length (bits_of o 8 b) ≡ 8 = length-bits_of o 8 b in
    rw (filled-seam, value_of-bits_of o 8 b (h 0), drop_at, pack-bits_in o bs (λ i. h (suc i)))

pub length-pack : (o : Order) (n : ℕ) (bs : List Bool) → length (pack o n bs) ≡ n
unfolding pack
length-pack o zero bs = refl
length-pack o (suc n) bs = ap suc (length-pack o n (drop 8 bs))

-- ---- the bit at an index
pub bits_in-at : (o : Order) (bytes : List ℕ) (i r : ℕ) → r < 8 → i < length bytes
    → get_or (bits_in o bytes) (i * 8 + r) false ≡ get_or (bits_of o 8 (get_or bytes i 0)) r false
unfolding bits_in
bits_in-at o [] i r hr hi = absurd (not-suc-le-zero hi)
bits_in-at o (b ∷ bs) zero r hr hi = rw zero-add (get_or-append (bits_of o 8 b) (bits_in o bs) false r (omega (arith, length-bits_of o 8 b)))
bits_in-at o (b ∷ bs) (suc i) r hr hi =
    let e : suc i * 8 + r ≡ length (bits_of o 8 b) + (i * 8 + r) = omega (arith, length-bits_of o 8 b) in
    rw (e, get_or-append-add) (bits_in-at o bs i r hr (le_of_suc-le-suc hi))

pub low_bits-at : (w n k : ℕ) → k < w → get_or (low_bits w n) k false ≡ bit (n / 2 ^ k % 2)
unfolding low_bits
low_bits-at zero n k h = absurd (not-suc-le-zero h)
low_bits-at (suc w) n zero h = rw (div-one n)
low_bits-at (suc w) n (suc k) h = rw (low_bits-at w (n / 2) k (le_of_suc-le-suc h), div-div-eq-div-mul, ← pow-succ')

-- ---- exclusive or

bit-differ : (x y : ℕ) → x < 2 → y < 2 → bit (differ x y) ≡ xor (bit x) (bit y)
unfolding xor
bit-differ zero zero hx hy = refl
bit-differ zero (suc y) hx hy = refl
bit-differ (suc zero) zero hx hy = refl
bit-differ (suc zero) (suc zero) hx hy = refl
bit-differ (suc zero) (suc (suc y)) hx hy = absurd (not-suc-le-zero (le_of_suc-le-suc (le_of_suc-le-suc hy)))
bit-differ (suc (suc x)) y hx hy = absurd (not-suc-le-zero (le_of_suc-le-suc (le_of_suc-le-suc hx)))

pub bit-xor : (a b : ℕ) → bit (bit_xor a b % 2) ≡ xor (bit (a % 2)) (bit (b % 2))
bit-xor a b =
    let small : differ (a % 2) (b % 2) < 2 = differ-lt (a % 2) (b % 2) (omega arith) (omega arith) in
    rw (xor_step, digits_mod) (bit-differ (a % 2) (b % 2) (omega arith) (omega arith))

pub low_bits-xor : (w a b : ℕ) → low_bits w (bit_xor a b) ≡ xor_into (low_bits w a) (low_bits w b)
unfolding low_bits xor_into
low_bits-xor zero a b = refl
low_bits-xor (suc w) a b = rw (bit-xor, xor-half, low_bits-xor w (a / 2) (b / 2))

pub length-xor_into : (a b : List Bool) → length (xor_into a b) ≡ length a
unfolding xor_into
length-xor_into [] b = refl
length-xor_into (x ∷ a) [] = refl
length-xor_into (x ∷ a) (y ∷ b) = ap suc (length-xor_into a b)

pub xor-xor : (a b : Bool) → xor (xor a b) b ≡ a
unfolding xor
xor-xor true true = refl
xor-xor true false = refl
xor-xor false true = refl
xor-xor false false = refl

pub xor-false : (a : Bool) → xor a false ≡ a
unfolding xor
xor-false true = refl
xor-false false = refl

pub false-xor : (a : Bool) → xor false a ≡ a
unfolding xor
false-xor true = refl
false-xor false = refl

pub xor_into-twice : (a b : List Bool) → xor_into (xor_into a b) b ≡ a
unfolding xor_into
xor_into-twice [] b = refl
xor_into-twice (x ∷ a) [] = refl
xor_into-twice (x ∷ a) (y ∷ b) = ap₂ (λ (u : Bool) (l : List Bool). u ∷ l) (xor-xor x y) (xor_into-twice a b)

pub xor_into-zeros : (a : List Bool) (n : ℕ) → xor_into a (replicate n false) ≡ a
unfolding xor_into
xor_into-zeros [] n = refl
xor_into-zeros (x ∷ a) zero = refl
xor_into-zeros (x ∷ a) (suc n) = ap₂ (λ (u : Bool) (l : List Bool). u ∷ l) (xor-false x) (xor_into-zeros a n)

pub xor_into-nil : (a : List Bool) → xor_into a [] ≡ a
unfolding xor_into
xor_into-nil [] = refl
xor_into-nil (x ∷ a) = refl

pub xor_into-append : (a b c d : List Bool) → length a ≡ length c → xor_into (a ++ b) (c ++ d) ≡ xor_into a c ++ xor_into b d
unfolding xor_into
xor_into-append [] b [] d e = refl
xor_into-append [] b (y ∷ c) d e = absurd (suc-ne-zero (length c) (sym e))
xor_into-append (x ∷ a) b [] d e = absurd (suc-ne-zero (length a) e)
xor_into-append (x ∷ a) b (y ∷ c) d e = ap (λ (l : List Bool). xor x y ∷ l) (xor_into-append a b c d (suc_inj e))

pub xor_into-reverse : (a b : List Bool) → length a ≡ length b → xor_into (reverse a) (reverse b) ≡ reverse (xor_into a b)
unfolding xor_into
xor_into-reverse [] [] e = refl
xor_into-reverse [] (y ∷ b) e = absurd (suc-ne-zero (length b) (sym e))
xor_into-reverse (x ∷ a) [] e = absurd (suc-ne-zero (length a) e)
xor_into-reverse (x ∷ a) (y ∷ b) e =
    let l : length (reverse a) ≡ length (reverse b) = length-reverse a ∙ suc_inj e ∙ sym (length-reverse b) in
    rw (reverse-cons x a, reverse-cons y b, xor_into-append, xor_into-reverse a b (suc_inj e), reverse-cons (xor x y) (xor_into a b))

pub bits_of-xor : (o : Order) (w a b : ℕ) → bits_of o w (bit_xor a b) ≡ xor_into (bits_of o w a) (bits_of o w b)
unfolding bits_of ordered
bits_of-xor low_first w a b = low_bits-xor w a b
bits_of-xor high_first w a b = rw (low_bits-xor w a b, xor_into-reverse (low_bits w a) (low_bits w b) (length-low_bits w a ∙ sym (length-low_bits w b)))

-- ---- one byte or one bit changed

pub bits_in-xor : (o : Order) (bytes : List ℕ) (i v : ℕ) → i < length bytes
    → bits_in o (set bytes i (bit_xor (get_or bytes i 0) v)) ≡ xor_into (bits_in o bytes) (replicate (8 * i) false ++ bits_of o 8 v)
unfolding bits_in
bits_in-xor o [] i v h = absurd (not-suc-le-zero h)
bits_in-xor o (x ∷ xs) zero v h =
    let parts = xor_into-append (bits_of o 8 x) (bits_in o xs) (bits_of o 8 v) [] (length-bits_of o 8 x ∙ sym (length-bits_of o 8 v)) in
    rw bits_of-xor (rw (append-nil, xor_into-nil) at (sym parts))
bits_in-xor o (x ∷ xs) (suc i) v h =
    let parts = xor_into-append (bits_of o 8 x) (bits_in o xs) (replicate 8 false) (replicate (8 * i) false ++ bits_of o 8 v) (length-bits_of o 8 x) in
    rw (bits_in-xor o xs i v (le_of_suc-le-suc h), ← suc-eight, ← replicate-append-replicate, append_assoc, parts, xor_into-zeros)

-- ---- what the code computes of a bit

pub bits_in-digit : (bytes : List ℕ) (k : ℕ) → k < 8 * length bytes
    → digit (get_or (bits_in low_first bytes) k false) ≡ get_or bytes (k / 8) 0 / 2 ^ (k % 8) % 2
unfolding bits_of ordered
bits_in-digit bytes k h =
    let at = bits_in-at low_first bytes (k / 8) (k % 8) (omega arith) (omega arith) in
    rw (← digit-bit, ← low_bits-at 8 (get_or bytes (k / 8) 0) (k % 8) (omega arith), ← at, div-add-mod')

pub zeros_of : (w : ℕ) → low_bits w 0 ≡ replicate w false
unfolding low_bits
zeros_of zero = refl
zeros_of (suc w) = ap (λ (l : List Bool). false ∷ l) (zeros_of w)

pub xor-back : (u v : Bool) → xor u (xor u v) ≡ v
unfolding xor
xor-back true true = refl
xor-back true false = refl
xor-back false true = refl
xor-back false false = refl

-- ---- runs of bits

pub low_bits-add : (a b n : ℕ) → low_bits (a + b) n ≡ low_bits a n ++ low_bits b (n / 2 ^ a)
unfolding low_bits
low_bits-add zero b n = rw (zero-add, div-one)
low_bits-add (suc a) b n = rw (suc-add, low_bits-add a b (n / 2), div-div-eq-div-mul, pow-succ')

pub low_value-append : (x y : List Bool) → low_value (x ++ y) ≡ low_value x + 2 ^ length x * low_value y
unfolding low_value
low_value-append [] y = sym (zero-add (1 * low_value y) ∙ one-mul (low_value y))
low_value-append (b ∷ x) y =
    let e : 2 ^ suc (length x) * low_value y ≡ 2 ^ length x * low_value y * 2 =
    ap (λ (p : ℕ). p * low_value y) (pow-suc 2 (length x)) ∙ mul_right_comm (2 ^ length x) 2 (low_value y) in
    ap (λ (v : ℕ). v * 2 + digit b) (low_value-append x y) ∙ omega (arith, e)

-- the first i bytes are the first 8 * i bits
pub bits_in-take : (o : Order) (i : ℕ) (bytes : List ℕ) → take (8 * i) (bits_in o bytes) ≡ bits_in o (take i bytes)
unfolding bits_in
bits_in-take o zero bytes = refl
bits_in-take o (suc i) [] = take-nil (8 * suc i)
bits_in-take o (suc i) (b ∷ bytes) =
    let e : 8 * suc i ≡ length (bits_of o 8 b) + 8 * i = omega (arith, length-bits_of o 8 b) in
    rw (e, take-append-add, bits_in-take o i bytes)

pub bits_in-drop : (o : Order) (i : ℕ) (bytes : List ℕ) → drop (8 * i) (bits_in o bytes) ≡ bits_in o (drop i bytes)
unfolding bits_in
bits_in-drop o zero bytes = refl
bits_in-drop o (suc i) [] = drop-nil (8 * suc i)
bits_in-drop o (suc i) (b ∷ bytes) =
    let e : 8 * suc i ≡ length (bits_of o 8 b) + 8 * i = omega (arith, length-bits_of o 8 b) in
    rw (e, drop-append-add, bits_in-drop o i bytes)

-- ---- xor with a short list

pub xor_into-behind : (l a : List Bool) (n : ℕ) → xor_into l (a ++ replicate n false) ≡ xor_into l a
unfolding xor_into
xor_into-behind l [] n = xor_into-zeros l n ∙ sym (xor_into-nil l)
xor_into-behind [] (x ∷ a) n = refl
xor_into-behind (y ∷ l) (x ∷ a) n = ap (λ (m : List Bool). xor y x ∷ m) (xor_into-behind l a n)

-- bits past the second list's length stay
pub xor_into-front : (t : ℕ) (l a : List Bool) → length a ≤ t → xor_into l a ≡ xor_into (take t l) a ++ drop t l
unfolding xor_into
xor_into-front t l [] h = xor_into-nil l ∙ sym (ap (λ (m : List Bool). m ++ drop t l) (xor_into-nil (take t l)) ∙ take-append-drop t l)
xor_into-front zero l (x ∷ a) h = absurd (not-suc-le-zero h)
xor_into-front (suc t) [] (x ∷ a) h = refl
xor_into-front (suc t) (y ∷ l) (x ∷ a) h = ap (λ (m : List Bool). xor y x ∷ m) (xor_into-front t l a (le_of_suc-le-suc h))

pub reverse-replicate : (n : ℕ) → reverse (replicate n false) ≡ replicate n false
reverse-replicate zero = refl
reverse-replicate (suc n) = rw (reverse-cons false (replicate n false), reverse-replicate n) (replicate-append-replicate n 1 false ∙ rw add-one)

-- a byte as more than 8 bits, and those in reverse
pub low_bits-byte : (n c : ℕ) → c < 256 → low_bits (8 + n) c ≡ low_bits 8 c ++ replicate n false
low_bits-byte n c h = rw (low_bits-add, div-eq_of_lt h, zeros_of)

pub high_byte : (n c : ℕ) → c < 256 → bits_of high_first (8 + n) c ≡ replicate n false ++ bits_of high_first 8 c
unfolding bits_of ordered
high_byte n c h = rw (low_bits-byte n c h, reverse-append, reverse-replicate)

-- ---- an array as the packed image of bits

pub pack-bytes : (o : Order) (n : ℕ) (bs : List Bool) (i : ℕ) → get_or (pack o n bs) i 0 < 256
unfolding pack
pack-bytes o zero bs i = omega arith
pack-bytes o (suc n) bs zero = value_of-lt o 8 (filled 8 bs) (length-filled 8 bs)
pack-bytes o (suc n) bs (suc i) = pack-bytes o n (drop 8 bs) i

-- bytes whose bits are P and zeros behind it are P packed
pub image-eq : (o : Order) (n : ℕ) (r : List ℕ) (P : List Bool) → ((i : ℕ) → get_or r i 0 < 256) → length r ≡ n → length P ≤ n * 8
    → bits_in o r ≡ P ++ replicate (n * 8 - length P) false → r ≡ pack o n P
image-eq o n r P hr el hp e =
    sym (pack-bits_in o r hr)
    ∙ ap₂ (pack o) el (e ∙ sym (filled-short (n * 8) P hp) ∙ sym (bits_in-pack o n P))
    ∙ ap (λ (m : ℕ). pack o m (bits_in o (pack o n P))) (sym (length-pack o n P))
    ∙ pack-bits_in o (pack o n P) (pack-bytes o n P)

pub image-rest : (o : Order) (n t : ℕ) (s : List ℕ) → t ≤ n * 8 → length s ≡ n → s ≡ pack o n (unpack o t s) → drop t (bits_in o s) ≡ replicate (n * 8 - t) false
image-rest o n t s h el e =
    let P : List Bool = unpack o t s in
    let lp : length P ≡ t = length-unpack o t s (omega arith) in
    ap (drop t) (ap (bits_in o) e ∙ bits_in-pack o n P ∙ filled-short (n * 8) P (omega arith)) ∙ drop_at P (replicate (n * 8 - length P) false) t lp ∙ rw lp

-- ---- bytes xored into bytes

-- byte by byte; where the second list is shorter, the bytes past it stay
abbrev pub bytes_xor : List ℕ → List ℕ → List ℕ
bytes_xor [] bs = []
bytes_xor (a ∷ xs) [] = a ∷ xs
bytes_xor (a ∷ xs) (b ∷ bs) = bit_xor a b ∷ bytes_xor xs bs

pub bits_in-bytes_xor : (o : Order) (a b : List ℕ) → bits_in o (bytes_xor a b) ≡ xor_into (bits_in o a) (bits_in o b)
unfolding bits_in xor_into
bits_in-bytes_xor o [] b = refl
bits_in-bytes_xor o (x ∷ a) [] = sym (xor_into-nil (bits_of o 8 x ++ bits_in o a))
bits_in-bytes_xor o (x ∷ a) (y ∷ b) =
    let sizes : length (bits_of o 8 x) ≡ length (bits_of o 8 y) = length-bits_of o 8 x ∙ sym (length-bits_of o 8 y) in
    rw (bits_of-xor, bits_in-bytes_xor o a b, xor_into-append)

pub bytes_xor-none : (s : List ℕ) → bytes_xor s [] ≡ s
bytes_xor-none [] = refl
bytes_xor-none (x ∷ s) = refl

-- one byte more
pub bytes_xor-more : (s b : List ℕ) (i : ℕ) → i < length b → i < length s
    → set (bytes_xor s (take i b)) i (bit_xor (get_or (bytes_xor s (take i b)) i 0) (get_or b i 0)) ≡ bytes_xor s (take (suc i) b)
bytes_xor-more s [] i hb hs = absurd (not-suc-le-zero hb)
bytes_xor-more [] (y ∷ b) i hb hs = absurd (not-suc-le-zero hs)
bytes_xor-more (x ∷ s) (y ∷ b) zero hb hs = ap (λ (l : List ℕ). bit_xor x y ∷ l) (sym (bytes_xor-none s))
bytes_xor-more (x ∷ s) (y ∷ b) (suc i) hb hs = ap (λ (l : List ℕ). bit_xor x y ∷ l) (bytes_xor-more s b i (le_of_suc-le-suc hb) (le_of_suc-le-suc hs))

-- ---- packing in two parts

pub pack-add : (o : Order) (n m : ℕ) (bs : List Bool) → pack o (n + m) bs ≡ pack o n bs ++ pack o m (drop (8 * n) bs)
unfolding pack
pack-add o zero m bs = rw zero-add
pack-add o (suc n) m bs = rw (suc-add, pack-add o n m (drop 8 bs), drop-drop, suc-eight)

-- the first bytes of packed bits
pub take-pack : (o : Order) (n m : ℕ) (bs : List Bool) → n ≤ m → take n (pack o m bs) ≡ pack o n bs
take-pack o n m bs h =
    let e : m ≡ n + (m - n) = omega arith in
    rw (e, pack-add) (take_at (pack o n bs) _ n (length-pack o n bs))

pub bits_in-zeros : (o : Order) (n : ℕ) → bits_in o (replicate n 0) ≡ replicate (8 * n) false
unfolding bits_in bits_of ordered low_bits
bits_in-zeros o zero = refl
bits_in-zeros low_first (suc n) = rw (bits_in-zeros low_first n, ← suc-eight) (replicate-append-replicate 8 (8 * n) false)
bits_in-zeros high_first (suc n) = rw (bits_in-zeros high_first n, ← suc-eight) (replicate-append-replicate 8 (8 * n) false)

pub pack-none : (o : Order) (n : ℕ) → pack o n [] ≡ replicate n 0
unfolding pack value_of ordered low_value filled
pack-none o zero = refl
pack-none low_first (suc n) = rw (pack-none low_first n)
pack-none high_first (suc n) = rw (pack-none high_first n)

-- bits that fill n bytes, packed in more: zeros stand behind them
pub pack-whole : (o : Order) (n m : ℕ) (bs : List Bool) → n ≤ m → length bs ≡ 8 * n → pack o m bs ≡ pack o n bs ++ replicate (m - n) 0
pack-whole o n m bs h l =
    let e : m ≡ n + (m - n) = omega arith in
    ap (λ (k : ℕ). pack o k bs) e ∙ rw (pack-add, ← l, drop-length, pack-none)
