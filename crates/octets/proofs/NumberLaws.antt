-- A number in bytes reads back as itself, and bytes as the number that they stand for.
-- Assumes nothing.
use mathlib.Core.Path.{◌≡◌, refl, ◌∙◌}
use mathlib.Core.List.{List, [], ◌∷◌, ◌++◌, foldl-append}
use Prim.Native.Nat.{ℕ, zero, suc, ◌+◌, ◌*◌, ◌/◌, ◌%◌, ◌^◌, ◌≤◌, ◌<◌}
use native.Mathlib.Nat.{pow-zero, pow-suc}
use native.Mathlib.Numerals.{add-one}
use native.Mathlib.Omega.{arith}
use lib.ListN.{length, get_or, take, drop, length-append}
use lib.Seq.{take-suc, take-length, drop-cons}
use Rattle.octets.specs.Numbers.{Bytes, big_endian, in_bytes}

big_endian-none : big_endian [] ≡ 0
unfolding big_endian
big_endian-none = refl

-- one byte more
pub big_endian-snoc : (bytes : List ℕ) (b : ℕ) → big_endian (bytes ++ b ∷ []) ≡ big_endian bytes * 256 + b
unfolding big_endian
big_endian-snoc bytes b = foldl-append (λ (n b : ℕ). n * 256 + b) 0 bytes (b ∷ [])

pub length-in_bytes : (w n : ℕ) → length (in_bytes w n) ≡ w
unfolding in_bytes
length-in_bytes zero n = refl
length-in_bytes (suc w) n = length-append (in_bytes w (n / 256)) (n % 256 ∷ []) ∙ omega (arith, length-in_bytes w (n / 256))

pub big_endian-in_bytes : (w n : ℕ) → n < 256 ^ w → big_endian (in_bytes w n) ≡ n
unfolding in_bytes
big_endian-in_bytes zero n h = big_endian-none ∙ omega (arith, pow-zero 256)
big_endian-in_bytes (suc w) n h =
    rw (big_endian-snoc, big_endian-in_bytes w (n / 256) (omega (arith, pow-suc 256 w))) (omega arith)

-- bytes, the first w of them and all
in_bytes-front : (w : ℕ) (bytes : List ℕ) → Bytes bytes → w ≤ length bytes → in_bytes w (big_endian (take w bytes)) ≡ take w bytes
unfolding in_bytes
in_bytes-front zero bytes hb h = refl
in_bytes-front (suc w) bytes hb h =
    let e : big_endian (take (suc w) bytes) ≡ big_endian (take w bytes) * 256 + get_or bytes w 0 = rw (take-suc bytes w 0, big_endian-snoc) in
    let high : big_endian (take (suc w) bytes) / 256 ≡ big_endian (take w bytes) = omega (arith, hb w) in
    let low : big_endian (take (suc w) bytes) % 256 ≡ get_or bytes w 0 = omega (arith, hb w) in
    rw (high, low, in_bytes-front w bytes hb (omega arith), take-suc bytes w 0)

pub in_bytes-big_endian : (bytes : List ℕ) → Bytes bytes → in_bytes (length bytes) (big_endian bytes) ≡ bytes
in_bytes-big_endian bytes hb = rw take-length at (in_bytes-front (length bytes) bytes hb (omega arith))

drop_at : (xs : List ℕ) (k : ℕ) → k < length xs → drop k xs ≡ get_or xs k 0 ∷ drop (k + 1) xs
drop_at xs k l = rw (add-one, drop-cons xs k 0)

-- two and four bytes, as the code reads them
pub two_bytes : (bytes : List ℕ) (i : ℕ) → i + 2 ≤ length bytes → big_endian (take 2 (drop i bytes)) ≡ get_or bytes i 0 * 256 + get_or bytes (i + 1) 0
unfolding big_endian
two_bytes xs i h = rw (drop_at xs i (omega arith), drop_at xs (i + 1) (omega arith)) (omega arith)

pub four_bytes : (bytes : List ℕ) (i : ℕ) → i + 4 ≤ length bytes
    → big_endian (take 4 (drop i bytes)) ≡ ((get_or bytes i 0 * 256 + get_or bytes (i + 1) 0) * 256 + get_or bytes (i + 2) 0) * 256 + get_or bytes (i + 3) 0
unfolding big_endian
four_bytes xs i h =
    let two : i + 1 + 1 ≡ i + 2 = omega arith in
    let three : i + 2 + 1 ≡ i + 3 = omega arith in
    rw (drop_at xs i (omega arith), drop_at xs (i + 1) (omega arith), two, drop_at xs (i + 2) (omega arith), three, drop_at xs (i + 3) (omega arith)) (omega arith)
