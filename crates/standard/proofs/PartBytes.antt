-- Messages that may end inside a byte: their bits, how many they are, and what they and their padded rows tell of the bytes.
-- Assumes nothing.
use mathlib.Core.Path.{◌≡◌, refl, sym, ap, ap₂, ◌∙◌}
use mathlib.Core.Bool.{Bool, true}
use mathlib.Core.List.{List, [], ◌∷◌, ◌++◌, append_assoc, append-nil}
use Prim.Native.Nat.{ℕ, zero, suc, ◌+◌, ◌-◌, ◌*◌, ◌/◌, ◌^◌, ◌≤◌, ◌<◌}
use native.Mathlib.Nat.{div-one, mod-lt}
use native.Mathlib.Omega.{arith}
use lib.ListN.{length, take, drop, get_or, length-append, drop_of_length-le}
use lib.Seq.{take_at, drop_at, split_at, length-take-le}
use lib.Pow.{pow_pos, shr_lt}
use Rattle.standard.specs.Bits.{high_first, bits_of, value_of, bits_in, pack}
use Rattle.standard.specs.Families.{photon, spongent, Family, sponge, lesamnta, Variant, is_sponge}
use Rattle.standard.specs.Chain.{blocks_of}
use Rattle.standard.specs.Messages.{byte_bits, counted_of, message_bits}
use Rattle.standard.specs.Promises.{MessageTold}
use Rattle.standard.specs.PartBytes.{before_last, last_of, SameMessage}
use Rattle.standard.specs.Variants.{variant, known}
use Rattle.standard.proofs.BitLaws.{length-bits_of, length-bits_in, bits_in-append, pack-bits_in, value_of-bits_of}
use Rattle.standard.proofs.HighBits.{bits-mod}
use Rattle.standard.proofs.Streaming.{block-count}
use Rattle.standard.proofs.Sponge.{sponge-count}
use Rattle.standard.proofs.Variants.{streams, is-sponge, rows_tell, sponge-known}

-- ---- the bits of a message

-- the bytes before the last one, and what counts of it
pub bits-last : (H : Variant) (front : List ℕ) (b k : ℕ)
    → message_bits H (front ++ b ∷ []) k ≡ byte_bits front ++ bits_of high_first k (counted_of H.family k b)
unfolding message_bits bits_in
bits-last H [] b k = refl
bits-last H (x ∷ []) b k = sym (append_assoc (bits_of high_first 8 x) [] _)
bits-last H (x ∷ y ∷ front) b k =
    ap (λ (bs : List Bool). bits_of high_first 8 x ++ bs) (bits-last H (y ∷ front) b k)
    ∙ sym (append_assoc (bits_of high_first 8 x) (byte_bits (y ∷ front)) _)

module _ (m : List ℕ) (some : 0 < length m) where
  pub front-size : length (before_last m) ≡ length m - 1
  front-size = length-take-le (length m - 1) m (omega arith)

  -- a message that has a byte has a last one
  pub last-split : m ≡ before_last m ++ last_of m ∷ []
  last-split =
      split_at m (length m - 1) 0 (omega arith)
      ∙ ap (λ (rest : List ℕ). before_last m ++ last_of m ∷ rest) (drop_of_length-le m {i = suc (length m - 1)} (omega arith))

  module _ (H : Variant) (k : ℕ) where
    pub bits_are : message_bits H m k ≡ byte_bits (before_last m) ++ bits_of high_first k (counted_of H.family k (last_of m))
    bits_are = ap (λ (l : List ℕ). message_bits H l k) last-split ∙ bits-last H (before_last m) (last_of m) k

    -- how many they are
    pub bits-length : length (message_bits H m k) ≡ 8 * (length m - 1) + k
    bits-length =
        let last : List Bool = bits_of high_first k (counted_of H.family k (last_of m)) in
        ap length bits_are
        ∙ length-append (byte_bits (before_last m)) last
        ∙ omega (arith, length-bits_in high_first (before_last m), front-size, length-bits_of high_first k (counted_of H.family k (last_of m)))

    -- whole bytes in front of them
    pub bits-behind : (x : List ℕ) → message_bits H (x ++ m) k ≡ byte_bits x ++ message_bits H m k
    bits-behind x =
        let last : List Bool = bits_of high_first k (counted_of H.family k (last_of m)) in
        ap (λ (l : List ℕ). message_bits H (x ++ l) k) last-split
        ∙ ap (λ (l : List ℕ). message_bits H l k) (sym (append_assoc x (before_last m) (last_of m ∷ [])))
        ∙ bits-last H (x ++ before_last m) (last_of m) k
        ∙ ap (λ (bs : List Bool). bs ++ last) (bits_in-append high_first x (before_last m))
        ∙ append_assoc (byte_bits x) (byte_bits (before_last m)) last
        ∙ ap (λ (bs : List Bool). byte_bits x ++ bs) (sym bits_are)

-- all eight bits of a byte
counted-eight : (F : Family) (b : ℕ) → bits_of high_first 8 (counted_of F 8 b) ≡ bits_of high_first 8 b
counted-eight (sponge (photon p) r') b = ap (bits_of high_first 8) (div-one b)
counted-eight (sponge (spongent p) r') b = bits-mod high_first 8 b
counted-eight lesamnta b = ap (bits_of high_first 8) (div-one b)

-- where all bits count, the message is its whole bytes
pub bits-eight : (H : Variant) (m : List ℕ) → message_bits H m 8 ≡ byte_bits m
unfolding message_bits bits_in
bits-eight H [] = refl
bits-eight H (b ∷ []) = counted-eight H.family b ∙ sym (append-nil (bits_of high_first 8 b))
bits-eight H (b ∷ c ∷ bs) = ap (λ (l : List Bool). bits_of high_first 8 b ++ l) (bits-eight H (c ∷ bs))

-- Bits of the last byte that do not count change nothing.
pub uncounted : (H : Variant) (front : List ℕ) (b c k : ℕ) → counted_of H.family k b ≡ counted_of H.family k c
    → message_bits H (front ++ b ∷ []) k ≡ message_bits H (front ++ c ∷ []) k
uncounted H front b c k e =
    bits-last H front b k ∙ ap (λ (n : ℕ). byte_bits front ++ bits_of high_first k n) e ∙ sym (bits-last H front c k)

-- and not how many bytes there are
pub same_bytes : (front : List ℕ) (b c : ℕ) → length (front ++ b ∷ []) ≡ length (front ++ c ∷ [])
same_bytes front b c = length-append front (b ∷ []) ∙ sym (length-append front (c ∷ []))

high_lt : (k b : ℕ) → k ≤ 8 → b < 256 → b / 2 ^ (8 - k) < 2 ^ k
high_lt k b h l =
    let width : k + (8 - k) ≡ 8 = omega arith in
    shr_lt k (8 - k) (rw width l)

-- what counts of a byte fits in k bits
pub counted-lt : (F : Family) (k b : ℕ) → k ≤ 8 → b < 256 → counted_of F k b < 2 ^ k
counted-lt (sponge (photon p) r') k b h l = high_lt k b h l
counted-lt (sponge (spongent p) r') k b h l = mod-lt b {m = 2 ^ k} (pow_pos k)
counted-lt lesamnta k b h l = high_lt k b h l

-- ---- by number

-- n bits give floor(n / r) + 1 blocks of a sponge
pub bit-block-count : (v : ℕ) → is_sponge (variant v) ≡ true → (m : List Bool) → length (blocks_of (variant v) m) ≡ length m / (variant v).r + 1
bit-block-count v e m = block-count (variant v) m ∙ sponge-count (variant v) (streams v (sponge-known v e)) (is-sponge v e) (length m)

-- Two messages of bytes, of whose last bytes k and l bits count, are one message where their padded rows are equal.
module _ (v : ℕ) (named : known v ≡ true) (x y : List ℕ) (hx : (i : ℕ) → get_or x i 0 < 256) (hy : (i : ℕ) → get_or y i 0 < 256) (sx : 0 < length x) (sy : 0 < length y)
    (k l : ℕ) (k-least : 1 ≤ k) (k-most : k ≤ 8) (l-least : 1 ≤ l) (l-most : l ≤ 8) where
  abbrev H : Variant
  H = variant v

  abbrev X : List Bool
  X = bits_of high_first k (counted_of H.family k (last_of x))

  abbrev Y : List Bool
  Y = bits_of high_first k (counted_of H.family k (last_of y))

  one-message : blocks_of (variant v) (message_bits (variant v) x k) ≡ blocks_of (variant v) (message_bits (variant v) y l) → SameMessage (variant v) x k y l
  one-message e =
      let same : message_bits H x k ≡ message_bits H y l = rows_tell v named (message_bits H x k) (message_bits H y l) e in
      let many : 8 * (length x - 1) + k ≡ 8 * (length y - 1) + l = sym (bits-length x sx H k) ∙ ap length same ∙ bits-length y sy H l in
      let bytes : length x ≡ length y = omega arith in
      let bits : k ≡ l = omega arith in
      let parts : byte_bits (before_last x) ++ X ≡ byte_bits (before_last y) ++ Y =
      sym (bits_are x sx H k) ∙ same ∙ ap (message_bits H y) (sym bits) ∙ bits_are y sy H k in
      let sizes : length (byte_bits (before_last x)) ≡ length (byte_bits (before_last y)) =
      length-bits_in high_first (before_last x) ∙ omega (arith, front-size x sx, front-size y sy) ∙ sym (length-bits_in high_first (before_last y)) in
      let fronts : byte_bits (before_last x) ≡ byte_bits (before_last y) =
      sym (take_at (byte_bits (before_last x)) X _ sizes) ∙ ap (take (length (byte_bits (before_last y)))) parts ∙ take_at (byte_bits (before_last y)) Y _ refl in
      let lasts : X ≡ Y =
      sym (drop_at (byte_bits (before_last x)) X _ sizes) ∙ ap (drop (length (byte_bits (before_last y)))) parts ∙ drop_at (byte_bits (before_last y)) Y _ refl in
      record { bytes = bytes; bits = bits; before = befores fronts (omega arith); counted = counts lasts }
    where
      front-byte : (z : List ℕ) → ((i : ℕ) → get_or z i 0 < 256) → (n i : ℕ) → get_or (take n z) i 0 < 256
      front-byte z hz zero i = omega arith
      front-byte [] hz (suc n) i = omega arith
      front-byte (b ∷ z) hz (suc n) zero = hz 0
      front-byte (b ∷ z) hz (suc n) (suc i) = front-byte z (λ j. hz (suc j)) n i

      befores : byte_bits (before_last x) ≡ byte_bits (before_last y) → length x ≡ length y → before_last x ≡ before_last y
      befores e s =
          sym (pack-bits_in high_first (before_last x) (front-byte x hx (length x - 1)))
          ∙ ap₂ (pack high_first) (front-size x sx ∙ ap (λ (n : ℕ). n - 1) s ∙ sym (front-size y sy)) e
          ∙ pack-bits_in high_first (before_last y) (front-byte y hy (length y - 1))

      counts : X ≡ Y → counted_of H.family k (last_of x) ≡ counted_of H.family k (last_of y)
      counts e =
          sym (value_of-bits_of high_first k _ (counted-lt H.family k (last_of x) k-most (hx (length x - 1))))
          ∙ ap (value_of high_first) e
          ∙ value_of-bits_of high_first k _ (counted-lt H.family k (last_of y) k-most (hy (length y - 1)))

pub message-told : MessageTold
message-told = one-message
