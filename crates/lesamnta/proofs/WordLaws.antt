-- Words of 64 bits in bytes and back, and in halves; and from them the step of the chain and the cipher.
-- Assumes nothing.
use mathlib.Core.Path.{◌≡◌, refl, sym, ap, ap₂, ◌∙◌, subst}
use mathlib.Core.Bool.{Bool}
use mathlib.Core.List.{List, [], ◌∷◌, ◌++◌, foldl, flat_map, map, append_assoc, append-nil}
use mathlib.Core.Logic.{⊎_elim}
use Rattle.std.specs.Int.{w64, from_be_bytes}
use Rattle.standard.specs.Grid.{tab}
use Rattle.standard.proofs.Tab.{tab-self}
use Rattle.octets.proofs.ByteLaws.{take-bytes, drop-bytes}
use Prim.Native.Nat.{ℕ, zero, suc, ◌+◌, ◌-◌, ◌*◌, ◌/◌, ◌%◌, ◌^◌, ◌≤◌, ◌<◌}
use native.Mathlib.Nat.{mod-lt, pow-suc, not-suc-le-zero}
use native.Mathlib.Numerals.{add-one}
use native.Mathlib.Omega.{arith}
use lib.Arith.{digits_div, digits_mod}
use lib.Pow.{pow-add}
use lib.ListN.{length, get_or, set, take, drop, take-append-drop, length-append, length-drop, get_or-append, get_or-eq_default}
use lib.Seq.{drop-cons, drop-drop, take-add, take-suc, length-take-le, set_at, get_or-append-add, take_at, take_all, drop_at}
use Rattle.standard.specs.Bits.{high_first, low_bits, ordered, bits_of, value_of, bits_in, pack, cut}
use Rattle.standard.specs.Lesamnta.{bytes_of, word_of, four_words, bits_of_words, mixing, round_keys, cipher_constants, cipher, lesamnta_step}
use Rattle.standard.specs.Rounds.{rounds}
use Rattle.standard.specs.declared.Direction.{Direction}
use Rattle.standard.specs.declared.Direction.TheVariants.{Forward}
use Rattle.standard.specs.Chain.{step}
use Rattle.standard.specs.Variants.{variant}
use Rattle.standard.proofs.BitLaws.{bits_in-append, bits_in-take, bits_in-drop, pack-bits_in, value_of-bits_of, bits_of-value_of, length-bits_of, value_of-lt}
use Rattle.standard.proofs.HighBits.{high-split, bits-mod}
use Rattle.standard.proofs.CutLaws.{cut-append, take-drop-take}
use Rattle.standard.proofs.LesamntaLaws.{Four, words-bits, bits-words}
use Rattle.standard.proofs.Tests.{lt-or-le}
use Rattle.lesamnta.specs.Words.{state_of_four}

-- ---- a word of bytes

-- bytes after a number, bit by bit
word-bits-from : (bs : List ℕ) → ((i : ℕ) → get_or bs i 0 < 256) → (w n : ℕ)
    → bits_of high_first (w + 8 * length bs) (foldl (λ m b. m * 256 + b) n bs) ≡ bits_of high_first w n ++ bits_in high_first bs
unfolding bits_in
word-bits-from [] h w n =
    let size : w + 8 * 0 ≡ w = omega arith in
    ap (λ (k : ℕ). bits_of high_first k n) size ∙ sym (append-nil (bits_of high_first w n))
word-bits-from (b ∷ bs) h w n =
    let size : w + 8 * length (b ∷ bs) ≡ w + 8 + 8 * length bs = omega arith in
    let above : (n * 256 + b) / 2 ^ 8 ≡ n = digits_div n (h 0) in
    let below : bits_of high_first 8 (n * 256 + b) ≡ bits_of high_first 8 b = sym (bits-mod high_first 8 (n * 256 + b)) ∙ ap (bits_of high_first 8) (digits_mod n (h 0)) in
    ap (λ (k : ℕ). bits_of high_first k (foldl (λ m c. m * 256 + c) (n * 256 + b) bs)) size
    ∙ word-bits-from bs (λ i. h (suc i)) (w + 8) (n * 256 + b)
    ∙ ap (λ (x : List Bool). x ++ bits_in high_first bs) (high-split w 8 (n * 256 + b) ∙ ap₂ (λ (x : ℕ) (y : List Bool). bits_of high_first w x ++ y) above below)
    ∙ append_assoc (bits_of high_first w n) (bits_of high_first 8 b) (bits_in high_first bs)

pub word-bits : (bs : List ℕ) → ((i : ℕ) → get_or bs i 0 < 256) → bits_of high_first (8 * length bs) (word_of bs) ≡ bits_in high_first bs
unfolding bits_of ordered low_bits
word-bits bs h =
    let size : 0 + 8 * length bs ≡ 8 * length bs = omega arith in
    ap (λ (k : ℕ). bits_of high_first k (word_of bs)) (sym size) ∙ word-bits-from bs h 0 0

-- the library's word of eight bytes is that of their bits
be_word : (f : ℕ → ℕ) → from_be_bytes w64 (tab 8 f) ≡ word_of (tab 8 f)
be_word f = omega arith

-- the word of the eight bytes from a place on
pub read_word : (bytes word : List ℕ) (at : ℕ) → at + 8 ≤ length bytes → ((i : ℕ) → get_or bytes i 0 < 256) → word ≡ take 8 (drop at bytes)
    → from_be_bytes w64 word ≡ value_of high_first (take 64 (drop (8 * at) (bits_in high_first bytes)))
read_word bytes word at room small e =
    let size : length word ≡ 8 = ap length e ∙ length-take-le 8 (drop at bytes) (omega (arith, length-drop at bytes)) in
    let self : tab 8 (λ k. get_or word k 0) ≡ word = tab-self 8 word 0 size in
    let bytes-small : (i : ℕ) → get_or word i 0 < 256 = λ i. rw e (take-bytes 8 (drop at bytes) (drop-bytes at bytes small) i) in
    let bits : bits_of high_first 64 (word_of word) ≡ take 64 (drop (8 * at) (bits_in high_first bytes)) =
    ap (λ (n : ℕ). bits_of high_first (8 * n) (word_of word)) (sym size) ∙ word-bits word bytes-small ∙ ap (bits_in high_first) e
    ∙ sym (bits_in-take high_first 8 (drop at bytes)) ∙ ap (take 64) (sym (bits_in-drop high_first at bytes)) in
    let fits : word_of (tab 8 (λ k. get_or word k 0)) < 2 ^ 64 =
    omega (arith, bytes-small 0, bytes-small 1, bytes-small 2, bytes-small 3, bytes-small 4, bytes-small 5, bytes-small 6, bytes-small 7) in
    subst (λ (l : List ℕ). from_be_bytes w64 l ≡ word_of l) self (be_word (λ k. get_or word k 0))
    ∙ sym (value_of-bits_of high_first 64 (word_of word) (subst (λ (l : List ℕ). word_of l < 2 ^ 64) self fits))
    ∙ ap (value_of high_first) bits

-- ---- a word in bytes

powers : (n : ℕ) → 256 ^ n ≡ 2 ^ (8 * n)
powers zero = refl
powers (suc n) =
    let size : 8 * suc n ≡ 8 * n + 8 = omega arith in
    pow-suc 256 n ∙ ap (λ (m : ℕ). m * 256) (powers n) ∙ sym (pow-add 2 (8 * n) 8) ∙ ap (λ (k : ℕ). 2 ^ k) (sym size)

-- the bytes of a word are its bits
pub bytes_bits : (n y : ℕ) → bits_of high_first (8 * n) y ≡ bits_in high_first (bytes_of n y)
unfolding bits_in bits_of ordered low_bits
bytes_bits zero y = refl
bytes_bits (suc n) y =
    let size : 8 * suc n ≡ 8 + 8 * n = omega arith in
    ap (λ (k : ℕ). bits_of high_first k y) size
    ∙ high-split 8 (8 * n) y
    ∙ ap₂ (λ (a b : List Bool). a ++ b)
    (ap (λ (m : ℕ). bits_of high_first 8 (y / m)) (sym (powers n)) ∙ sym (bits-mod high_first 8 (y / 256 ^ n))) (bytes_bits n y)

length-bytes : (n y : ℕ) → length (bytes_of n y) ≡ n
length-bytes zero y = refl
length-bytes (suc n) y = ap suc (length-bytes n y)

bytes-at : (n y j : ℕ) → j < n → get_or (bytes_of n y) j 0 ≡ y / 256 ^ (n - 1 - j) % 256
bytes-at zero y j h = absurd (not-suc-le-zero h)
bytes-at (suc n) y zero h =
    let e : suc n - 1 - 0 ≡ n = omega arith in
    ap (λ (k : ℕ). y / 256 ^ k % 256) (sym e)
bytes-at (suc n) y (suc j) h =
    let e : suc n - 1 - suc j ≡ n - 1 - j = omega arith in
    bytes-at n y j (omega arith) ∙ ap (λ (k : ℕ). y / 256 ^ k % 256) (sym e)

-- words in bytes, one after the other
abbrev pub in_bytes : List ℕ → List ℕ
in_bytes x = flat_map (bytes_of 8) x

pub in_bytes-bits : (x : List ℕ) → bits_in high_first (in_bytes x) ≡ bits_of_words 64 x
unfolding bits_of_words flat_map bits_in
in_bytes-bits [] = refl
in_bytes-bits (y ∷ x) = bits_in-append high_first (bytes_of 8 y) (in_bytes x) ∙ ap₂ (λ (a b : List Bool). a ++ b) (sym (bytes_bits 8 y)) (in_bytes-bits x)

pub in_bytes-length : (x : List ℕ) → length (in_bytes x) ≡ 8 * length x
unfolding flat_map
in_bytes-length [] = refl
in_bytes-length (y ∷ x) = length-append (bytes_of 8 y) (in_bytes x) ∙ omega (arith, length-bytes 8 y, in_bytes-length x)

at_first : (y : ℕ) (x : List ℕ) (i : ℕ) → i < 8 → get_or (in_bytes (y ∷ x)) i 0 ≡ get_or (y ∷ x) (i / 8) 0 / 2 ^ (56 - 8 * (i % 8)) % 256
unfolding flat_map
at_first y x i l =
    let q : i / 8 ≡ 0 = omega arith in
    let m : i % 8 ≡ i = omega arith in
    let e : 8 * (8 - 1 - i) ≡ 56 - 8 * i = omega arith in
    get_or-append (bytes_of 8 y) (in_bytes x) 0 i (omega (arith, length-bytes 8 y))
    ∙ bytes-at 8 y i l
    ∙ ap (λ (n : ℕ). y / n % 256) (powers (8 - 1 - i) ∙ ap (λ (k : ℕ). 2 ^ k) e)
    ∙ rw (q, m)

at_others : (y : ℕ) (x : List ℕ) (i : ℕ) → 8 ≤ i → get_or (in_bytes x) (i - 8) 0 ≡ get_or x ((i - 8) / 8) 0 / 2 ^ (56 - 8 * ((i - 8) % 8)) % 256
    → get_or (in_bytes (y ∷ x)) i 0 ≡ get_or (y ∷ x) (i / 8) 0 / 2 ^ (56 - 8 * (i % 8)) % 256
unfolding flat_map
at_others y x i l there =
    let sum : i ≡ length (bytes_of 8 y) + (i - 8) = omega (arith, length-bytes 8 y) in
    let q : i / 8 ≡ suc ((i - 8) / 8) = omega arith in
    let m : i % 8 ≡ (i - 8) % 8 = omega arith in
    ap (λ (k : ℕ). get_or (in_bytes (y ∷ x)) k 0) sum ∙ get_or-append-add (bytes_of 8 y) (in_bytes x) (i - 8) 0 ∙ there ∙ rw (q, m)

pub in_bytes-at : (x : List ℕ) (i : ℕ) → i < 8 * length x → get_or (in_bytes x) i 0 ≡ get_or x (i / 8) 0 / 2 ^ (56 - 8 * (i % 8)) % 256
in_bytes-at [] i h = absurd (omega arith)
in_bytes-at (y ∷ x) i h = ⊎_elim (at_first y x i) (λ l. at_others y x i l (in_bytes-at x (i - 8) (omega arith))) (lt-or-le i 8)

in_bytes-small : (x : List ℕ) (i : ℕ) → get_or (in_bytes x) i 0 < 256
in_bytes-small x i =
    ⊎_elim
    (λ l. rw (in_bytes-at x i l) (mod-lt (get_or x (i / 8) 0 / 2 ^ (56 - 8 * (i % 8))) {m = 256} (omega arith)))
    (λ l. rw (get_or-eq_default (in_bytes x) 0 {n = i} (omega (arith, in_bytes-length x))) (omega arith))
    (lt-or-le i (8 * length x))

pub packed-words : (x : List ℕ) → pack high_first (8 * length x) (bits_of_words 64 x) ≡ in_bytes x
packed-words x =
    ap₂ (pack high_first) (sym (in_bytes-length x)) (sym (in_bytes-bits x)) ∙ pack-bits_in high_first (in_bytes x) (in_bytes-small x)

-- ---- four words

-- two words in halves
pub halves_are : (a b : ℕ) → a < 2 ^ 64 → b < 2 ^ 64 → a / 2 ^ 32 ∷ a % 2 ^ 32 ∷ b / 2 ^ 32 ∷ b % 2 ^ 32 ∷ [] ≡ four_words 32 (bits_of high_first 64 a ++ bits_of high_first 64 b)
unfolding bits_of_words flat_map
halves_are a b la lb =
    let x : List ℕ = a / 2 ^ 32 ∷ a % 2 ^ 32 ∷ b / 2 ^ 32 ∷ b % 2 ^ 32 ∷ [] in
    let low : (n : ℕ) → bits_of high_first 64 n ≡ bits_of high_first 32 (n / 2 ^ 32) ++ bits_of high_first 32 (n % 2 ^ 32) =
    λ n. high-split 32 32 n ∙ ap (λ (bs : List Bool). bits_of high_first 32 (n / 2 ^ 32) ++ bs) (sym (bits-mod high_first 32 n)) in
    let bits : bits_of high_first 64 a ++ bits_of high_first 64 b ≡ bits_of_words 32 x =
    ap₂ (λ (p q : List Bool). p ++ q) (low a) (low b)
    ∙ append_assoc (bits_of high_first 32 (a / 2 ^ 32)) (bits_of high_first 32 (a % 2 ^ 32)) (bits_of high_first 32 (b / 2 ^ 32) ++ bits_of high_first 32 (b % 2 ^ 32))
    ∙ ap (λ (z : List Bool). bits_of high_first 32 (a / 2 ^ 32) ++ (bits_of high_first 32 (a % 2 ^ 32) ++ (bits_of high_first 32 (b / 2 ^ 32) ++ z))) (sym (append-nil (bits_of high_first 32 (b % 2 ^ 32)))) in
    let small : Four 32 x =
    record { count = refl; below = (omega arith, (mod-lt a {m = 2 ^ 32} (omega arith), (omega arith, (mod-lt b {m = 2 ^ 32} (omega arith), tt)))) } in
    sym (words-bits 32 x small) ∙ ap (four_words 32) (sym bits)

-- the bits of two words, read from the front of a string
pub two-words : (bits : List Bool) (a b : ℕ) → 128 ≤ length bits → a ≡ value_of high_first (take 64 (drop (8 * 0) bits)) → b ≡ value_of high_first (take 64 (drop (8 * 8) bits))
    → bits_of high_first 64 a ++ bits_of high_first 64 b ≡ take 128 bits
two-words bits a b size ea eb =
    let x : List Bool = take 64 bits in
    let y : List Bool = take 64 (drop 64 bits) in
    let lx : length x ≡ 64 = length-take-le 64 bits (omega arith) in
    let ly : length y ≡ 64 = length-take-le 64 (drop 64 bits) (omega (arith, length-drop 64 bits)) in
    ap₂ (λ (p q : List Bool). p ++ q) (ap (bits_of high_first 64) ea ∙ bits_of-value_of high_first 64 x lx) (ap (bits_of high_first 64) eb ∙ bits_of-value_of high_first 64 y ly)
    ∙ sym (take-add 64 64 bits)

-- four words read from a string of bits
pub words-read : (bits : List Bool) (a b c d : ℕ) → a ≡ value_of high_first (take 64 (drop (8 * 0) bits)) → b ≡ value_of high_first (take 64 (drop (8 * 8) bits))
    → c ≡ value_of high_first (take 64 (drop (8 * 16) bits)) → d ≡ value_of high_first (take 64 (drop (8 * 24) bits)) → a ∷ b ∷ c ∷ d ∷ [] ≡ four_words 64 bits
unfolding four_words cut
words-read bits a b c d ea eb ec ed =
    let third : drop 64 (drop 64 bits) ≡ drop 128 bits = drop-drop 64 64 bits in
    let fourth : drop 64 (drop 128 bits) ≡ drop 192 bits = drop-drop 64 128 bits in
    rw (ea, eb, ec, ed, third, fourth)

-- ---- bytes over the front of others

-- the first i of n bytes are written over the front
pub front-more : (bytes out₀ : List ℕ) (i : ℕ) (y : ℕ) → i < length bytes → i < length out₀ → y ≡ get_or bytes i 0
    → set (take i bytes ++ drop i out₀) i y ≡ take (i + 1) bytes ++ drop (i + 1) out₀
front-more bytes out₀ i y h room e =
    ap (λ (rest : List ℕ). set (take i bytes ++ rest) i y) (drop-cons out₀ i 0 room)
    ∙ set_at (take i bytes) (get_or out₀ i 0) (drop (suc i) out₀) y i (length-take-le i bytes (omega arith))
    ∙ ap₂ (λ (b : ℕ) (rest : List ℕ). take i bytes ++ b ∷ rest) e (ap (λ (n : ℕ). drop n out₀) (sym (add-one i)))
    ∙ sym (append_assoc (take i bytes) (get_or bytes i 0 ∷ []) (drop (i + 1) out₀))
    ∙ ap (λ (front : List ℕ). front ++ drop (i + 1) out₀) (sym (take-suc bytes i 0 h) ∙ ap (λ (n : ℕ). take n bytes) (sym (add-one i)))

-- four words are read from the front of a string
pub words-front : (w : ℕ) (bits : List Bool) → 4 * w ≤ length bits → four_words w bits ≡ four_words w (take (4 * w) bits)
unfolding four_words
words-front w bits room =
    let front : List Bool = take (4 * w) bits in
    ap (map (value_of high_first))
    (ap (cut w 4) (sym (take-append-drop (4 * w) bits)) ∙ cut-append w 4 front (drop (4 * w) bits) (omega (arith, length-take-le (4 * w) bits room)))

-- the bits of four words that were read are the first 256 of the string
pub state-read : (bits : List Bool) (x : List ℕ) → 256 ≤ length bits → x ≡ four_words 64 bits → bits_of_words 64 x ≡ take 256 bits
state-read bits x room e = ap (bits_of_words 64) (e ∙ words-front 64 bits room) ∙ bits-words 64 (take 256 bits) (length-take-le 256 bits room)

-- ---- the step of the chain and the cipher, from the words that the code makes

-- the halves of a state in words
module _ (w : List ℕ) where
  word : ℕ → List Bool
  word i = bits_of high_first 64 (get_or w i 0)

  halved : state_of_four w ≡ (word 0 ++ word 1) ++ (word 2 ++ (word 3 ++ []))
  unfolding state_of_four bits_of_words flat_map word
  halved = sym (append_assoc (word 0) (word 1) (word 2 ++ (word 3 ++ [])))

  half-size : length (word 0 ++ word 1) ≡ 128
  unfolding word
  half-size = length-append (word 0) (word 1) ∙ omega (arith, length-bits_of high_first 64 (get_or w 0 0), length-bits_of high_first 64 (get_or w 1 0))

  first-half : take 128 (state_of_four w) ≡ word 0 ++ word 1
  first-half = ap (take 128) halved ∙ take_at (word 0 ++ word 1) (word 2 ++ (word 3 ++ [])) 128 half-size

  second-half : drop 128 (state_of_four w) ≡ word 2 ++ (word 3 ++ [])
  second-half = ap (drop 128) halved ∙ drop_at (word 0 ++ word 1) (word 2 ++ (word 3 ++ [])) 128 half-size

-- the block from a place on: two words
module _ (bits : List Bool) (at a b : ℕ) (room : 8 * at + 128 ≤ length bits)
    (ea : a ≡ value_of high_first (take 64 (drop (8 * at) bits))) (eb : b ≡ value_of high_first (take 64 (drop (8 * (at + 8)) bits))) where
  block-bits : bits_of high_first 64 a ++ bits_of high_first 64 b ≡ take 128 (drop (8 * at) bits)
  block-bits =
      let block : List Bool = take 128 (drop (8 * at) bits) in
      let place : 8 * (at + 8) ≡ 8 * at + 64 = omega arith in
      let first : take 64 (drop (8 * at) bits) ≡ take 64 block = sym (take-drop-take 0 64 128 (drop (8 * at) bits) (omega arith)) in
      let second : take 64 (drop (8 * (at + 8)) bits) ≡ take 64 (drop 64 block) =
      ap (λ (n : ℕ). take 64 (drop n bits)) place ∙ ap (take 64) (sym (drop-drop 64 (8 * at) bits)) ∙ sym (take-drop-take 64 64 128 (drop (8 * at) bits) (omega arith)) in
      let size : length block ≡ 128 = length-take-le 128 (drop (8 * at) bits) (omega (arith, length-drop (8 * at) bits)) in
      two-words block a b (omega arith) (ea ∙ ap (value_of high_first) first) (eb ∙ ap (value_of high_first) second) ∙ take_all 128 block (omega arith)

  word_lt : (n k : ℕ) → k + 64 ≤ length bits → n ≡ value_of high_first (take 64 (drop k bits)) → n < 2 ^ 64
  word_lt n k r e = rw e (value_of-lt high_first 64 (take 64 (drop k bits)) (length-take-le 64 (drop k bits) (omega (arith, length-drop k bits))))

  -- what is enciphered in a step, in words
  pub step_words : (w : List ℕ) → ((i : ℕ) → get_or w i 0 < 2 ^ 64)
      → a ∷ b ∷ get_or w 2 0 ∷ get_or w 3 0 ∷ [] ≡ four_words 64 (take 128 (drop (8 * at) bits) ++ drop 128 (state_of_four w))
  unfolding bits_of_words flat_map word
  step_words w small =
      let x : List ℕ = a ∷ b ∷ get_or w 2 0 ∷ get_or w 3 0 ∷ [] in
      let four : Four 64 x =
      record { count = refl; below = (word_lt a (8 * at) (omega arith) ea, (word_lt b (8 * (at + 8)) (omega arith) eb, (small 2, (small 3, tt)))) } in
      sym (words-bits 64 x four)
      ∙ ap (four_words 64)
      (sym (append_assoc (bits_of high_first 64 a) (bits_of high_first 64 b) (bits_of high_first 64 (get_or w 2 0) ++ (bits_of high_first 64 (get_or w 3 0) ++ [])))
      ∙ ap₂ (λ (p q : List Bool). p ++ q) block-bits (sym (second-half w)))

  -- the step
  pub stepped-is : (w key r : List ℕ) → ((i : ℕ) → get_or w i 0 < 2 ^ 64)
      → key ≡ four_words 32 (bits_of high_first 64 (get_or w 0 0) ++ bits_of high_first 64 (get_or w 1 0))
      → r ≡ rounds mixing Forward (round_keys cipher_constants key) (a ∷ b ∷ get_or w 2 0 ∷ get_or w 3 0 ∷ [])
      → bits_of_words 64 r ≡ lesamnta_step (state_of_four w) (take 128 (drop (8 * at) bits))
  unfolding lesamnta_step cipher word
  stepped-is w key r small ek er =
      ap (bits_of_words 64)
      (er
      ∙ ap₂ (λ (k x : List ℕ). rounds mixing Forward (round_keys cipher_constants k) x) (ek ∙ ap (four_words 32) (sym (first-half w))) (step_words w small))

-- of a block from the nibble m on
pub block_room_lem : (m size : ℕ) → 4 * m + (variant 11).r ≤ 8 * size → m / 2 + 16 ≤ size
unfolding variant
block_room_lem m size room = omega arith

pub block-stepped : (bytes : List ℕ) (m : ℕ) → ((variant 11).r % 8 ≡ 0 → m % 2 ≡ 0) → (w y : List ℕ)
    → state_of_four y ≡ lesamnta_step (state_of_four w) (take 128 (drop (8 * (m / 2)) (bits_in high_first bytes)))
    → state_of_four y ≡ step (variant 11) (state_of_four w) (take (variant 11).r (drop (4 * m) (bits_in high_first bytes)))
unfolding step variant
block-stepped bytes m even w y e =
    let place : 8 * (m / 2) ≡ 4 * m = omega (arith, even refl) in
    e ∙ ap (λ (n : ℕ). lesamnta_step (state_of_four w) (take 128 (drop n (bits_in high_first bytes)))) place

-- the cipher, in either direction
pub cipher-is : (d : Direction) (key state : List Bool) (k x r : List ℕ) → k ≡ four_words 32 key → x ≡ four_words 64 state → r ≡ rounds mixing d (round_keys cipher_constants k) x
    → bits_of_words 64 r ≡ cipher d key state
unfolding cipher
cipher-is d key state k x r ek ex er = ap (bits_of_words 64) (er ∙ ap₂ (λ (a b : List ℕ). rounds mixing d (round_keys cipher_constants a) b) ek ex)
