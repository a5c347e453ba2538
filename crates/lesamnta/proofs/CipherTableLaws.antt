-- Q and R by look-ups and whole words: what each byte of a word gives, summed, is Q; the upper halves of two words exchanged are R.
-- Assumes nothing.
use mathlib.Core.Path.{◌≡◌, sym, ap, ap₂, ◌∙◌}
use mathlib.Core.List.{List, [], ◌∷◌, ◌++◌}
use Prim.Native.Nat.{ℕ, ◌+◌, ◌-◌, ◌*◌, ◌/◌, ◌%◌, ◌^◌, ◌<◌}
use native.Mathlib.Nat.{mod-lt, zero-add, div-one}
use native.Mathlib.Omega.{arith}
use lib.Bits.{bit_xor, xor_block, xor_mod, xor_zero_r, xor_lt}
use lib.ListN.{get_or}
use Rattle.standard.specs.Field.{double, times, mul, dot}
use Rattle.standard.specs.Photon.{aes}
use Rattle.standard.specs.Grid.{tab}
use Rattle.standard.specs.Lesamnta.{bytes_of, word_of, sub_bytes, mix_column, word_q, bytes_r, generated}
use Rattle.standard.proofs.Xor.{xor_assoc}
use Rattle.standard.proofs.Tab.{length-tab, get_d-tab}
use Rattle.standard.proofs.FieldLaws.{mul-lt}
use Rattle.standard.proofs.Tests.{same-below, bound-below}
use Rattle.lesamnta.specs.CipherTables.{boxed_byte, BoxTable, ConstantTable, CipherTable}

-- ---- the tables

-- the tables that the rules make. Those that are written out are held to them entry by entry, which is computed.
pub box-table : BoxTable (tab 256 (boxed_byte 0))
box-table = record { size = length-tab 256 (boxed_byte 0); entry = λ x h. get_d-tab 256 (boxed_byte 0) x 0 h }

pub constant-table : ConstantTable (tab 64 generated)
constant-table = record { size = length-tab 64 generated; entry = λ r h. get_d-tab 64 generated r 0 h }

-- ---- what a byte gives

-- an entry that stands twice in a word, shifted by k bytes, is what the byte gives at place k: one test of all four places of all bytes
turned-tests : (n : ℕ) → n < 1024 → boxed_byte 0 (n % 256) * (2 ^ 32 + 1) / 2 ^ (8 * (n / 256)) % 2 ^ 32 ≡ boxed_byte (n / 256) (n % 256)
unfolding boxed_byte mul times double aes
turned-tests = same-below (λ n. boxed_byte 0 (n % 256) * (2 ^ 32 + 1) / 2 ^ (8 * (n / 256)) % 2 ^ 32) (λ n. boxed_byte (n / 256) (n % 256)) 1024 tt

pub turned : (k x : ℕ) → k < 4 → x < 256 → boxed_byte 0 x * (2 ^ 32 + 1) / 2 ^ (8 * k) % 2 ^ 32 ≡ boxed_byte k x
turned k x hk hx =
    let n : ℕ = 256 * k + x in
    let ek : n / 256 ≡ k = omega arith in
    let ex : n % 256 ≡ x = omega arith in
    rw (ek, ex) at (turned-tests n (omega arith))

-- ---- Q

-- four bytes as a word
abbrev word4 : ℕ → ℕ → ℕ → ℕ → ℕ
word4 a b c d = ((a * 256 + b) * 256 + c) * 256 + d

word-of-four : (a b c d : ℕ) → word_of (a ∷ b ∷ c ∷ d ∷ []) ≡ word4 a b c d
word-of-four a b c d = ap (λ (n : ℕ). ((n * 256 + b) * 256 + c) * 256 + d) (zero-add a)

-- the sum of two such words, byte by byte
word4-xor : (a b c d e f g h : ℕ) → b < 256 → c < 256 → d < 256 → f < 256 → g < 256 → h < 256
    → word4 (bit_xor a e) (bit_xor b f) (bit_xor c g) (bit_xor d h) ≡ bit_xor (word4 a b c d) (word4 e f g h)
word4-xor a b c d e f g h lb lc ld lf lg lh =
    ap (λ (n : ℕ). (n * 256 + bit_xor c g) * 256 + bit_xor d h) (sym (xor_block 8 a e b f lb lf))
    ∙ ap (λ (n : ℕ). n * 256 + bit_xor d h) (sym (xor_block 8 (a * 256 + b) (e * 256 + f) c g lc lg))
    ∙ sym (xor_block 8 ((a * 256 + b) * 256 + c) ((e * 256 + f) * 256 + g) d h ld lh)

-- the S-box's value of a byte is a byte, and so is its product
box-lt : (x : ℕ) → get_or aes (x % 256) 0 < 256
unfolding aes
box-lt x = bound-below (λ n. get_or aes n 0) 256 256 tt (x % 256) (mod-lt x {m = 256} (omega arith))

product_lt : (a x : ℕ) → mul 256 0x11b a (get_or aes (x % 256) 0) < 256
product_lt a x = mul-lt 8 0x11b (omega arith) (omega arith) a (get_or aes (x % 256) 0) (box-lt x)

-- one byte of Q: the sum of what four bytes give to it
abbrev given : ℕ → ℕ → ℕ
given a x = mul 256 0x11b a (get_or aes (x % 256) 0)

abbrev sum4 : ℕ → ℕ → ℕ → ℕ → ℕ
sum4 a b c d = bit_xor (bit_xor (bit_xor a b) c) d

in-turn : (a b c d : ℕ) → bit_xor a (bit_xor b (bit_xor c (bit_xor d 0))) ≡ sum4 a b c d
in-turn a b c d =
    ap (λ (n : ℕ). bit_xor a (bit_xor b (bit_xor c n))) (xor_zero_r d)
    ∙ ap (bit_xor a) (sym (xor_assoc b c d))
    ∙ sym (xor_assoc a (bit_xor b c) d)
    ∙ ap (λ (n : ℕ). bit_xor n d) (sym (xor_assoc a b c))

module _ (p q r s : ℕ) where
  -- Q of four bytes, byte by byte
  columns : word_of (mix_column (sub_bytes (p % 256 ∷ q % 256 ∷ r % 256 ∷ s % 256 ∷ [])))
      ≡ word4 (sum4 (given 2 p) (given 3 q) (given 1 r) (given 1 s)) (sum4 (given 1 p) (given 2 q) (given 3 r) (given 1 s))
      (sum4 (given 1 p) (given 1 q) (given 2 r) (given 3 s)) (sum4 (given 3 p) (given 1 q) (given 1 r) (given 2 s))
  unfolding mix_column sub_bytes dot
  columns =
      word-of-four _ _ _ _
      ∙ ap₂ (λ (m n : ℕ). m * 256 + n)
      (ap₂ (λ (m n : ℕ). m * 256 + n) (ap₂ (λ (m n : ℕ). m * 256 + n) (in-turn (given 2 p) (given 3 q) (given 1 r) (given 1 s)) (in-turn (given 1 p) (given 2 q) (given 3 r) (given 1 s)))
      (in-turn (given 1 p) (given 1 q) (given 2 r) (given 3 s)))
      (in-turn (given 3 p) (given 1 q) (given 1 r) (given 2 s))

  boxed-is : (k x : ℕ) → boxed_byte k (x % 256)
      ≡ word4 (given (get_or (2 ∷ 3 ∷ 1 ∷ 1 ∷ []) k 0) x) (given (get_or (1 ∷ 2 ∷ 3 ∷ 1 ∷ []) k 0) x) (given (get_or (1 ∷ 1 ∷ 2 ∷ 3 ∷ []) k 0) x) (given (get_or (3 ∷ 1 ∷ 1 ∷ 2 ∷ []) k 0) x)
  unfolding boxed_byte
  boxed-is k x = word-of-four _ _ _ _

  small : (a x : ℕ) → given a x < 256
  small a x = product_lt a x

  small2 : (a x b y : ℕ) → bit_xor (given a x) (given b y) < 256
  small2 a x b y = xor_lt 8 (given a x) (given b y) (small a x) (small b y)

  small3 : (a x b y c z : ℕ) → bit_xor (bit_xor (given a x) (given b y)) (given c z) < 256
  small3 a x b y c z = xor_lt 8 (bit_xor (given a x) (given b y)) (given c z) (small2 a x b y) (small c z)

  -- and as the sum of what each byte gives
  pub columns-sum : word_of (mix_column (sub_bytes (p % 256 ∷ q % 256 ∷ r % 256 ∷ s % 256 ∷ []))) ≡ sum4 (boxed_byte 0 (p % 256)) (boxed_byte 1 (q % 256)) (boxed_byte 2 (r % 256)) (boxed_byte 3 (s % 256))
  columns-sum =
      columns
      ∙ word4-xor (bit_xor (bit_xor (given 2 p) (given 3 q)) (given 1 r)) (bit_xor (bit_xor (given 1 p) (given 2 q)) (given 3 r))
      (bit_xor (bit_xor (given 1 p) (given 1 q)) (given 2 r)) (bit_xor (bit_xor (given 3 p) (given 1 q)) (given 1 r))
      (given 1 s) (given 1 s) (given 3 s) (given 2 s)
      (small3 1 p 2 q 3 r) (small3 1 p 1 q 2 r) (small3 3 p 1 q 1 r) (small 1 s) (small 3 s) (small 2 s)
      ∙ ap₂ bit_xor
      (word4-xor (bit_xor (given 2 p) (given 3 q)) (bit_xor (given 1 p) (given 2 q)) (bit_xor (given 1 p) (given 1 q)) (bit_xor (given 3 p) (given 1 q))
      (given 1 r) (given 3 r) (given 2 r) (given 1 r)
      (small2 1 p 2 q) (small2 1 p 1 q) (small2 3 p 1 q) (small 3 r) (small 2 r) (small 1 r)
      ∙ ap₂ bit_xor
      (word4-xor (given 2 p) (given 1 p) (given 1 p) (given 3 p) (given 3 q) (given 2 q) (given 1 q) (given 1 q)
      (small 1 p) (small 1 p) (small 3 p) (small 2 q) (small 1 q) (small 1 q)
      ∙ ap₂ bit_xor (sym (boxed-is 0 p)) (sym (boxed-is 1 q)))
      (sym (boxed-is 2 r)))
      (sym (boxed-is 3 s))

-- Q by look-ups: four entries, each turned to its place, summed; what lies above 32 bits is cut
module _ (n : ℕ) (table : List ℕ) (u : CipherTable n table) (x : ℕ) where
  entry : (k y : ℕ) → k < 4 → get_or table (y % 256) 0 / 2 ^ (8 * k) % 2 ^ 32 ≡ boxed_byte k (y % 256)
  entry k y h =
      let low : y % 256 < 256 = mod-lt y {m = 256} (omega arith) in
      ap (λ (z : ℕ). z / 2 ^ (8 * k) % 2 ^ 32) (u.box (y % 256) low) ∙ turned k (y % 256) h low

  pub look_up_lem : bit_xor (bit_xor (bit_xor (get_or table (x / 2 ^ 24 % 256) 0) (get_or table (x / 2 ^ 16 % 256) 0 / 2 ^ 8)) (get_or table (x / 2 ^ 8 % 256) 0 / 2 ^ 16)) (get_or table (x % 256) 0 / 2 ^ 24) % 2 ^ 32 ≡ word_q x
  unfolding word_q
  look_up_lem =
      let a : ℕ = get_or table (x / 2 ^ 24 % 256) 0 in
      let b : ℕ = get_or table (x / 2 ^ 16 % 256) 0 / 2 ^ 8 in
      let c : ℕ = get_or table (x / 2 ^ 8 % 256) 0 / 2 ^ 16 in
      let d : ℕ = get_or table (x % 256) 0 / 2 ^ 24 in
      xor_mod (bit_xor (bit_xor a b) c) d 32
      ∙ ap₂ bit_xor (xor_mod (bit_xor a b) c 32 ∙ ap₂ bit_xor (xor_mod a b 32 ∙ ap₂ bit_xor (sym (ap (λ (z : ℕ). z % 2 ^ 32) (div-one a)) ∙ entry 0 (x / 2 ^ 24) (omega arith)) (entry 1 (x / 2 ^ 16) (omega arith))) (entry 2 (x / 2 ^ 8) (omega arith))) (entry 3 x (omega arith))
      ∙ sym (columns-sum (x / 2 ^ 24) (x / 2 ^ 16) (x / 2 ^ 8) x)
      ∙ ap (λ (z : ℕ). word_of (mix_column (sub_bytes (x / 2 ^ 24 % 256 ∷ x / 2 ^ 16 % 256 ∷ x / 2 ^ 8 % 256 ∷ z % 256 ∷ [])))) (sym (div-one x))

-- Q looks at the lower half of a word alone
pub lower-half : (y : ℕ) → word_q (y % 2 ^ 32) ≡ word_q y
unfolding word_q
lower-half y =
    let a : y % 2 ^ 32 / 256 ^ 3 % 256 ≡ y / 256 ^ 3 % 256 = omega arith in
    let b : y % 2 ^ 32 / 256 ^ 2 % 256 ≡ y / 256 ^ 2 % 256 = omega arith in
    let c : y % 2 ^ 32 / 256 ^ 1 % 256 ≡ y / 256 ^ 1 % 256 = omega arith in
    let d : y % 2 ^ 32 / 256 ^ 0 % 256 ≡ y / 256 ^ 0 % 256 = omega arith in
    rw (a, b, c, d)

-- ---- R

pub crossed : (a b : ℕ) → a < 2 ^ 32 → b < 2 ^ 32 → (b - b % 0x10000 + a % 0x10000) * 0x100000000 + (a - a % 0x10000 + b % 0x10000) ≡ word_of (bytes_r (bytes_of 4 a ++ bytes_of 4 b))
unfolding bytes_r
crossed a b la lb =
    let a-high : a - a % 0x10000 ≡ (a / 256 ^ 3 % 256 * 256 + a / 256 ^ 2 % 256) * 65536 = omega arith in
    let a-low : a % 0x10000 ≡ a / 256 ^ 1 % 256 * 256 + a / 256 ^ 0 % 256 = omega arith in
    let b-high : b - b % 0x10000 ≡ (b / 256 ^ 3 % 256 * 256 + b / 256 ^ 2 % 256) * 65536 = omega arith in
    let b-low : b % 0x10000 ≡ b / 256 ^ 1 % 256 * 256 + b / 256 ^ 0 % 256 = omega arith in
    eight (b / 256 ^ 3 % 256) (b / 256 ^ 2 % 256) (a / 256 ^ 1 % 256) (a / 256 ^ 0 % 256) (a / 256 ^ 3 % 256) (a / 256 ^ 2 % 256) (b / 256 ^ 1 % 256) (b / 256 ^ 0 % 256)
    (b - b % 0x10000) (a % 0x10000) (a - a % 0x10000) (b % 0x10000) b-high a-low a-high b-low
  where
    eight : (s4 s5 s2 s3 s0 s1 s6 s7 bh al ah bl : ℕ) → bh ≡ (s4 * 256 + s5) * 65536 → al ≡ s2 * 256 + s3 → ah ≡ (s0 * 256 + s1) * 65536 → bl ≡ s6 * 256 + s7
        → (bh + al) * 0x100000000 + (ah + bl) ≡ word_of (s4 ∷ s5 ∷ s2 ∷ s3 ∷ s0 ∷ s1 ∷ s6 ∷ s7 ∷ [])
    eight s4 s5 s2 s3 s0 s1 s6 s7 bh al ah bl e f g h = omega arith
