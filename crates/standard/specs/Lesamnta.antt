-- Lesamnta-LW (6.2): its block cipher and the cipher's inverse under a key, and what it takes to chain it: padding,
-- start value and step. Words are numbers, their leftmost bit the most significant (6.2.1).
-- Assumes nothing.
use Rattle.std.specs.Prelude.{ℕ, zero, suc, ◌+◌, ◌-◌, ◌*◌, ◌/◌, ◌%◌, ◌^◌, Bool, true, false, cond, eqb, get_or, take, drop, replicate}
use mathlib.Core.List.{List, [], ◌∷◌, ◌++◌, map, flat_map, foldl}
use Rattle.std.specs.Int.Bits.{bit_xor}
use Rattle.standard.specs.Bits.{high_first, bits_of, value_of, cut}
use Rattle.standard.specs.Rounds.{rounds, iterate}
use Rattle.standard.specs.declared.Direction.{Direction}
use Rattle.standard.specs.declared.Direction.TheVariants.{Forward, Backward}
use Rattle.standard.specs.Grid.{tab}
use Rattle.standard.specs.Field.{dot}
use Rattle.standard.specs.Photon.{aes}

-- ---- words, bytes and bits

-- the n bytes of a word, the leftmost first
abbrev pub bytes_of : ℕ → ℕ → List ℕ
bytes_of zero x = []
bytes_of (suc n) x = x / 256 ^ n % 256 ∷ bytes_of n x

-- the word of bytes, the leftmost first
abbrev pub word_of : List ℕ → ℕ
word_of bytes = foldl (λ n b. n * 256 + b) 0 bytes

-- four words of w bits, and their bits
unfoldable pub four_words : ℕ → List Bool → List ℕ
four_words w bs = map (value_of high_first) (cut w 4 bs)

unfoldable pub bits_of_words : ℕ → List ℕ → List Bool
bits_of_words w xs = flat_map (bits_of high_first w) xs

-- ---- the round

-- 6.2.5.1: one round of a type-1 generalised Feistel network of four branches, with any inner function f, or that round
-- taken back
unfoldable pub feistel : (ℕ → ℕ) → Direction → List ℕ → List ℕ
feistel f Forward x = bit_xor (get_or x 3 0) (f (get_or x 2 0)) ∷ get_or x 0 0 ∷ get_or x 1 0 ∷ get_or x 2 0 ∷ []
feistel f Backward x = get_or x 1 0 ∷ get_or x 2 0 ∷ get_or x 3 0 ∷ bit_xor (get_or x 0 0) (f (get_or x 3 0)) ∷ []

-- 6.2.5.2 SubBytes: the AES S-box on each byte
unfoldable pub sub_bytes : List ℕ → List ℕ
sub_bytes s = map (λ b. get_or aes b 0) s

-- 6.2.5.2 MixColumns: the AES matrix, over the field of 11B
abbrev pub mix_matrix : List (List ℕ)
mix_matrix =
    (2 ∷ 3 ∷ 1 ∷ 1 ∷ [])
    ∷ (1 ∷ 2 ∷ 3 ∷ 1 ∷ [])
    ∷ (1 ∷ 1 ∷ 2 ∷ 3 ∷ [])
    ∷ (3 ∷ 1 ∷ 1 ∷ 2 ∷ [])
    ∷ []

unfoldable pub mix_column : List ℕ → List ℕ
mix_column s = map (λ row. dot 256 0x11b row s) mix_matrix

-- 6.2.5.2: Q, on words of 32 bits
unfoldable pub word_q : ℕ → ℕ
word_q x = word_of (mix_column (sub_bytes (bytes_of 4 x)))

-- 6.2.5.2: R, on eight bytes
unfoldable pub bytes_r : List ℕ → List ℕ
bytes_r s = map (λ i. get_or s i 0) (4 ∷ 5 ∷ 2 ∷ 3 ∷ 0 ∷ 1 ∷ 6 ∷ 7 ∷ [])

-- 6.2.5.2: G(y, K), y of 64 bits, K of 32
unfoldable pub word_g : ℕ → ℕ → ℕ
word_g y k = word_of (bytes_r (bytes_of 4 (word_q (bit_xor (y / 2 ^ 32) k)) ++ bytes_of 4 (word_q (y % 2 ^ 32))))

-- 6.2.5.2: the mixing function of one round, or that round taken back
unfoldable pub mixing : Direction → List ℕ → ℕ → List ℕ
mixing w x k = feistel (λ y. word_g y k) w x

-- ---- the key schedule

-- 6.2.5.3.1: the key state after a round with its constant
unfoldable pub scheduled : List ℕ → ℕ → List ℕ
scheduled k c = feistel (λ y. word_q (bit_xor c y)) Forward k

-- 6.2.5.3.1: the round keys, one for each constant: k_0 of each key state
unfoldable pub round_keys : List ℕ → List ℕ → List ℕ
round_keys [] k = []
round_keys (c ∷ cs) k = get_or k 0 0 ∷ round_keys cs (scheduled k c)

-- 6.2.5.3.2: one shift of the generator's register
unfoldable pub shifted : ℕ → ℕ
shifted c = cond (eqb (c % 2) 1) (bit_xor (c / 2) 0xdbcdcc80) (c / 2)

-- 6.2.5.3.2: C(r), from r = 0 on: of 190 shifts of 32 ones, the first, the fourth, and so on
unfoldable pub generated : ℕ → ℕ
generated r = iterate (3 * r + 1) shifted 0xffffffff

abbrev pub cipher_constants : List ℕ
cipher_constants = tab 64 generated

-- ---- the block cipher

-- 6.2.5.1: E_K, 64 rounds on a state of 256 bits under a key of 128, or its inverse under that key
unfoldable pub cipher : Direction → List Bool → List Bool → List Bool
cipher w key s = bits_of_words 64 (rounds mixing w (round_keys cipher_constants (four_words 32 key)) (four_words 64 s))

-- ---- the chain

-- 6.2.4: H(0)
unfoldable pub lesamnta_start : List Bool
lesamnta_start = bits_of_words 32 (replicate 8 0x256)

-- 6.2.4: h(H, M) = E_{H_0}(M || H_1), where H_0 and H_1 are the halves of H
unfoldable pub lesamnta_step : List Bool → List Bool → List Bool
lesamnta_step s b = cipher Forward (take 128 s) (b ++ drop 128 s)

-- 6.2.2: what is added to a message of n bits: a 1 bit, k + 63 zeros, k the fewest that fill a block of 128, and n in
-- 64 bits
unfoldable pub lesamnta_padding : ℕ → List Bool
lesamnta_padding n = true ∷ replicate ((128 - n % 128) % 128 + 63) false ++ bits_of high_first 64 n
