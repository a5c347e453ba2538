-- For the code: the columns of PHOTON's matrix in words, for any size, cell width and places of the rows in a word; and
-- what one cell gives to its column through the S-box and the column step.
-- Assumes nothing.
use Rattle.std.specs.Prelude.{cond, List, [], ◌∷◌, ℕ, zero, suc, ◌+◌, ◌*◌, ◌/◌, ◌%◌, ◌^◌, eqb, ltb, get_or}
use Rattle.std.specs.Int.Bits.{bit_xor}
use Rattle.standard.specs.Rounds.{iterate}
use Rattle.standard.specs.Grid.{Grid, tab, at, grid}
use Rattle.standard.specs.Photon.{PhotonParameters, in_first, serial, round_constants}

-- ---- a column in a word

-- a column of n cells as one number, row i from the bit `place i` on
abbrev pub number : (ℕ → ℕ) → ℕ → List ℕ → ℕ
number place zero c = 0
number place (suc n) c = get_or c n 0 * 2 ^ place n + number place n c

-- row i of a word: s bits
abbrev pub cell_of : (ℕ → ℕ) → ℕ → ℕ → ℕ → ℕ
cell_of place s i w = w / 2 ^ place i % 2 ^ s

-- the matrix whose columns the words hold; other bits of a word mean nothing
abbrev pub matrix_of_words : (ℕ → ℕ) → PhotonParameters → List ℕ → Grid
matrix_of_words place p words = grid p.d (λ i j. cell_of place p.s i (get_or words j 0))

-- a matrix with the column in a word added to its first
abbrev pub with_column : (ℕ → ℕ) → PhotonParameters → ℕ → Grid → Grid
with_column place p c g = grid p.d (λ i j. bit_xor (in_first j (cell_of place p.s i c) 0) (at g i j))

-- ---- what goes into a table

-- 5.2.4.5: the column step, d multiplications of a column
unfoldable pub mixed : PhotonParameters → List ℕ → List ℕ
mixed p c = iterate p.d (serial (2 ^ p.s) p.poly p.z) c

-- a column that has y in row i and no other cell
abbrev pub only : ℕ → ℕ → ℕ → List ℕ
only d i y = tab d (λ j. cond (eqb j i) y 0)

-- what the value x in row i gives to its column
unfoldable pub share : (ℕ → ℕ) → PhotonParameters → ℕ → ℕ → ℕ
share place p i x = number place p.d (mixed p (only p.d i (get_or p.box x 0)))

-- 5.2.4.2: the constants of round r, counted from 0, as a column; zero after the last round
unfoldable pub constant_column : (ℕ → ℕ) → PhotonParameters → ℕ → ℕ
constant_column place p r =
    cond (ltb r 12) (number place p.d (tab p.d (λ i. bit_xor (get_or round_constants r 0) (get_or p.ic i 0)))) 0

-- f 0 ⊕ .. ⊕ f (n - 1)
abbrev pub sum_of : ℕ → (ℕ → ℕ) → ℕ
sum_of zero f = 0
sum_of (suc n) f = bit_xor (sum_of n f) (f n)

-- ---- the places that the code uses

-- where each byte of a column of n bytes lies in its word, and where the last ends. Of three bytes, or of three in each
-- half, the last is the highest, which is read off without a mask.
abbrev pub spots : ℕ → List ℕ
spots n = cond (eqb n 4) (0 ∷ 1 ∷ 2 ∷ 3 ∷ 4 ∷ []) (0 ∷ 1 ∷ 3 ∷ 4 ∷ 5 ∷ 7 ∷ 8 ∷ [])

-- the lowest bit of row i in a column of d cells of s bits, two cells of four bits to a byte, the first low
abbrev pub place_in : ℕ → ℕ → ℕ → ℕ
place_in d s i = 8 * get_or (spots ((d * s + 7) / 8)) (i * s / 8) 0 + i * s % 8

abbrev pub place_of : PhotonParameters → ℕ → ℕ
place_of p = place_in p.d p.s
