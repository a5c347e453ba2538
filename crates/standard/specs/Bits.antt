-- Bit strings, and the numbers and bytes that they are packed in (clause 4; bytes by the note of 5.2.3 and by 5.3.2). A
-- bit string is a list of Bool, its first bit first.
-- Assumes nothing.
use Rattle.std.specs.Prelude.{Bool, true, false, ℕ, zero, suc, ◌+◌, ◌*◌, ◌/◌, ◌%◌, length, take, drop}
use Rattle.std.specs.Bool.{xor}
use mathlib.Core.List.{List, [], ◌∷◌, ◌++◌, reverse, flat_map}

-- which bit of a number or a byte comes first: the least or the most significant
pub data Order : Type 0 where
  low_first high_first : Order

-- a binary digit as a bit, and back
abbrev pub bit : ℕ → Bool
bit zero = false
bit (suc n) = true

abbrev pub digit : Bool → ℕ
digit false = 0
digit true = 1

-- the w lowest bits of n, the lowest first
unfoldable pub low_bits : ℕ → ℕ → List Bool
low_bits zero n = []
low_bits (suc w) n = bit (n % 2) ∷ low_bits w (n / 2)

-- the number whose bits these are, the lowest first
unfoldable pub low_value : List Bool → ℕ
low_value [] = 0
low_value (b ∷ bs) = low_value bs * 2 + digit b

unfoldable pub ordered : Order → List Bool → List Bool
ordered low_first bs = bs
ordered high_first bs = reverse bs

-- n as w bits, and the number that bits stand for
unfoldable pub bits_of : Order → ℕ → ℕ → List Bool
bits_of o w n = ordered o (low_bits w n)

unfoldable pub value_of : Order → List Bool → ℕ
value_of o bs = low_value (ordered o bs)

-- the bits of bytes, one byte after the other
unfoldable pub bits_in : Order → List ℕ → List Bool
bits_in o [] = []
bits_in o (b ∷ bs) = bits_of o 8 b ++ bits_in o bs

-- the first t bits of bytes
unfoldable pub unpack : Order → ℕ → List ℕ → List Bool
unpack o t bytes = take t (bits_in o bytes)

-- the first w of the bits, with zeros after them if there are fewer
unfoldable pub filled : ℕ → List Bool → List Bool
filled zero bs = []
filled (suc w) [] = false ∷ filled w []
filled (suc w) (b ∷ bs) = b ∷ filled w bs

-- n bytes of the bits, with zeros after them
unfoldable pub pack : Order → ℕ → List Bool → List ℕ
pack o zero bs = []
pack o (suc n) bs = value_of o (filled 8 bs) ∷ pack o n (drop 8 bs)

-- the bytes that n bits take
abbrev pub bytes_for : ℕ → ℕ
bytes_for n = (n + 7) / 8

-- the first n pieces of w bits each
unfoldable pub cut : ℕ → ℕ → List Bool → List (List Bool)
cut w zero bs = []
cut w (suc n) bs = take w bs ∷ cut w n (drop w bs)

-- how the bits of whole bytes, each byte's most significant bit first, stand in a state of either order, and back: as
-- they are, or each byte's bits turned round (5.2.3, note; 5.3.2)
unfoldable pub turned : Order → List Bool → List Bool
turned high_first bs = bs
turned low_first bs = flat_map reverse (cut 8 (bytes_for (length bs)) bs)

-- the bits b xored into the first bits of s; the others stay
unfoldable pub xor_into : List Bool → List Bool → List Bool
xor_into [] bs = []
xor_into (a ∷ s) [] = a ∷ s
xor_into (a ∷ s) (b ∷ bs) = xor a b ∷ xor_into s bs
