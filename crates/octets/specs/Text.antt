-- Text as bytes: quoted text, numbers in decimal, bytes in hexadecimal, and lines of a name and a number.
-- Assumes nothing.
use Rattle.std.specs.Prelude.{cond, ℕ, zero, suc, ◌+◌, ◌-◌, ◌*◌, ◌/◌, ◌%◌, ltb}
use mathlib.Core.List.{List, [], ◌∷◌, ◌++◌, foldl}
use Prim.Native.Char.{code}
use Prim.Native.String.{String, [] as end, ◌∷◌ as ◌then◌}

-- ---- quoted text

-- the codes of a text's characters in turn: below 128 they are the bytes of ASCII. The code says the same bytes as a
-- byte string, b"listed" for ascii "listed"
abbrev pub ascii : String → List ℕ
ascii end = []
ascii (c then s) = code c ∷ ascii s

-- ---- decimal

-- the ASCII code of a digit
abbrev pub digit_code : ℕ → ℕ
digit_code d = 48 + d

-- a number below w in decimal: its last digit after those of the rest, and one digit if there is no rest
unfoldable pub decimal_below : ℕ → ℕ → List ℕ
decimal_below zero n = []
decimal_below (suc w) n = cond (ltb n 10) (digit_code n ∷ []) (decimal_below w (n / 10) ++ digit_code (n % 10) ∷ [])

-- a number in decimal, with no zero in front
unfoldable pub decimal : ℕ → List ℕ
decimal n = decimal_below (suc n) n

-- the number that decimal digits stand for
unfoldable pub from_decimal : List ℕ → ℕ
from_decimal text = foldl (λ n code. n * 10 + (code - 48)) 0 text

-- ---- hexadecimal

-- the ASCII code of a digit below 16: 0 to 9, then a to f
abbrev pub hex_digit : ℕ → ℕ
hex_digit d = cond (ltb d 10) (48 + d) (87 + d)

-- bytes in lower-case hexadecimal: two digits for each byte, that of its upper nibble first
unfoldable pub hex_of : List ℕ → List ℕ
hex_of [] = []
hex_of (b ∷ bytes) = hex_digit (b / 16) ∷ hex_digit (b % 16) ∷ hex_of bytes

-- ---- lines

-- a name, a space, a number and a line end
unfoldable pub line_of : List ℕ → ℕ → List ℕ
line_of name n = name ++ ascii " " ++ decimal n ++ ascii "\n"
