-- What a user relies on of a number as text.
-- Assumes nothing.
use Rattle.std.specs.Prelude.{◌≡◌, ℕ}
use Rattle.octets.specs.Text.{decimal, from_decimal}

-- A number in decimal reads back as itself.
abbrev pub DecimalRead : Type 0
DecimalRead = (n : ℕ) → from_decimal (decimal n) ≡ n
