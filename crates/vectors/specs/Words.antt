-- For the code: what the words of the input say. Assumes nothing.
use Rattle.std.specs.Prelude.{cond, List, ℕ, ◌+◌, ◌-◌, ◌*◌, ◌/◌, ltb, length, get_or, Option, Some, None, unwrap_or}
use Rattle.standard.specs.Grid.{tab}

-- what a hexadecimal digit says by its ASCII code
unfoldable pub digit_value : ℕ → Option ℕ
digit_value c = cond (ltb c 48) None (cond (ltb c 58) (Some (c - 48)) (cond (ltb c 97) None (cond (ltb c 103) (Some (c - 87)) None)))

-- the byte of two digits
unfoldable pub pair_value : ℕ → ℕ → ℕ
pair_value upper lower = unwrap_or (digit_value upper) 0 * 16 + unwrap_or (digit_value lower) 0

-- the bytes that a word says in hexadecimal
unfoldable pub said_bytes : List ℕ → List ℕ
said_bytes word = tab (length word / 2) (λ i. pair_value (get_or word (2 * i) 0) (get_or word (2 * i + 1) 0))
