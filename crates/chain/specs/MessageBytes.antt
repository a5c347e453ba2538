-- For the code: a message as it holds one, whole bytes and a last byte after them with the rest of the bits and the padding's 1 bit.
-- Assumes nothing.
use Rattle.std.specs.Prelude.{Bool, List, [], ◌∷◌, ◌++◌, ℕ, ◌≤◌}
use Rattle.standard.specs.Bits.{high_first, unpack}
use Rattle.standard.specs.Messages.{Given, bytes, partial}
use Rattle.answers.specs.Outputs.{max_bits}
use Rattle.chain.specs.Padding.{Padded}
use Rattle.chain.specs.declared.message.Ending.{Ending}
use Rattle.chain.specs.declared.message.Ending.TheVariants.{Whole, Bits}

-- bytes and what counts of the last one are what a caller gives
abbrev pub given : List ℕ → Ending → Given
given m Whole = bytes m
given m (Bits k) = partial m k

-- how many bits of the last byte count
abbrev pub count_of : Ending → ℕ
count_of Whole = 8
count_of (Bits k) = k

-- the message: the first n bits of whole bytes and a last one after them
abbrev pub message_in : List ℕ → ℕ → ℕ → List Bool
message_in front last n = unpack high_first n (front ++ last ∷ [])

-- they are a message within the limit, and the 1 bit and zeros follow them
pub record HoldsMessage (front : List ℕ) (last n : ℕ) : Type 0 where
  pub short : n ≤ max_bits
  pub marked : Padded (message_in front last n) (front ++ last ∷ [])
