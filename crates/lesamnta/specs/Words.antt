-- For the code: a state of Lesamnta-LW in words of 64 bits.
-- Assumes nothing.
use Rattle.std.specs.Prelude.{Bool, List, ℕ, get_or}
use Rattle.standard.specs.Grid.{tab}
use Rattle.standard.specs.Lesamnta.{bits_of_words}

-- the state that the first four words hold; others mean nothing
unfoldable pub state_of_four : List ℕ → List Bool
state_of_four words = bits_of_words 64 (tab 4 (λ i. get_or words i 0))
