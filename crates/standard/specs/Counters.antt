-- SPONGENT's counter and its reversal, each stepped from its own bits, one round on or one round back (document 02,
-- Q-4). No digest rests on it.
-- Assumes nothing.
use Rattle.std.specs.Bool.{xor}
use Rattle.std.specs.Prelude.{List, map, ℕ, ◌+◌, ◌-◌, ◌*◌, ◌/◌, ◌%◌, ◌^◌, get_or}
use Rattle.standard.specs.Bits.{high_first, bit, digit, low_value, bits_of}
use Rattle.standard.specs.Rounds.{in_turn}
use Rattle.standard.specs.declared.Direction.{Direction}
use Rattle.standard.specs.declared.Direction.TheVariants.{Forward, Backward}
use Rattle.standard.specs.Spongent.{tapped, next_counter, SpongentParameters, l_counters}

-- the counter of the round k, from 0 on, of the permutation or of its inverse
abbrev pub counter_in : SpongentParameters → Direction → ℕ → ℕ
counter_in p way k = get_or (in_turn way (l_counters p)) k 0

-- the number whose t bits are those of c in reverse
unfoldable pub reversal : ℕ → ℕ → ℕ
reversal t c = low_value (bits_of high_first t c)

-- The step of a counter of w bits taken back, where its top bit is a tap: it shifts right by one, and its top bit is
-- the one that makes the taps give the bit that falls out.
unfoldable pub previous_counter : ℕ → List ℕ → ℕ → ℕ
previous_counter w taps c = digit (xor (bit (c % 2)) (tapped taps (c / 2))) * 2 ^ (w - 1) + c / 2

-- where the taps of a counter stand in its reversal to t bits
abbrev pub mirrored : ℕ → List ℕ → List ℕ
mirrored t taps = map (λ k. t - 1 - k) taps

-- Of a counter of w bits, the reversal to t bits takes the places t - w to t - 1. It steps from these bits alone: they
-- shift right by one, the bit at place t - w falls out, and the new top bit is the xor of the mirrored taps.
unfoldable pub next_reversed : ℕ → ℕ → List ℕ → ℕ → ℕ
next_reversed t w taps d = digit (tapped (mirrored t taps) d) * 2 ^ (t - 1) + d / 2 ^ (t - w + 1) * 2 ^ (t - w)

-- That step taken back, where nothing stands below place t - w and the lowest of the mirrored taps is that place: the
-- bits shift left by one, the top bit falls out, and the bit at place t - w is the one that makes the taps give it.
unfoldable pub previous_reversed : ℕ → ℕ → List ℕ → ℕ → ℕ
previous_reversed t w taps d =
    d % 2 ^ (t - 1) * 2
    + digit (xor (bit (d / 2 ^ (t - 1) % 2)) (tapped (mirrored t taps) (d % 2 ^ (t - 1) * 2))) * 2 ^ (t - w)

-- from one round to the next, of the permutation or of its inverse
unfoldable pub stepped_counter : Direction → ℕ → List ℕ → ℕ → ℕ
stepped_counter Forward w taps c = next_counter w taps c
stepped_counter Backward w taps c = previous_counter w taps c

unfoldable pub stepped_reversed : Direction → ℕ → ℕ → List ℕ → ℕ → ℕ
stepped_reversed Forward t w taps d = next_reversed t w taps d
stepped_reversed Backward t w taps d = previous_reversed t w taps d
