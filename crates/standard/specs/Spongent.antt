-- The internal permutation of SPONGENT (5.3.4), for any state of t bits. Bit 0, the standard's rightmost, comes first.
-- Assumes nothing.
use Rattle.std.specs.Prelude.{Bool, false, cond, ℕ, zero, suc, ◌+◌, ◌-◌, ◌*◌, ◌/◌, ◌%◌, ◌^◌, length, get_or, set, replicate, eqb}
use Rattle.std.specs.Bool.{xor}
use mathlib.Core.List.{List, [], ◌∷◌, flat_map}
use Rattle.standard.specs.Bits.{low_first, high_first, bit, digit, low_bits, low_value, bits_of, cut, xor_into}
use Rattle.standard.specs.Rounds.{rounds}
use Rattle.standard.specs.declared.Direction.{Direction}
use Rattle.standard.specs.declared.Direction.TheVariants.{Forward, Backward}
use Rattle.standard.specs.Backward.{unnibbles}

-- ---- 5.3.4.2 l_counter

-- the xor of the bits of c that the taps number
unfoldable pub tapped : List ℕ → ℕ → Bool
tapped [] c = false
tapped (k ∷ ks) c = xor (bit (c / 2 ^ k % 2)) (tapped ks c)

-- a counter of w bits shifts left by one, and its new low bit is the xor of the taps. Table 9 has only the polynomial;
-- document 01 states the direction, and B.2 agrees.
unfoldable pub next_counter : ℕ → List ℕ → ℕ → ℕ
next_counter w taps c = (c * 2 + digit (tapped taps c)) % 2 ^ w

-- n counters from c on
unfoldable pub counters : ℕ → List ℕ → ℕ → ℕ → List ℕ
counters w taps c zero = []
counters w taps c (suc n) = c ∷ counters w taps (next_counter w taps c) n

-- ---- the three layers

-- 5.3.4.2 c_addition: the counter as t bits, and those in reverse (retnuo_cl). It is its own inverse.
unfoldable pub c_addition : ℕ → ℕ → List Bool → List Bool
c_addition t c s = xor_into (xor_into s (bits_of low_first t c)) (bits_of high_first t c)

-- Table 10
abbrev pub nibbles : List ℕ
nibbles = 0xe ∷ 0xd ∷ 0xb ∷ 0 ∷ 2 ∷ 1 ∷ 4 ∷ 0xf ∷ 7 ∷ 0xa ∷ 8 ∷ 5 ∷ 9 ∷ 0xc ∷ 3 ∷ 6 ∷ []

-- 5.3.4.3 s_box_layer: each nibble, its lowest bit first, through the table
unfoldable pub s_box_layer : List ℕ → List Bool → List Bool
s_box_layer box s = flat_map (λ n. low_bits 4 (get_or box (low_value n) 0)) (cut 4 (length s / 4) s)

-- 5.3.4.4, p(j), with m = t / 4: bit j goes to j * m mod (t - 1), and bit t - 1 stays. The inverse has m = 4.
unfoldable pub goes_to : ℕ → ℕ → ℕ → ℕ
goes_to t m j = cond (eqb j (t - 1)) j (j * m % (t - 1))

-- t zeros, with the first j bits of s put where f says
unfoldable pub placed : (ℕ → ℕ) → ℕ → List Bool → ℕ → List Bool
placed f t s zero = replicate t false
placed f t s (suc j) = set (placed f t s j) (f j) (get_or s j false)

-- 5.3.4.4 p_layer
unfoldable pub p_layer : ℕ → ℕ → List Bool → List Bool
p_layer t m s = placed (goes_to t m) t s t

-- ---- rounds

-- 5.3.4.1: one round with its counter, or that round taken back
unfoldable pub spongent_round : ℕ → Direction → List Bool → ℕ → List Bool
spongent_round t Forward s c = p_layer t (t / 4) (s_box_layer nibbles (c_addition t c s))
spongent_round t Backward s c = c_addition t c (s_box_layer unnibbles (p_layer t 4 s))

-- The parameters of a variant, Table 9: t bits of state, R rounds, the counter's width (log2 R, rounded up), its first
-- value and its taps: bit k - 1 for each term x^k of the polynomial but the last
pub record SpongentParameters : Type 0 where
  pub t : ℕ
  pub R : ℕ
  pub width : ℕ
  pub first : ℕ
  pub taps : List ℕ

-- l_counter(1), .., l_counter(R)
unfoldable pub l_counters : SpongentParameters → List ℕ
l_counters p = counters p.width p.taps p.first p.R

-- 5.3.4.1: π_t on the state of t bits
unfoldable pub spongent_permutation : SpongentParameters → Direction → List Bool → List Bool
spongent_permutation p w s = rounds (spongent_round p.t) w (l_counters p) s
