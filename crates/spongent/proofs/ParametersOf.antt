-- The variants 6 to 10 are SPONGENT's, with the parameters of `spongent_of`; their sizes, and what the code's tables say of them.
-- Assumes nothing.
use mathlib.Core.Path.{◌≡◌, refl}
use mathlib.Core.Bool.{xor}
use mathlib.Core.List.{List, [], ◌∷◌}
use Prim.Native.Nat.{ℕ, ◌-◌, ◌%◌, ◌≤◌, ◌<◌}
use native.Mathlib.Omega.{arith}
use lib.ListN.{get_or}
use Rattle.standard.specs.declared.Direction.TheVariants.{Forward, Backward}
use Rattle.standard.specs.Spongent.{SpongentParameters, tapped, next_counter, counters, l_counters}
use Rattle.standard.specs.Counters.{counter_in}
use Rattle.standard.specs.Families.{spongent, sponge}
use Rattle.standard.specs.ForCode.{output_bits}
use Rattle.standard.specs.Variants.{variant}
use Rattle.standard.proofs.Tests.{six-to-ten}
use Rattle.standard.proofs.CounterRounds.{SoundCounter, sound88, sound136, sound176, sound240, sound272}
use Rattle.spongent.specs.Parameters.{spongent_of, taps_of}

pub family-of : (v : ℕ) → 6 ≤ v → v ≤ 10 → (variant v).family ≡ sponge (spongent (spongent_of v)) (output_bits (variant v))
unfolding variant spongent_of
family-of = six-to-ten (λ v. (variant v).family ≡ sponge (spongent (spongent_of v)) (output_bits (variant v))) refl refl refl refl refl

pub bits-of : (v : ℕ) → 6 ≤ v → v ≤ 10 → (variant v).t ≡ (spongent_of v).t
unfolding variant spongent_of
bits-of = six-to-ten (λ v. (variant v).t ≡ (spongent_of v).t) refl refl refl refl refl

-- what the code and the laws ask of the numbers of Table 9
pub record Sizes (p : SpongentParameters) : Type 0 where
  pub least : 8 ≤ p.t
  pub most : p.t ≤ 288
  pub whole : p.t % 8 ≡ 0
  pub narrow : 6 ≤ p.width
  pub wide : p.width ≤ 8
  pub some : 0 < p.R
  pub rounds : p.R ≤ 140

-- whole bytes are whole nibbles
pub quarters : {p : SpongentParameters} → Sizes p → p.t % 4 ≡ 0
quarters {p} z = let h : p.t % 8 ≡ 0 = z.whole in omega arith

pub sizes-of : (v : ℕ) → 6 ≤ v → v ≤ 10 → Sizes (spongent_of v)
unfolding variant spongent_of
sizes-of = six-to-ten (λ v. Sizes (spongent_of v)) (omega arith) (omega arith) (omega arith) (omega arith) (omega arith)

pub sound-of : (v : ℕ) → 6 ≤ v → v ≤ 10 → SoundCounter (spongent_of v)
unfolding variant spongent_of
sound-of = six-to-ten (λ v. SoundCounter (spongent_of v)) sound88 sound136 sound176 sound240 sound272

-- the code's tables
abbrev pub state_bits : List ℕ
state_bits = 88 ∷ 136 ∷ 176 ∷ 240 ∷ 272 ∷ []

abbrev pub round_counts : List ℕ
round_counts = 45 ∷ 70 ∷ 90 ∷ 120 ∷ 140 ∷ []

abbrev pub widths : List ℕ
widths = 6 ∷ 7 ∷ 7 ∷ 7 ∷ 8 ∷ []

abbrev pub firsts : List ℕ
firsts = 0x05 ∷ 0x7a ∷ 0x45 ∷ 0x01 ∷ 0x9e ∷ []

abbrev pub lasts : List ℕ
lasts = 0x1f ∷ 0x3f ∷ 0x3f ∷ 0x3f ∷ 0x7f ∷ []

-- they hold p at index i
pub record Tabled (p : SpongentParameters) (i : ℕ) : Type 0 where
  pub bits : get_or state_bits i 0 ≡ p.t
  pub count : get_or round_counts i 0 ≡ p.R
  pub width : get_or widths i 0 ≡ p.width
  pub taps : taps_of p.width ≡ p.taps
  pub first : get_or firsts i 0 ≡ counter_in p Forward 0
  pub last : get_or lasts i 0 ≡ counter_in p Backward 0

-- computed: the last counter by as many steps as there are rounds
pub tabled : (v : ℕ) → 6 ≤ v → v ≤ 10 → Tabled (spongent_of v) (v - 6)
unfolding variant spongent_of taps_of l_counters counters next_counter tapped xor
tabled =
    six-to-ten (λ v. Tabled (spongent_of v) (v - 6))
    (record { bits = refl; count = refl; width = refl; taps = refl; first = refl; last = refl })
    (record { bits = refl; count = refl; width = refl; taps = refl; first = refl; last = refl })
    (record { bits = refl; count = refl; width = refl; taps = refl; first = refl; last = refl })
    (record { bits = refl; count = refl; width = refl; taps = refl; first = refl; last = refl })
    (record { bits = refl; count = refl; width = refl; taps = refl; first = refl; last = refl })
