-- The two counters of each variant, 6 to 10: in each round of its permutation and of its inverse they are the first round's, stepped, each from its own bits; and a step the other
-- way leads back.
-- Assumes nothing.
use mathlib.Core.Path.{◌≡◌, ap, ◌∙◌}
use Prim.Native.Nat.{ℕ, ◌-◌, ◌%◌, ◌^◌, ◌≤◌, ◌<◌}
use native.Mathlib.Omega.{arith}
use Rattle.standard.specs.Rounds.{opposite, iterate}
use Rattle.standard.specs.declared.Direction.{Direction}
use Rattle.standard.specs.declared.Direction.TheVariants.{Forward}
use Rattle.standard.specs.Spongent.{SpongentParameters}
use Rattle.standard.specs.Counters.{reversal, stepped_counter, stepped_reversed, counter_in}
use Rattle.standard.proofs.CounterSteps.{stepped-undo, reversed-undo}
use Rattle.standard.proofs.CounterRounds.{SoundCounter, first-counter, counter-stepped, reversed-stepped}
use Rattle.spongent.specs.Parameters.{spongent_of}
use Rattle.spongent.proofs.ParametersOf.{sound-of}

module _ (v : ℕ) (least : 6 ≤ v) (most : v ≤ 10) where
  abbrev p : SpongentParameters
  p = spongent_of v

  sound : SoundCounter p
  sound = sound-of v least most

  pub counter-of-round : (way : Direction) (k : ℕ) → k < p.R → counter_in p way k ≡ iterate k (stepped_counter way p.width p.taps) (counter_in p way 0)
  counter-of-round = counter-stepped p sound

  pub reversed-of-round : (way : Direction) (k : ℕ) → k < p.R
      → reversal p.t (counter_in p way k) ≡ iterate k (stepped_reversed way p.t p.width p.taps) (reversal p.t (counter_in p way 0))
  reversed-of-round = reversed-stepped p sound

  -- forward, the first round has the reversal of Table 9's first value
  pub reversed-from-first : (k : ℕ) → k < p.R → reversal p.t (counter_in p Forward k) ≡ iterate k (stepped_reversed Forward p.t p.width p.taps) (reversal p.t p.first)
  reversed-from-first k h =
      reversed-of-round Forward k h
      ∙ ap (λ (c : ℕ). iterate k (stepped_reversed Forward p.t p.width p.taps) (reversal p.t c)) (first-counter p (omega arith))

  pub counter-back : (way : Direction) (c : ℕ) → c < 2 ^ p.width → stepped_counter (opposite way) p.width p.taps (stepped_counter way p.width p.taps c) ≡ c
  counter-back = stepped-undo p.width p.taps sound.taps

  pub reversed-back : (way : Direction) (d : ℕ) → d < 2 ^ p.t → d % 2 ^ (p.t - p.width) ≡ 0
      → stepped_reversed (opposite way) p.t p.width p.taps (stepped_reversed way p.t p.width p.taps d) ≡ d
  reversed-back = reversed-undo p.width p.taps sound.taps p.t sound.fits
