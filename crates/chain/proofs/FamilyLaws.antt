-- Which numbers a family has, and what it is to be of one.
-- Assumes nothing.
use mathlib.Core.Path.{◌≡◌, refl, sym, ap, ◌∙◌, subst}
use mathlib.Core.Bool.{Bool, true}
use mathlib.Core.List.{List}
use mathlib.Core.Logic.{⊎_elim}
use Prim.Native.Nat.{ℕ, ◌≤◌, ◌<◌}
use native.Mathlib.Omega.{arith}
use lib.ListN.{length, get_or}
use Rattle.standard.specs.declared.Direction.{Direction}
use Rattle.standard.specs.Grid.{tab}
use Rattle.standard.specs.Photon.{photon_permutation}
use Rattle.standard.specs.Families.{spongent}
use Rattle.standard.specs.Sponge.{permutation}
use Rattle.standard.specs.Variants.{variant, known}
use Rattle.standard.proofs.Tests.{lt-or-le}
use Rattle.standard.proofs.Variants.{known-low, known-high}
use Rattle.photon.specs.Parameters.{photon_of}
use Rattle.photon.specs.Words.{state_of_columns}
use Rattle.standard.proofs.LesamntaLaws as lesamnta
use Rattle.photon.proofs.ParametersOf.{photon-variant}
use Rattle.photon.proofs.WordSteps.{columns-length}
use Rattle.spongent.specs.Parameters.{spongent_of}
use Rattle.spongent.specs.Words.{state_of_bytes}
use Rattle.spongent.proofs.ParametersOf.{family-of}
use Rattle.spongent.proofs.WordStates.{state-length}
use Rattle.lesamnta.specs.Words.{state_of_four}
use Rattle.chain.specs.declared.sizes.Family.{Family}
use Rattle.chain.specs.declared.sizes.Family.TheVariants.{Photon, Spongent, Lesamnta}
use Rattle.chain.specs.Families.{family_of}
use Rattle.chain.specs.TakenBack.{permuted_state}
use Rattle.chain.specs.Words.{state_in_words}

-- the numbers of a family
abbrev pub Numbers : Family → ℕ → Type 0
Numbers Photon v = (1 ≤ v) × (v ≤ 5)
Numbers Spongent v = (6 ≤ v) × (v ≤ 10)
Numbers Lesamnta v = v ≡ 11

pub lesamnta-only : (v : ℕ) → v ≡ 11 → Lesamnta ≡ family_of (variant v).family
unfolding variant
lesamnta-only v e = rw e

-- as the table of variants has them
known-numbers : (v : ℕ) → known v ≡ true → Numbers (family_of (variant v).family) v
known-numbers v k = ⊎_elim photons (λ low. ⊎_elim (spongents low) last (lt-or-le v 11)) (lt-or-le v 6)
  where
    photons : v < 6 → Numbers (family_of (variant v).family) v
    photons l = let low : 1 ≤ v = known-low v k in rw (photon-variant v low (omega arith)) (low, omega arith)

    spongents : 6 ≤ v → v < 11 → Numbers (family_of (variant v).family) v
    spongents low l = rw (family-of v low (omega arith)) (low, omega arith)

    last : 11 ≤ v → Numbers (family_of (variant v).family) v
    last low =
        let eleven : v ≡ 11 = omega (arith, known-high v k) in
        subst (λ (f : Family). Numbers f v) (lesamnta-only v eleven) eleven

-- as the code tells them: f is the family of the number, and it is g
pub numbers_of : (v : ℕ) → known v ≡ true → {f g : Family} → f ≡ family_of (variant v).family → f ≡ g → Numbers g v
numbers_of v k e told = subst (λ (h : Family). Numbers h v) (sym e ∙ told) (known-numbers v k)

-- ---- what the families promise of their states is said of the variant

module _ (v : ℕ) (low : 1 ≤ v) (high : v ≤ 5) where
  pub photon-holds : (w : List ℕ) → state_in_words (variant v) w ≡ state_of_columns (photon_of v) w
  unfolding state_in_words
  photon-holds w = rw (photon-variant v low high)

  pub photon-permutes : (way : Direction) (s : List Bool) → permuted_state (variant v) way s ≡ photon_permutation (photon_of v) way s
  unfolding permuted_state permutation
  photon-permutes way s = rw (photon-variant v low high)

module _ (v : ℕ) (low : 6 ≤ v) (high : v ≤ 10) where
  pub spongent-holds : (w : List ℕ) → state_in_words (variant v) w ≡ state_of_bytes (spongent_of v) w
  unfolding state_in_words
  spongent-holds w = rw (family-of v low high)

  pub spongent-permutes : (way : Direction) (s : List Bool) → permuted_state (variant v) way s ≡ permutation (spongent (spongent_of v)) way s
  unfolding permuted_state
  spongent-permutes way s = rw (family-of v low high)

pub lesamnta-holds : (w : List ℕ) → state_in_words (variant 11) w ≡ state_of_four w
unfolding state_in_words variant
lesamnta-holds w = refl

lesamnta-length : (w : List ℕ) → length (state_of_four w) ≡ (variant 11).t
unfolding state_of_four variant
lesamnta-length w = lesamnta.bits-length 64 (tab 4 (λ i. get_or w i 0))

-- words hold as many bits as the state has
pub words-length : (v : ℕ) → known v ≡ true → (w : List ℕ) → length (state_in_words (variant v) w) ≡ (variant v).t
words-length v k w = by (family_of (variant v).family) (known-numbers v k)
  where
    by : (f : Family) → Numbers f v → length (state_in_words (variant v) w) ≡ (variant v).t
    by Photon n = ap length (photon-holds v n.0 n.1 w) ∙ columns-length v n.0 n.1 w
    by Spongent n = ap length (spongent-holds v n.0 n.1 w) ∙ state-length v n.0 n.1 w
    by Lesamnta e = rw e (ap length (lesamnta-holds w) ∙ lesamnta-length w)
