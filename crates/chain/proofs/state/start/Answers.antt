-- `chain::state::start` meets its contract: the family of the number does the work, or the bytes are computed. Assumes nothing.
use mathlib.Core.Path.{◌≡◌, refl, sym, ap}
use mathlib.Core.List.{List, [], ◌∷◌, flat_map}
use Prim.Native.Nat.{ℕ}
use lib.ListN.{replicate}
use Rattle.standard.specs.Bits.{low_bits, low_value, ordered, bits_of, value_of, filled, pack}
use Rattle.standard.specs.Lesamnta.{bits_of_words, lesamnta_start}
use Rattle.standard.specs.Chain.{start_state}
use Rattle.standard.specs.Variants.{variant}
use Rattle.standard.proofs.Tests.{six-to-ten}
use Rattle.standard.specs.Layout.{state_room, packed_state}
use Rattle.chain.proofs.FamilyLaws.{numbers_of}
use Rattle.chain.proofs.state.start.Goals as goal

abbrev chain : List ℕ
chain =
    0 ∷ 0 ∷ 2 ∷ 0x56 ∷ 0 ∷ 0 ∷ 2 ∷ 0x56 ∷ 0 ∷ 0 ∷ 2 ∷ 0x56 ∷ 0 ∷ 0 ∷ 2 ∷ 0x56 ∷ 0 ∷ 0 ∷ 2 ∷ 0x56 ∷ 0 ∷ 0 ∷ 2 ∷ 0x56 ∷ 0 ∷ 0 ∷ 2 ∷ 0x56 ∷ 0 ∷ 0 ∷ 2 ∷ 0x56
    ∷ 0 ∷ 0 ∷ 0 ∷ 0 ∷ []

-- Lesamnta-LW's, computed
chain-start : (v : ℕ) → v ≡ 11 → chain ≡ packed_state (variant v) (start_state (variant v))
unfolding variant start_state lesamnta_start bits_of_words flat_map low_bits low_value ordered bits_of value_of filled pack
chain-start v e = sym (ap (λ (n : ℕ). packed_state (variant n) (start_state (variant n))) e)

pub photon_start-requires : goal.photon_start-requires
photon_start-requires c = numbers_of c.args.v c.requires c.family_of.ensures c.in-Photon.is

pub returns-in-Spongent : goal.returns-in-Spongent
unfolding variant start_state low_bits low_value ordered bits_of value_of filled pack
returns-in-Spongent c =
    let n = numbers_of c.args.v c.requires c.family_of.ensures c.in-Spongent.is in
    six-to-ten (λ k. replicate state_room 0 ≡ packed_state (variant k) (start_state (variant k))) refl refl refl refl refl c.args.v n.0 n.1

pub returns-in-Lesamnta : goal.returns-in-Lesamnta
returns-in-Lesamnta c = chain-start c.args.v (numbers_of c.args.v c.requires c.family_of.ensures c.in-Lesamnta.is)
