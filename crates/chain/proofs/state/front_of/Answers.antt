-- `chain::state::front_of` meets its contract: the family of the number does the work. Assumes nothing.
use mathlib.Core.Path.{◌≡◌, sym, ap, ◌∙◌}
use mathlib.Core.Bool.{Bool}
use mathlib.Core.List.{List}
use native.Mathlib.Omega.{arith}
use lib.ListN.{take}
use Rattle.standard.specs.Bits.{high_first, bits_in}
use Rattle.standard.specs.ForCode.{output_bits}
use Rattle.standard.specs.Families.{Variant}
use Rattle.standard.specs.Variants.{variant}
use Rattle.standard.specs.Layout.{packed_state}
use Rattle.standard.proofs.Variants.{sponge-high}
use Rattle.chain.proofs.FamilyLaws.{numbers_of, photon-holds, spongent-holds}
use Rattle.chain.proofs.state.front_of.Goals as goal

-- what is given out of one form of a state is given out of the other
same-front : (H : Variant) (S T : List Bool) → S ≡ T → take (output_bits H) (bits_in high_first (packed_state H T)) ≡ take (output_bits H) (bits_in high_first (packed_state H S))
same-front H S T e = ap (λ (X : List Bool). take (output_bits H) (bits_in high_first (packed_state H X))) (sym e)

pub front-requires : goal.front-requires
front-requires c =
    let n = numbers_of c.args.v c.requires.0 c.family_of.ensures c.in-Photon.is in
    n

pub front-requires-in-Spongent : goal.front-requires-in-Spongent
front-requires-in-Spongent c =
    let n = numbers_of c.args.v c.requires.0 c.family_of.ensures c.in-Spongent.is in
    n

pub returns-in-Photon : goal.returns-in-Photon
returns-in-Photon c =
    let n = numbers_of c.args.v c.requires.0 c.family_of.ensures c.in-Photon.is in
    c.front.ensures ∙ same-front (variant c.args.v) _ _ (photon-holds c.args.v n.0 n.1 c.args.w.now)

pub returns-in-Spongent : goal.returns-in-Spongent
returns-in-Spongent c =
    let n = numbers_of c.args.v c.requires.0 c.family_of.ensures c.in-Spongent.is in
    c.front-in-Spongent.ensures ∙ same-front (variant c.args.v) _ _ (spongent-holds c.args.v n.0 n.1 c.args.w.now)

-- Lesamnta-LW is no sponge
pub returns-in-Lesamnta : goal.returns-in-Lesamnta
returns-in-Lesamnta c =
    let e = numbers_of c.args.v c.requires.0 c.family_of.ensures c.in-Lesamnta.is in
    absurd (omega (arith, sponge-high c.args.v c.requires.1))
