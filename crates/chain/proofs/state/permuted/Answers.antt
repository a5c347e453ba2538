-- `chain::state::permuted` meets its contract: the family of the number does the work. Assumes nothing.
use mathlib.Core.Path.{sym, ap, ◌∙◌}
use native.Mathlib.Omega.{arith}
use Rattle.standard.specs.Variants.{variant}
use Rattle.standard.specs.Layout.{packed_state}
use Rattle.standard.proofs.Variants.{sponge-high}
use Rattle.chain.proofs.FamilyLaws.{numbers_of, photon-permutes, spongent-permutes}
use Rattle.chain.proofs.state.permuted.Goals as goal

pub permuted-requires : goal.permuted-requires
permuted-requires c =
    let n = numbers_of c.args.v c.requires.v_value.0 c.family_of.ensures c.in-Photon.is in
    n

pub permuted-requires-in-Spongent : goal.permuted-requires-in-Spongent
permuted-requires-in-Spongent c =
    let n = numbers_of c.args.v c.requires.v_value.0 c.family_of.ensures c.in-Spongent.is in
    record { le_v = n; s_value = c.requires.holds }

pub returns-in-Photon : goal.returns-in-Photon
returns-in-Photon c =
    let n = numbers_of c.args.v c.requires.v_value.0 c.family_of.ensures c.in-Photon.is in
    c.permuted.ensures ∙ ap (packed_state (variant c.args.v)) (sym (photon-permutes c.args.v n.0 n.1 c.args.way _))

pub returns-in-Spongent : goal.returns-in-Spongent
returns-in-Spongent c =
    let n = numbers_of c.args.v c.requires.v_value.0 c.family_of.ensures c.in-Spongent.is in
    c.permuted-in-Spongent.ensures ∙ ap (packed_state (variant c.args.v)) (sym (spongent-permutes c.args.v n.0 n.1 c.args.way _))

-- Lesamnta-LW is no sponge
pub returns-in-Lesamnta : goal.returns-in-Lesamnta
returns-in-Lesamnta c =
    let e = numbers_of c.args.v c.requires.v_value.0 c.family_of.ensures c.in-Lesamnta.is in
    absurd (omega (arith, sponge-high c.args.v c.requires.v_value.1))
