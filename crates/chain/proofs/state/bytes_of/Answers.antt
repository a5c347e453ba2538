-- `chain::state::bytes_of` meets its contract: the family of the number does the work. Assumes nothing.
use mathlib.Core.Path.{sym, ap, ◌∙◌}
use Rattle.standard.specs.Variants.{variant}
use Rattle.standard.specs.Layout.{packed_state}
use Rattle.chain.proofs.FamilyLaws.{numbers_of, photon-holds, spongent-holds, lesamnta-holds}
use Rattle.chain.proofs.state.bytes_of.Goals as goal

pub image-requires : goal.image-requires
image-requires c =
    let n = numbers_of c.args.v c.requires c.family_of.ensures c.in-Photon.is in
    n

pub image-requires-in-Spongent : goal.image-requires-in-Spongent
image-requires-in-Spongent c =
    let n = numbers_of c.args.v c.requires c.family_of.ensures c.in-Spongent.is in
    n

pub returns-in-Photon : goal.returns-in-Photon
returns-in-Photon c =
    let n = numbers_of c.args.v c.requires c.family_of.ensures c.in-Photon.is in
    c.image.ensures ∙ ap (packed_state (variant c.args.v)) (sym (photon-holds c.args.v n.0 n.1 _))

pub returns-in-Spongent : goal.returns-in-Spongent
returns-in-Spongent c =
    let n = numbers_of c.args.v c.requires c.family_of.ensures c.in-Spongent.is in
    c.image-in-Spongent.ensures ∙ ap (packed_state (variant c.args.v)) (sym (spongent-holds c.args.v n.0 n.1 _))

pub returns-in-Lesamnta : goal.returns-in-Lesamnta
returns-in-Lesamnta c =
    let e = numbers_of c.args.v c.requires c.family_of.ensures c.in-Lesamnta.is in
    rw e (c.image-in-Lesamnta.ensures ∙ ap (packed_state (variant 11)) (sym (lesamnta-holds _)))
