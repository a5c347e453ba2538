-- `chain::state::words_of` meets its contract: the family of the number does the work. Assumes nothing.
use mathlib.Core.Path.{◌∙◌}
use Rattle.chain.proofs.FamilyLaws.{numbers_of, photon-holds, spongent-holds, lesamnta-holds}
use Rattle.chain.proofs.state.words_of.Goals as goal

pub words_of-requires : goal.words_of-requires
words_of-requires c =
    let n = numbers_of c.args.v c.requires c.family_of.ensures c.in-Photon.is in
    n

pub words_of-requires-in-Spongent : goal.words_of-requires-in-Spongent
words_of-requires-in-Spongent c =
    let n = numbers_of c.args.v c.requires c.family_of.ensures c.in-Spongent.is in
    n

pub returns-in-Photon : goal.returns-in-Photon
returns-in-Photon c =
    let n = numbers_of c.args.v c.requires c.family_of.ensures c.in-Photon.is in
    photon-holds c.args.v n.0 n.1 _ ∙ c.words_of.ensures

pub returns-in-Spongent : goal.returns-in-Spongent
returns-in-Spongent c =
    let n = numbers_of c.args.v c.requires c.family_of.ensures c.in-Spongent.is in
    spongent-holds c.args.v n.0 n.1 _ ∙ c.words_of-in-Spongent.ensures

pub returns-in-Lesamnta : goal.returns-in-Lesamnta
returns-in-Lesamnta c =
    let e = numbers_of c.args.v c.requires c.family_of.ensures c.in-Lesamnta.is in
    rw e (lesamnta-holds _ ∙ c.words_of-in-Lesamnta.ensures)
