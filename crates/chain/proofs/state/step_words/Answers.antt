-- `chain::state::step_words` meets its contract: the family of the number does the work. Assumes nothing.
use mathlib.Core.Path.{◌≡◌, sym, ap, ◌∙◌}
use mathlib.Core.Bool.{Bool}
use mathlib.Core.List.{List}
use Rattle.standard.specs.Chain.{step}
use Rattle.standard.specs.Families.{Variant}
use Rattle.chain.proofs.FamilyLaws.{numbers_of, photon-holds, spongent-holds, lesamnta-holds}
use Rattle.chain.proofs.state.step_words.Goals as goal

-- the step of one form of a state is that of the other
same_step : (H : Variant) (S T S' T' b : List Bool) → S ≡ T → S' ≡ T' → T' ≡ step H T b → S' ≡ step H S b
same_step H S T S' T' b e e' h = e' ∙ h ∙ ap (λ (X : List Bool). step H X b) (sym e)

pub step-requires : goal.step-requires
step-requires c =
    let n = numbers_of c.args.v c.requires.v_value.0 c.family_of.ensures c.in-Photon.is in
    record { le_v = (n.0, n.1, c.requires.v_value.1, c.requires.v_value.2); table_for = c.requires.table_of.photon n.1 }

pub step-requires-in-Spongent : goal.step-requires-in-Spongent
step-requires-in-Spongent c =
    let n = numbers_of c.args.v c.requires.v_value.0 c.family_of.ensures c.in-Spongent.is in
    record { le_v = (n.0, n.1, c.requires.v_value.1, c.requires.v_value.2); word_table = c.requires.table_of.spread n.0 n.1 }

pub step-requires-in-Lesamnta : goal.step-requires-in-Lesamnta
step-requires-in-Lesamnta c =
    let e = numbers_of c.args.v c.requires.v_value.0 c.family_of.ensures c.in-Lesamnta.is in
    record { variant_bound = (rw e at c.requires.v_value.1, rw e at c.requires.v_value.2); cipher_table = c.requires.table_of.boxes e }

pub returns-in-Photon : goal.returns-in-Photon
returns-in-Photon c =
    let n = numbers_of c.args.v c.requires.v_value.0 c.family_of.ensures c.in-Photon.is in
    same_step _ _ _ _ _ _ (photon-holds c.args.v n.0 n.1 _) (photon-holds c.args.v n.0 n.1 _) c.step.ensures

pub returns-in-Spongent : goal.returns-in-Spongent
returns-in-Spongent c =
    let n = numbers_of c.args.v c.requires.v_value.0 c.family_of.ensures c.in-Spongent.is in
    same_step _ _ _ _ _ _ (spongent-holds c.args.v n.0 n.1 _) (spongent-holds c.args.v n.0 n.1 _) c.step-in-Spongent.ensures

pub returns-in-Lesamnta : goal.returns-in-Lesamnta
returns-in-Lesamnta c =
    let e = numbers_of c.args.v c.requires.v_value.0 c.family_of.ensures c.in-Lesamnta.is in
    rw e (same_step _ _ _ _ _ _ (lesamnta-holds _) (lesamnta-holds _) c.step-in-Lesamnta.ensures)
