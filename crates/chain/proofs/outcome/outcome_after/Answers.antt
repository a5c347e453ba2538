-- `chain::outcome::outcome_after` meets its contract: the family of the number does the work. Assumes nothing.
use Prim.Native.Nat.{◌≤◌}
use native.Mathlib.Omega.{arith}
use Rattle.std.proofs.Common.{rules}
use Rattle.chain.proofs.FamilyLaws.{numbers_of}
use Rattle.chain.proofs.outcome.outcome_after.Goals as goal

pub with_table-requires-clause-may_fill : goal.with_table-requires-clause-may_fill
with_table-requires-clause-may_fill c t long =
    let n = numbers_of c.args.v c.requires.0 c.family_of.ensures c.in-Photon-2.is in
    let most : c.args.v ≤ 4 = omega (arith, n.1, c.if-v-eq5.false) in
    grind (arith, n.0, most, long)

pub with_table-requires-clause-fills : goal.with_table-requires-clause-fills
with_table-requires-clause-fills c t u filled =
    let n = numbers_of c.args.v c.requires.0 c.family_of.ensures c.in-Photon-2.is in
    record { photon = λ h. record { pairs = λ l. search rules; shares = λ e. absurd (c.if-v-eq5.false e) }; spread = λ h g. absurd (omega (arith, n.1)); boxes = λ e. absurd (omega (arith, n.1)) }

pub with_table-requires-in-Spongent-clause-fills : goal.with_table-requires-in-Spongent-clause-fills
with_table-requires-in-Spongent-clause-fills c t u filled =
    let n = numbers_of c.args.v c.requires.0 c.family_of.ensures c.in-Spongent.is in
    record { photon = λ h. absurd (omega (arith, n.0)); spread = λ h g. search rules; boxes = λ e. absurd (omega (arith, n.1)) }

pub with_table-requires-in-Lesamnta-clause-fills : goal.with_table-requires-in-Lesamnta-clause-fills
with_table-requires-in-Lesamnta-clause-fills c t u filled =
    let eleven = numbers_of c.args.v c.requires.0 c.family_of.ensures c.in-Lesamnta.is in
    record { photon = λ h. absurd (omega (arith, eleven)); spread = λ h g. absurd (omega (arith, eleven)); boxes = λ e. search rules }
