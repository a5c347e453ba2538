-- `chain::message::counted` meets its contract, for each family. Assumes nothing.
use mathlib.Core.Path.{◌≡◌, sym, ap, ◌∙◌, subst}
use mathlib.Core.Logic.{⊎_elim}
use Prim.Native.Nat.{ℕ, ◌%◌, ◌^◌, ◌<◌, ◌≤◌}
use native.Mathlib.Omega.{arith}
use Rattle.standard.specs.Messages.{counted_of}
use Rattle.standard.specs.Variants.{variant}
use Rattle.standard.proofs.PartBytes.{counted-lt}
use Rattle.chain.proofs.FamilyLaws.{numbers_of}
use Rattle.chain.proofs.MessageLaws.{photon-counts, spongent-counts, lesamnta-counts}
use Rattle.octets.proofs.Shifts.{power, power_pos}
use Rattle.chain.proofs.message.counted.Goals as goal

-- the number that is given, and its bound
told : (v b k : ℕ) → k ≤ 8 → b < 256 → (n : ℕ) → n ≡ counted_of (variant v).family k b
    → (n ≡ counted_of (variant v).family k b) × (n < 2 ^ k)
told v b k k≤ b< n e = (e, subst (λ (m : ℕ). m < 2 ^ k) (sym e) (counted-lt (variant v).family k b k≤ b<))

pub nonzero_rem-result : goal.nonzero_rem-result
nonzero_rem-result c = power_pos c.args.k c.requires.1

pub returns-in-Photon : goal.returns-in-Photon
returns-in-Photon c =
    let a = c.args in
    rw c.from-x.ensures
    (told a.v a.b a.k c.requires.1 (omega arith) _
    (⊎_elim (λ is. let n = numbers_of a.v c.requires.0 c.family_of.ensures is in sym (photon-counts a.v n.0 n.1 a.k a.b))
    (λ is. sym (lesamnta-counts a.v (numbers_of a.v c.requires.0 c.family_of.ensures is) a.k a.b)) c.in-Photon.is))

pub returns-in-Spongent : goal.returns-in-Spongent
returns-in-Spongent c =
    let a = c.args in
    let n = numbers_of a.v c.requires.0 c.family_of.ensures c.in-Spongent.is in
    rw c.from-x.ensures
    (told a.v a.b a.k c.requires.1 (omega arith) _ (ap (λ (n : ℕ). a.b % n) (power a.k c.requires.1) ∙ sym (spongent-counts a.v n.0 n.1 a.k a.b)))
