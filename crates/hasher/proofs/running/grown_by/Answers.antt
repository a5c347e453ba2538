-- `hasher::running::grown_by` meets its contract: whole bytes, or what counts of the last one. Assumes nothing.
use mathlib.Core.Path.{◌≡◌, sym, ap, ◌∙◌, subst}
use mathlib.Core.List.{List}
use Prim.Native.Nat.{ℕ}
use native.Mathlib.Omega.{arith}
use Rattle.standard.specs.Bits.{high_first}
use Rattle.standard.specs.Messages.{given_bits}
use Rattle.standard.proofs.BitLaws.{length-bits_in}
use Rattle.answers.specs.Refusals.{Done}
use Rattle.answers.specs.Checks.{first_refusal}
use Rattle.chain.specs.declared.message.Ending.{Ending}
use Rattle.chain.specs.declared.message.Ending.TheVariants.{Whole}
use Rattle.chain.specs.MessageBytes.{given}
use Rattle.hasher.specs.declared.Hasher.{Hasher}
use Rattle.hasher.specs.Running.{variant_of, grown, update_checks}
use Rattle.hasher.proofs.Calls.{Takes, update-says}
use Rattle.hasher.proofs.PartPieces.{plain-clear, plain-front}
use Rattle.hasher.proofs.running.grown_by.Goals as goal

-- what is given passes the checks
takes : (h : Hasher) (piece : List ℕ) (ending e : Ending) → ending ≡ e → first_refusal (update_checks h (given piece ending)) ≡ Done → Takes h (given piece e)
takes h piece ending e q passed = update-says h (given piece e) (subst (λ (x : Ending). first_refusal (update_checks h (given piece x)) ≡ Done) q passed)

-- with what is given
abbrev next : Hasher → List ℕ → Ending → Hasher
next h piece e = grown h (given_bits (variant_of h) (given piece e))

pub grown-requires : goal.grown-requires
grown-requires c =
    let piece = c.args.piece.now in
    let t = (takes c.args.h c.args.piece.now _ Whole c.in-Whole.is c.requires).follow in
    record { fact = t.opened; h_value = (t.whole, omega arith, omega (arith, t.few, length-bits_in high_first piece)); last_value = plain-clear piece }

pub returns-in-Whole : goal.returns-in-Whole
returns-in-Whole c = c.grown.ensures ∙ ap (grown c.args.h) (plain-front c.args.piece.now) ∙ sym (ap (next c.args.h c.args.piece.now) c.in-Whole.is)
