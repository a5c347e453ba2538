-- Answers: Done or refused, what a refusal keeps, and an answer's number tells the answer.
-- Assumes nothing.
use mathlib.Core.Path.{◌≡◌, refl, sym, ap, ◌∙◌, subst}
use mathlib.Core.List.{[], ◌∷◌}
use mathlib.Core.Logic.{◌⊎◌, inl, inr, ⊎_elim}
use Prim.Native.Nat.{ℕ, ◌<◌}
use native.Mathlib.Omega.{arith}
use Rattle.std.specs.Prelude.{IsErrAnd}
use Rattle.std.proofs.lemmas.Result.{err_from_is_err_and}
use lib.ListN.{get_or}
use Rattle.answers.specs.declared.Refusal.{Refusal}
use Rattle.answers.specs.declared.Refusal.TheVariants.{UnknownVariant, Malformed, WrongStage, TooLong, OutputTooShort, BadImage, OutOfRange, NoBlock, BadList, Misordered, PastEnd, BadManifest, BadRecord, NotRising, BadBitNumber, InsideByte, NotSponge}
use Rattle.answers.specs.Refusals.{Status, Done, Refused, number, entry}
use Rattle.answers.specs.Outputs.{when_done}
use Rattle.answers.specs.Promises.{AnswerTells, AnswerNumber, AnswerEntry}

-- ---- Done or refused

abbrev is_done : Status → Type 0
is_done Done = Unit {0}
is_done (Refused r) = ⊥

pub not_done : (r : Refusal) → Refused r ≡ Done → ⊥
not_done r e = subst is_done (sym e) tt

pub done-or : (s : Status) → (s ≡ Done) ⊎ (s ≡ Done → ⊥)
done-or Done = inl refl
done-or (Refused r) = inr (not_done r)

-- a refusal keeps the old value
pub kept : {A : Type 0} (s : Status) (new old : A) → (s ≡ Done → ⊥) → when_done s new old ≡ old
kept Done new old n = absurd (n refl)
kept (Refused r) new old n = refl

-- what `?` hands on is the refusal that was answered
pub handed-on : (r t : Status) (e : Refusal) → IsErrAnd r (λ y. y ≡ e) → t ≡ Refused e → r ≡ t
handed-on r t e h is = let p = err_from_is_err_and r h in rw (p.1, p.2, is)

-- two answers of which the second counts if the first is Done: both are Done if the whole is
pub both-done : (s r : Status) → when_done s r s ≡ Done → (s ≡ Done) × (r ≡ Done)
both-done s r e = ⊎_elim (λ d. (d, rw d at e)) (λ n. absurd (n (sym (kept s r s n) ∙ e))) (done-or s)

-- ---- the answer as a number

-- the refusal of a number that names the entry k
abbrev refusal_of : ℕ → ℕ → Refusal
refusal_of n k =
    get_or
    (UnknownVariant ∷ UnknownVariant ∷ Malformed ∷ WrongStage ∷ TooLong ∷ OutputTooShort ∷ BadImage ∷ OutOfRange ∷ NoBlock ∷ BadList ∷ Misordered k ∷ PastEnd k
    ∷ BadManifest ∷ BadRecord ∷ NotRising ∷ BadBitNumber ∷ InsideByte ∷ NotSponge ∷ [])
    n UnknownVariant

told : (r : Refusal) → (refusal_of (number r) (entry r) ≡ r) × ((0 < number r) × (number r < 256))
told UnknownVariant = (refl, omega arith)
told Malformed = (refl, omega arith)
told WrongStage = (refl, omega arith)
told TooLong = (refl, omega arith)
told OutputTooShort = (refl, omega arith)
told BadImage = (refl, omega arith)
told OutOfRange = (refl, omega arith)
told NoBlock = (refl, omega arith)
told BadList = (refl, omega arith)
told (Misordered k) = (refl, omega arith)
told (PastEnd k) = (refl, omega arith)
told BadManifest = (refl, omega arith)
told BadRecord = (refl, omega arith)
told NotRising = (refl, omega arith)
told BadBitNumber = (refl, omega arith)
told InsideByte = (refl, omega arith)
told NotSponge = (refl, omega arith)

pub answer-number : AnswerNumber
answer-number r = omega (arith, (told r).1)

pub answer-entry : AnswerEntry
answer-entry r = omega (arith, (told r).1)

pub answer-tells : AnswerTells
answer-tells Done Done e = refl
answer-tells Done (Refused r) e = absurd (omega (arith, (told r).1))
answer-tells (Refused r) Done e = absurd (omega (arith, (told r).1))
answer-tells (Refused r) (Refused q) e =
    let n : number r ≡ number q = omega (arith, answer-number r, answer-number q) in
    let k : entry r ≡ entry q = omega (arith, answer-entry r, answer-entry q) in
    ap Refused (sym (told r).0 ∙ rw (n, k) (told q).0)
