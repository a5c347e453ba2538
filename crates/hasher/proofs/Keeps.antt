-- Every operation gives a well-formed running hash where it was given one, refused or not, and a refusal gives back the one that it was given.
-- Assumes nothing.
use mathlib.Core.Path.{◌≡◌, sym, ap, ◌∙◌, subst}
use mathlib.Core.Bool.{Bool, true, false}
use mathlib.Core.List.{List}
use mathlib.Core.Logic.{⊎_elim}
use Prim.Native.Nat.{ℕ, ◌+◌, ◌≤◌}
use lib.ListN.{length}
use Rattle.standard.specs.Messages.{Given, given_bits}
use Rattle.answers.specs.Refusals.{Status}
use Rattle.answers.specs.Checks.{first_refusal}
use Rattle.answers.specs.Outputs.{when_done, max_bits}
use Rattle.answers.proofs.Statuses.{done-or, kept}
use Rattle.answers.proofs.Rows.{passing-says, by-ways}
use Rattle.hasher.specs.declared.Hasher.{Hasher}
use Rattle.hasher.specs.Running.{variant_of, closed, well_formed, blank, fresh, grown, ended, start_checks, update_checks, open_checks, started_over, started, updated, finished}
use Rattle.hasher.specs.Sized.{Sized}
use Rattle.hasher.specs.Promises.{StartUnchanged, UpdateUnchanged, FinishUnchanged, StartWellFormed, UpdateWellFormed, FinishWellFormed, OverStarted}
use Rattle.hasher.proofs.WellFormed.{facts, well-formed}
use Rattle.hasher.proofs.Next.{ended-sized, ended-facts, grown-open, grown-sized}
use Rattle.hasher.proofs.Calls.{update-says}
use Rattle.hasher.proofs.Message.{fresh-facts}

-- a running hash that is well formed and of the code's sizes
abbrev Good : Hasher → Type 0
Good h = (well_formed h ≡ true) × Sized h

-- a start that is Done gives a well-formed running hash
pub start-well-formed : StartWellFormed
unfolding started started_over
start-well-formed v e =
    let k = (passing-says (start_checks v) e).0 in
    ap (λ (s : Status). well_formed (when_done s (fresh v) (blank 0))) e ∙ well-formed (fresh v) (fresh-facts v k)

-- a start over a running hash that is there is a start, of a variant that is known
pub over-started : OverStarted
unfolding started started_over
over-started h v k = rw k

-- a start over a well-formed running hash leaves one, and a refused one leaves it as it was
pub over-well-formed : (h : Hasher) → well_formed h ≡ true → (v : ℕ) → well_formed (started_over h v).hasher ≡ true
unfolding started_over
over-well-formed h w v =
    by-ways (λ s. well_formed (when_done s (fresh v) h) ≡ true) (start_checks v) ((λ e. w), λ k. well-formed (fresh v) (fresh-facts v k))

pub start-unchanged : StartUnchanged
unfolding started_over
start-unchanged h v n = kept (first_refusal (start_checks v)) (fresh v) h n

module _ (h : Hasher) (z : Sized h) (w : well_formed h ≡ true) where
  -- where the checks of a piece pass, the running hash goes on
  goes_on : (m : List Bool) → closed h ≡ false → h.total + length m ≤ max_bits → Good (grown h m)
  goes_on m c few = ((grown-open h z (w, c) m few).0, grown-sized h z (w, c) m)

  update-good : (g : Given) → Good (updated h g).hasher
  unfolding updated
  update-good g =
      ⊎_elim
      (λ e.
      let t = update-says h g e in
      subst (λ (s : Status). Good (when_done s (grown h (given_bits (variant_of h) g)) h)) (sym e) (goes_on (given_bits (variant_of h) g) t.follow.opened.1 t.follow.few))
      (λ n. subst Good (sym (kept (first_refusal (update_checks h g)) (grown h (given_bits (variant_of h) g)) h n)) (w, z))
      (done-or (first_refusal (update_checks h g)))

  pub update-sized : (g : Given) → Sized (updated h g).hasher
  update-sized g = (update-good g).1

  finish-good : Good (finished h).hasher
  unfolding finished
  finish-good =
      by-ways (λ s. Good (when_done s (ended h) h)) (open_checks h)
      ((λ e. (w, z)), λ e. ((λ c. (w, z)), λ c. (well-formed (ended h) (ended-facts h (facts h w) z), ended-sized h)))

  pub finish-sized : Sized (finished h).hasher
  finish-sized = finish-good.1

-- an update and a finish keep a well-formed running hash well formed
pub update-well-formed : UpdateWellFormed
update-well-formed h z w g = (update-good h z w g).0

pub finish-well-formed : FinishWellFormed
finish-well-formed h z w = (finish-good h z w).0

-- a refused update gives back the running hash that it was given, well formed or not
pub update-unchanged : UpdateUnchanged
unfolding updated
update-unchanged h g n = kept (first_refusal (update_checks h g)) _ h n

-- and so does a refused finish
pub finish-unchanged : FinishUnchanged
unfolding finished
finish-unchanged h n = kept (first_refusal (open_checks h)) (ended h) h n
