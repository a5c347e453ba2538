-- A piece taken at once is the piece taken a byte at a time, where the running hash takes all of it or nothing.
-- Assumes nothing.
use mathlib.Core.Path.{◌≡◌, refl, sym, ap, ◌∙◌}
use mathlib.Core.Bool.{true}
use mathlib.Core.List.{List, [], ◌∷◌, ◌++◌, foldl}
use mathlib.Core.Logic.{⊎_elim}
use Prim.Native.Nat.{ℕ, suc, ◌+◌, ◌*◌, ◌≤◌}
use native.Mathlib.Omega.{arith}
use lib.ListN.{length}
use Rattle.standard.specs.Bits.{high_first}
use Rattle.standard.specs.Messages.{byte_bits, bytes}
use Rattle.standard.proofs.BitLaws.{length-bits_in}
use Rattle.answers.specs.Refusals.{Done}
use Rattle.answers.specs.Checks.{first_refusal}
use Rattle.answers.specs.Outputs.{max_bits}
use Rattle.answers.proofs.Statuses.{done-or}
use Rattle.hasher.specs.declared.Hasher.{Hasher}
use Rattle.hasher.specs.declared.Advanced.{Advanced}
use Rattle.hasher.specs.Running.{whole_so_far, open_checks, follow_checks, update_checks, updated}
use Rattle.hasher.specs.ForCode.{Open}
use Rattle.hasher.specs.Sized.{Sized}
use Rattle.hasher.specs.Pieces.{with_byte}
use Rattle.hasher.proofs.Calls.{update-says, update-done, update-answer, follows}
use Rattle.hasher.proofs.Keeps.{update-unchanged}
use Rattle.hasher.proofs.Next.{onward, onward-total, onward-whole, onward-open, onward-sized, onward-append}

one_byte : (b : ℕ) → length (byte_bits (b ∷ [])) ≡ 8
one_byte b = length-bits_in high_first (b ∷ [])

-- every byte fits
fitting : (part : List ℕ) (h : Hasher) → Sized h → Open h → whole_so_far h ≡ true → (b : ℕ) → h.total + 8 * suc (length part) ≤ max_bits
    → foldl with_byte h (b ∷ part) ≡ onward h (b ∷ part)
fitting [] h z o w b few = ap (λ (a : Advanced). a.hasher) (update-done h (bytes (b ∷ [])) o refl w (omega (arith, one_byte b)))
fitting (d ∷ part) h z o w b few =
    let one = b ∷ [] in
    ap (λ (a : Advanced). foldl with_byte a.hasher (d ∷ part)) (update-done h (bytes one) o refl w (omega (arith, one_byte b)))
    ∙ fitting part (onward h one) (onward-sized h z o one) (onward-open h z o one (omega arith)) (onward-whole h w one) d (omega (arith, onward-total h one))
    ∙ onward-append h z o one (d ∷ part)

-- a running hash that does not take one byte takes none
module _ (h : Hasher) (no_byte : (b : ℕ) → first_refusal (update_checks h (bytes (b ∷ []))) ≡ Done → ⊥) where
  takes_none : (b : ℕ) (part : List ℕ) → (updated h (bytes (b ∷ part))).hasher ≡ h
  unfolding updated
  takes_none b part =
      update-unchanged h (bytes (b ∷ part))
      (λ e.
      let says = (update-says h (bytes (b ∷ part)) e).follow in
      no_byte b (update-answer h (bytes (b ∷ [])) says.opened refl ∙ follows h _ says.whole (omega (arith, says.few, one_byte b, length-bits_in high_first (b ∷ part)))))

  stays : (part : List ℕ) → foldl with_byte h part ≡ h
  stays [] = refl
  stays (b ∷ part) = ap (λ (g : Hasher). foldl with_byte g part) (takes_none b []) ∙ stays part

pub byte-by-byte : (h : Hasher) → Sized h → (b : ℕ) (part : List ℕ) → (h.total + 8 ≤ max_bits → h.total + 8 * suc (length part) ≤ max_bits)
    → foldl with_byte h (b ∷ part) ≡ (updated h (bytes (b ∷ part))).hasher
byte-by-byte h z b part room =
    ⊎_elim
    (λ e.
    let says = (update-says h (bytes (b ∷ [])) e).follow in
    let few : h.total + 8 * suc (length part) ≤ max_bits = room (omega (arith, says.few, one_byte b)) in
    fitting part h z says.opened says.whole b few
    ∙ sym (ap (λ (a : Advanced). a.hasher) (update-done h (bytes (b ∷ part)) says.opened refl says.whole (omega (arith, length-bits_in high_first (b ∷ part))))))
    (λ n.
    let none : (c : ℕ) → first_refusal (update_checks h (bytes (c ∷ []))) ≡ Done → ⊥ = λ c e. n (same_byte c ∙ e) in
    stays h none (b ∷ part) ∙ sym (takes_none h none b part))
    (done-or (first_refusal (update_checks h (bytes (b ∷ [])))))
  where
    -- whichever byte it is
    same_byte : (c : ℕ) → first_refusal (update_checks h (bytes (b ∷ []))) ≡ first_refusal (update_checks h (bytes (c ∷ [])))
    same_byte c = ap (λ (n : ℕ). first_refusal (open_checks h ++ follow_checks h n)) (one_byte b ∙ sym (one_byte c))
