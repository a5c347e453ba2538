-- Demand 3, the lost block: the operation refuses with 8 exactly when no block leads to the image's state, and otherwise the block that it gives is the only one that does.
-- Together with `one-changed-block` of the crate `standard` this is demand 3; `EveryState` says it of states.
-- Assumes nothing.
use mathlib.Core.Path.{◌≡◌, refl, sym, ap, ◌∙◌, subst}
use mathlib.Core.Bool.{Bool, true, false, cond, not}
use mathlib.Core.List.{List, [], head_d}
use mathlib.Core.Logic.{◌↔◌, ◌⊎◌, inl, inr, ⊎_elim}
use Prim.Native.Nat.{ℕ, ◌-◌}
use lib.ListN.{length, drop, replicate, length-drop}
use Rattle.answers.specs.declared.Refusal.TheVariants.{NoBlock}
use Rattle.answers.specs.Refusals.{Done, Refused}
use Rattle.answers.specs.Checks.{first_refusal}
use Rattle.answers.proofs.Statuses.{not_done}
use Rattle.answers.proofs.Rows.{row-second, row-both}
use Rattle.standard.specs.Bits.{high_first, pack}
use Rattle.standard.specs.Families.{Variant, state_in}
use Rattle.standard.specs.Chain.{block_count}
use Rattle.standard.specs.Messages.{Given, given_bits}
use Rattle.standard.specs.Variants.{variant, known}
use Rattle.standard.proofs.Tests.{either, true-not-false}
use Rattle.standard.specs.Layout.{clear}
use Rattle.octets.proofs.Clear.{clear-zeros, zeros-clear}
use Rattle.chain.proofs.ImageLaws.{image-state}
use Rattle.chain.specs.Messages.{message_checks}
use Rattle.chain.proofs.MessageLaws.{message-passed}
use Rattle.recover.specs.Leading.{leading, NoneLeads, OnlyLeads}
use Rattle.recover.specs.Difference.{difference}
use Rattle.recover.specs.Recovering.{is_empty, block_size, placed_checks, leading_to, found_checks, recovered_block, asked_checks, recover_status}
use Rattle.recover.specs.Promises.{EightExactly, BlockGiven}
use Rattle.recover.proofs.LeadingLaws.{InBlock, leading-none, leading-one, leads-short, only}
use Rattle.recover.proofs.Searching.{Searches, searches}
use Rattle.recover.proofs.RecoverLaws.{Placed, checks-passed}

-- ---- the blocks that lead to a state

module _ {H : Variant} {m : List Bool} {place : ℕ} {s : List Bool} (h : Searches H m place s) where
  abbrev D : List Bool
  D = difference H m place s

  -- the difference of the two states lies within a block, or it does not
  in_block : InBlock H D ⊎ (InBlock H D → ⊥)
  in_block =
      let size : length (drop H.r D) ≡ H.t - H.r =
      length-drop H.r D ∙ ap (λ (n : ℕ). n - H.r) h.size in
      ⊎_elim
      (λ e. inl (clear-zeros (drop H.r D) e ∙ ap (λ (n : ℕ). replicate n false) size))
      (λ e. inr (λ z. true-not-false (sym (zeros-clear (H.t - H.r)) ∙ ap clear (sym z) ∙ e)))
      (either (clear (drop H.r D)))

  -- no block is listed just where none leads there
  pub none-leading : (is_empty (leading H m place s) ≡ true) ↔ NoneLeads H m place s
  none-leading = (
    λ e b l q. true-not-false (sym e ∙ ap is_empty (leading-one h (leads-short h b l q))),
    λ f. ⊎_elim
        (λ z. absurd (f _ (only h z).size (only h z).leads))
        (λ z. ap is_empty (leading-none h z))
        in_block,
  )

  -- where one is listed, the first is the only one that leads there
  pub first-leads : is_empty (leading H m place s) ≡ false → OnlyLeads H m place s (head_d (leading H m place s) [])
  unfolding head_d
  first-leads e =
      ⊎_elim
      (λ z. subst (λ (l : List (List Bool)). OnlyLeads H m place s (head_d l [])) (sym (leading-one h z)) (only h z))
      (λ z. absurd (true-not-false (ap is_empty (sym (leading-none h z)) ∙ e)))
      in_block

-- ---- the answer

module _ (v : ℕ) (g : Given) (place : ℕ) (image : List ℕ) (n : ℕ) (asked : first_refusal (asked_checks v g place image n) ≡ Done) where
  abbrev H : Variant
  H = variant v

  abbrev m : List Bool
  m = given_bits (variant v) g

  abbrev S : List Bool
  S = state_in (variant v) image

  abbrev empty : Bool
  empty = is_empty (leading_to v m place image)

  passed : (first_refusal (message_checks v g) ≡ Done) × (first_refusal (placed_checks H (block_count H (length m)) place image n) ≡ Done)
  passed = row-both (message_checks v g) (placed_checks H (block_count H (length m)) place image n) asked

  named : known v ≡ true
  named = (message-passed v g passed.0).named

  p : Placed v m place image n
  p = checks-passed v named m place image n passed.1

  search : Searches H m place S
  search = searches v named m place p.within p.way S (image-state v named image p.good)

  answer : (t : Bool) → empty ≡ t → recover_status v g place image n ≡ cond (not t) Done (Refused NoBlock)
  unfolding recover_status
  answer t e =
      row-second (asked_checks v g place image n) (found_checks v m place image) asked ∙ ap (λ (x : Bool). cond (not x) Done (Refused NoBlock)) e

  -- it is 8, or the call is done
  pub eight-or-done : (recover_status v g place image n ≡ Refused NoBlock) ⊎ (recover_status v g place image n ≡ Done)
  eight-or-done = ⊎_elim (λ e. inl (answer true e)) (λ e. inr (answer false e)) (either empty)

  empty-exactly : (recover_status v g place image n ≡ Refused NoBlock) ↔ NoneLeads H m place S
  empty-exactly =
      let law = none-leading search in (
        λ e. law.0 (⊎_elim (λ q. q) (λ q. absurd (not_done NoBlock (sym e ∙ answer false q))) (either empty)),
        λ f. answer true (law.1 f),
      )

  first-given : recover_status v g place image n ≡ Done → (b : List Bool) × OnlyLeads H m place S b × (recovered_block v m place image ≡ pack high_first (block_size H) b)
  unfolding recovered_block
  first-given e =
      let some : empty ≡ false = ⊎_elim (λ q. absurd (not_done NoBlock (sym (answer true q) ∙ e))) (λ q. q) (either empty) in
      (head_d (leading_to v m place image) [], first-leads search some, refl)

pub eight-exactly : EightExactly
eight-exactly = empty-exactly

pub block-given : BlockGiven
block-given = first-given
