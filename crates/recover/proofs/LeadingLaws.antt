-- The block that leads to a state: none, or the difference of the state before the place and the state wanted there.
-- Assumes nothing.
use mathlib.Core.Path.{◌≡◌, sym, ap, ap₂, ◌∙◌}
use mathlib.Core.Bool.{Bool, false}
use mathlib.Core.List.{List, [], ◌∷◌, ◌++◌}
use Prim.Native.Nat.{ℕ, ◌-◌}
use native.Mathlib.Omega.{arith}
use lib.ListN.{length, take, drop, replicate, take-append-drop}
use lib.Seq.{take_at, drop_at, length-take-le}
use Rattle.standard.specs.Bits.{turned}
use Rattle.standard.proofs.Turned.{length-turned, turned-twice}
use Rattle.standard.specs.Families.{Variant, order}
use Rattle.recover.specs.Leading.{end_state_with, same_bits, leading, OnlyLeads}
use Rattle.recover.specs.Difference.{difference}
use Rattle.recover.proofs.Passing.{same_refl, same-eq, passing-none, passing-one}
use Rattle.recover.proofs.Searching.{Searches}

-- the difference lies within the bits of a block
abbrev pub InBlock : Variant → List Bool → Type 0
InBlock H D = drop H.r D ≡ replicate (H.t - H.r) false

-- the block that it is
abbrev pub block_from : Variant → List Bool → List Bool
block_from H D = turned (order H) (take H.r D)

module _ {H : Variant} {m : List Bool} {place : ℕ} {s : List Bool} (h : Searches H m place s) where
  abbrev D : List Bool
  D = difference H m place s

  abbrev B : List Bool
  B = block_from H (difference H m place s)

  front : length (take H.r D) ≡ H.r
  front = length-take-le H.r D (omega (arith, h.size, h.fits))

  block-length : length B ≡ H.r
  block-length = length-turned (order H) (take H.r D) ∙ front

  -- ---- a block that leads there

  module _ (b : List Bool) (l : length b ≡ H.r) (e : end_state_with H m place b ≡ s) where
    -- laid out in the order of the state
    abbrev laid : List Bool
    laid = turned (order H) b

    lc : length laid ≡ H.r
    lc = length-turned (order H) b ∙ l

    -- is the difference
    pub leads-same : b ≡ B
    leads-same =
        sym (turned-twice (order H) b)
        ∙ ap (turned (order H)) (sym (ap (take H.r) (h.tells b l e) ∙ take_at laid _ H.r lc))

    -- which then does not reach past it
    pub leads-short : InBlock H D
    leads-short = ap (drop H.r) (h.tells b l e) ∙ drop_at laid _ H.r lc

  -- ---- and the difference leads there if it does not reach past the block

  pub block-leads : InBlock H D → end_state_with H m place B ≡ s
  block-leads z =
      h.finds B block-length
      (sym (take-append-drop H.r D) ∙ ap₂ (λ (x y : List Bool). x ++ y) (sym (turned-twice (order H) (take H.r D))) z)

  pub only : InBlock H D → OnlyLeads H m place s B
  only z = record { size = block-length; leads = block-leads z; others = λ c l n e. n (leads-same c l e) }

  -- ---- so the blocks that do are one or none

  pub leading-none : (InBlock H D → ⊥) → leading H m place s ≡ []
  unfolding leading
  leading-none n = passing-none H.r (λ b. same_bits (end_state_with H m place b) s) (λ b l q. n (leads-short b l (same-eq _ s q)))

  pub leading-one : InBlock H D → leading H m place s ≡ B ∷ []
  unfolding leading
  leading-one z =
      passing-one H.r (λ b. same_bits (end_state_with H m place b) s) B block-length
      (ap (λ (x : List Bool). same_bits x s) (block-leads z) ∙ same_refl s)
      (λ c l q. leads-same c l (same-eq _ s q))
