-- The blocks that, put at a place of a message, lead to a given end state (document 01: the lost block).
-- Assumes nothing.
use Rattle.std.specs.Prelude.{◌≡◌, Bool, true, false, cond, not, ◌&&◌, List, [], ◌∷◌, ◌++◌, map, ℕ, zero, suc, length, set}
use Rattle.std.specs.Bool.{xor}
use Rattle.standard.specs.Families.{Variant}
use Rattle.standard.specs.Chain.{start_state, blocks_of, run}

-- the end state of a message with the block b at a place among its padded blocks; its own block there is ignored
unfoldable pub end_state_with : Variant → List Bool → ℕ → List Bool → List Bool
end_state_with H m place b = run H (start_state H) (set (blocks_of H m) place b)

-- whether two strings of bits are equal
abbrev pub same_bits : List Bool → List Bool → Bool
same_bits [] [] = true
same_bits [] (b ∷ bs) = false
same_bits (a ∷ as') [] = false
same_bits (a ∷ as') (b ∷ bs) = not (xor a b) && same_bits as' bs

-- every string of n bits
abbrev pub all_bits : ℕ → List (List Bool)
all_bits zero = [] ∷ []
all_bits (suc n) = map (λ b. false ∷ b) (all_bits n) ++ map (λ b. true ∷ b) (all_bits n)

-- those that pass a test, in order
abbrev pub passing : (List Bool → Bool) → List (List Bool) → List (List Bool)
passing p [] = []
passing p (b ∷ bs) = cond (p b) (b ∷ passing p bs) (passing p bs)

-- A block leads to the state s if it makes s the end state. These are all blocks of r bits that do.
unfoldable pub leading : Variant → List Bool → ℕ → List Bool → List (List Bool)
leading H m place s = passing (λ b. same_bits (end_state_with H m place b) s) (all_bits H.r)

-- no block leads to the state s
abbrev pub NoneLeads : Variant → List Bool → ℕ → List Bool → Type 0
NoneLeads H m place s = (b : List Bool) → length b ≡ H.r → end_state_with H m place b ≡ s → ⊥

-- b leads to the state s, and every other block leads to another state
pub record OnlyLeads (H : Variant) (m : List Bool) (place : ℕ) (s b : List Bool) : Type 0 where
  pub size : length b ≡ H.r
  pub leads : end_state_with H m place b ≡ s
  pub others : (c : List Bool) → length c ≡ H.r → (c ≡ b → ⊥) → end_state_with H m place c ≡ s → ⊥
