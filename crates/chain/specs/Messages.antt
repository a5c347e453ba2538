-- What is asked of a message that a caller gives whole: its checks in order.
-- Assumes nothing.
use Rattle.std.specs.Prelude.{◌≡◌, Bool, ◌&&◌, List, [], ◌∷◌, ◌++◌, ℕ, ltb, leb, length}
use Rattle.standard.specs.Families.{Variant}
use Rattle.standard.specs.Messages.{Given, bytes, partial, given_bits}
use Rattle.standard.specs.Variants.{variant, known}
use Rattle.answers.specs.declared.Refusal.TheVariants.{UnknownVariant, TooLong, BadBitNumber}
use Rattle.answers.specs.Refusals.{Done}
use Rattle.answers.specs.Checks.{Check, unless, when, first_refusal}
use Rattle.answers.specs.Outputs.{max_bits}

-- document 02, Q-6: with n bytes, of whose last one k bits count, k is 1 to 8 and there is a byte
abbrev pub is_bit_number : ℕ → ℕ → Bool
is_bit_number k n = ltb 0 n && ltb 0 k && leb k 8

-- the bit number, where one is given: 15
abbrev pub number_checks : Given → List Check
number_checks (bytes m) = []
number_checks (partial m k) = unless (is_bit_number k (length m)) BadBitNumber ∷ []

-- it passes
abbrev pub Fits : Given → Type 0
Fits g = first_refusal (number_checks g) ≡ Done

-- what a whole message and a lost block ask first: 1; 15; 4
abbrev pub message_checks : ℕ → Given → List Check
message_checks v g =
    unless (known v) UnknownVariant ∷ (number_checks g ++ when (ltb max_bits (length (given_bits (variant v) g))) TooLong ∷ [])

-- two ways to give the same bits: both with a number that fits, or both refused for it
pub record Alike (H : Variant) (g h : Given) : Type 0 where
  pub numbers : first_refusal (number_checks g) ≡ first_refusal (number_checks h)
  pub same : given_bits H g ≡ given_bits H h
