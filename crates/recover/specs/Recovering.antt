-- The operation that finds the block: its refusals in order, and the caller's output.
-- Assumes nothing.
use Rattle.std.specs.Prelude.{Bool, true, false, cond, ℕ, suc, ltb, eqb, length}
use mathlib.Core.List.{List, [], ◌∷◌, ◌++◌, head_d}
use Rattle.standard.specs.Bits.{high_first, pack, bytes_for}
use Rattle.standard.specs.Families.{Variant, is_sponge, state_in}
use Rattle.standard.specs.Chain.{block_count}
use Rattle.standard.specs.Messages.{Given, given_bits}
use Rattle.standard.specs.Variants.{variant}
use Rattle.answers.specs.declared.Refusal.TheVariants.{OutputTooShort, BadImage, OutOfRange, NoBlock, NotSponge}
use Rattle.answers.specs.Refusals.{Status}
use Rattle.answers.specs.Checks.{Check, unless, when, first_refusal}
use Rattle.answers.specs.Outputs.{written}
use Rattle.chain.specs.Images.{is_image}
use Rattle.chain.specs.Messages.{message_checks}
use Rattle.recover.specs.Leading.{leading}

-- whether a row has no block
abbrev pub is_empty : List (List Bool) → Bool
is_empty [] = true
is_empty (b ∷ bs) = false

-- the bytes of a block
abbrev pub block_size : Variant → ℕ
block_size H = bytes_for H.r

-- document 02, Q-7: what is no sponge is searched at the last block alone
abbrev pub searchable : Variant → ℕ → ℕ → Bool
searchable H count place = cond (is_sponge H) true (eqb (suc place) count)

-- the place among the blocks, the image and the output of n bytes: 7; 17; 6; 5
abbrev pub placed_checks : Variant → ℕ → ℕ → List ℕ → ℕ → List Check
placed_checks H count place image n =
    unless (ltb place count) OutOfRange
    ∷ unless (searchable H count place) NotSponge
    ∷ unless (is_image H image) BadImage
    ∷ when (ltb n (block_size H)) OutputTooShort
    ∷ []

-- the blocks that lead to the state of an image
abbrev pub leading_to : ℕ → List Bool → ℕ → List ℕ → List (List Bool)
leading_to v m place image = leading (variant v) m place (state_in (variant v) image)

-- the search: 8
abbrev pub found_checks : ℕ → List Bool → ℕ → List ℕ → List Check
found_checks v m place image = when (is_empty (leading_to v m place image)) NoBlock ∷ []

-- the block that leads there, packed like an image (SPONGENT's are whole bytes, which both orders pack alike)
unfoldable pub recovered_block : ℕ → List Bool → ℕ → List ℕ → List ℕ
recovered_block v m place image = pack high_first (block_size (variant v)) (head_d (leading_to v m place image) [])

-- Lost block, before the search: 1; 15; 4; 7; 17; 6; 5
abbrev pub asked_checks : ℕ → Given → ℕ → List ℕ → ℕ → List Check
asked_checks v g place image n =
    message_checks v g ++ placed_checks (variant v) (block_count (variant v) (length (given_bits (variant v) g))) place image n

-- Lost block: 1; 15; 4; 7; 17; 6; 5; 8
abbrev pub recover_checks : ℕ → Given → ℕ → List ℕ → ℕ → List Check
recover_checks v g place image n = asked_checks v g place image n ++ found_checks v (given_bits (variant v) g) place image

-- the answer
unfoldable pub recover_status : ℕ → Given → ℕ → List ℕ → ℕ → Status
recover_status v g place image n = first_refusal (recover_checks v g place image n)

-- the caller's output after it
unfoldable pub recover_into : ℕ → Given → ℕ → List ℕ → List ℕ → List ℕ
recover_into v g place image out =
    written (recover_status v g place image (length out)) (recovered_block v (given_bits (variant v) g) place image) out
