-- The permutation on an image that a caller lends: its refusals in order, and the bytes that it leaves.
-- Assumes nothing.
use Rattle.std.specs.Prelude.{Bool, ◌&&◌, List, [], ◌∷◌, ℕ, eqb, length, drop}
use Rattle.answers.specs.Refusals.{Status}
use Rattle.answers.specs.declared.Refusal.TheVariants.{UnknownVariant, BadImage, NotSponge}
use Rattle.answers.specs.Checks.{Check, unless, first_refusal}
use Rattle.answers.specs.Outputs.{when_done}
use Rattle.standard.specs.Bits.{bits_in}
use Rattle.standard.specs.declared.Direction.{Direction}
use Rattle.standard.specs.Sponge.{permutation}
use Rattle.standard.specs.Families.{Family, sponge, lesamnta, Variant, is_sponge, order, image_size, image_of, state_in}
use Rattle.standard.specs.Variants.{variant, known}
use Rattle.standard.specs.Layout.{clear}

-- bytes are an image if their length is that of one and no bit past the state's is set
unfoldable pub is_image : Variant → List ℕ → Bool
is_image H bytes = eqb (length bytes) (image_size H) && clear (drop H.t (bits_in (order H) bytes))

-- document 01, the permutation on an image: 1; 17 (document 02, Q-7); 6
abbrev pub image_checks : ℕ → List ℕ → List Check
image_checks v bytes = unless (known v) UnknownVariant ∷ unless (is_sponge (variant v)) NotSponge ∷ unless (is_image (variant v) bytes) BadImage ∷ []

-- the answer
unfoldable pub image_status : ℕ → List ℕ → Status
image_status v bytes = first_refusal (image_checks v bytes)

-- by family: the image of the permuted state. Lesamnta-LW, which 17 refuses, has no permutation, and its bytes stay.
abbrev pub permuted_bytes : Family → Variant → Direction → List ℕ → List ℕ
permuted_bytes (sponge P r') H w bytes = image_of H (permutation P w (state_in H bytes))
permuted_bytes lesamnta H w bytes = bytes

-- the bytes after the operation; refused ones stay
unfoldable pub permuted_image : ℕ → Direction → List ℕ → List ℕ
permuted_image v w bytes = when_done (image_status v bytes) (permuted_bytes (variant v).family (variant v) w bytes) bytes
