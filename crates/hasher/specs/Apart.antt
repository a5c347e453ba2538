-- Two messages told apart by what a caller reads of their end states.
-- Assumes nothing.
use Rattle.std.specs.Prelude.{◌≡◌, List, ℕ, ◌≤◌, length, take}
use Rattle.standard.specs.Families.{Variant, image_size}
use Rattle.standard.specs.Messages.{Given, given_bits}
use Rattle.standard.specs.Variants.{variant}
use Rattle.standard.specs.declared.Wanted.TheVariants.{EndState}
use Rattle.hasher.specs.Reading.{hash_into}
use Rattle.hasher.specs.Pieces.{joined_bits, Cut, hashed_into}

-- the first n bytes of two outputs differ
abbrev pub Differ : ℕ → List ℕ → List ℕ → Type 0
Differ n x y = take n x ≡ take n y → ⊥

-- two calls put different images into their outputs, whatever these held, where both are long enough
abbrev pub ImagesDiffer : Variant → (List ℕ → List ℕ) → (List ℕ → List ℕ) → Type 0
ImagesDiffer H f g = (out out' : List ℕ) → image_size H ≤ length out → image_size H ≤ length out' → Differ (image_size H) (f out) (g out')

-- In one call, and whichever way the bits of each message are cut into pieces, the end state read of x differs from that read of y.
pub record ToldApart (v : ℕ) (x y : Given) : Type 0 where
  pub whole : ImagesDiffer (variant v) (hash_into v x EndState) (hash_into v y EndState)
  pub pieces : (xs ys : List Given) → Cut (variant v) xs → Cut (variant v) ys
      → joined_bits (variant v) xs ≡ given_bits (variant v) x → joined_bits (variant v) ys ≡ given_bits (variant v) y
      → ImagesDiffer (variant v) (hashed_into v xs EndState) (hashed_into v ys EndState)
