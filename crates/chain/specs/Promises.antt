-- What is promised of the permutation's two calls together, and of bits that do not count. Assumes nothing.
use Rattle.std.specs.Prelude.{◌≡◌, List, [], ◌∷◌, ◌++◌, ℕ, ◌<◌, length, get_or}
use Rattle.standard.specs.Rounds.{opposite}
use Rattle.standard.specs.declared.Direction.{Direction}
use Rattle.standard.specs.Families.{Variant}
use Rattle.standard.specs.Messages.{bytes, partial, counted_of}
use Rattle.chain.specs.Images.{permuted_image}
use Rattle.chain.specs.Messages.{Alike}

-- Demand 2: for every variant number and all bytes, what one of the two calls makes of an image the other takes back.
abbrev pub PermutedBack : Type 0
PermutedBack =
    (v : ℕ) (w : Direction) (image : List ℕ) → ((i : ℕ) → get_or image i 0 < 256)
    → permuted_image v (opposite w) (permuted_image v w image) ≡ image

-- Document 02, Q-6: with bytes that are there, the bit number 8 says that all bits count,
abbrev pub EightAlike : Type 0
EightAlike = (H : Variant) (m : List ℕ) → 0 < length m → Alike H (partial m 8) (bytes m)

-- and bits of the last byte that do not count change nothing.
abbrev pub UncountedAlike : Type 0
UncountedAlike =
    (H : Variant) (front : List ℕ) (b c k : ℕ) → counted_of H.family k b ≡ counted_of H.family k c
    → Alike H (partial (front ++ b ∷ []) k) (partial (front ++ c ∷ []) k)
