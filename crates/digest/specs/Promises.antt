-- What a user relies on of what the program prints. Assumes nothing.
use Rattle.std.specs.Prelude.{◌≡◌, true, List, ℕ, ◌≤◌, length}
use Rattle.standard.specs.Chain.{digest_of}
use Rattle.standard.specs.Messages.{byte_bits}
use Rattle.standard.specs.Variants.{variant, known}
use Rattle.answers.specs.Outputs.{max_bytes}
use Rattle.hasher.specs.Running.{started}
use Rattle.hasher.specs.Pieces.{plain, joined, all_updated}
use Rattle.digest.specs.Answers.{digest_line, answer_line}

-- The line that is printed for a message of at most 16,777,215 bytes, taken under a known variant in whatever pieces
-- the reads brought, is the standard's digest of it.
abbrev pub DigestPrinted : Type 0
DigestPrinted =
    (v : ℕ) → known v ≡ true → (pieces : List (List ℕ)) → length (joined pieces) ≤ max_bytes
    → answer_line (all_updated (started v) (plain pieces)) ≡ digest_line (digest_of (variant v) (byte_bits (joined pieces)))
