-- What a user relies on of what the program prints. Assumes nothing.
use Rattle.std.specs.Prelude.{◌≡◌, List, ℕ}
use Rattle.octets.specs.Numbers.{Bytes}
use Rattle.answers.specs.Refusals.{Done}
use Rattle.hasher.specs.Pieces.{joined}
use Rattle.manifest.specs.Records.{manifest_status}
use Rattle.manifest.specs.Counts.{counts_of}
use Rattle.manifest.specs.Installations.{held}
use Rattle.manifest.specs.Promises.{reported}
use Rattle.report.specs.Lines.{lines_of, printed}

-- The lines that are printed for a manifest that passes and tables that come in whatever pieces the reads brought are
-- the six counts of the two.
abbrev pub CountsPrinted : Type 0
CountsPrinted =
    (manifest : List ℕ) → Bytes manifest → manifest_status manifest ≡ Done → (pieces : List (List ℕ))
    → printed (manifest_status manifest) (reported manifest pieces) ≡ lines_of (counts_of (held manifest) (joined pieces))
