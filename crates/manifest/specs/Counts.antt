-- The six counts of a report (document 02, Q-1 and Q-5), from an installation and the bytes of a stream of tables.
-- Assumes nothing.
use Rattle.std.specs.Prelude.{Bool, true, false, cond, not, ◌&&◌, List, ℕ, eqb, ltb, leb, length}
use Rattle.std.proofs.Math.Option.{Option, none, some}
use Rattle.answers.specs.Outputs.{max_bytes}
use Rattle.standard.specs.Chain.{digest_of}
use Rattle.standard.specs.Messages.{byte_bits}
use Rattle.standard.specs.Variants.{variant, known}
use Rattle.manifest.specs.declared.report.Summary.{Summary}
use Rattle.manifest.specs.Lists.{how_many}
use Rattle.octets.specs.Slices.{same}
use Rattle.manifest.specs.Tables.{Table, tables_in}
use Rattle.manifest.specs.Installations.{Expected, Axes, all_axes, is_there, axis_count}

-- ---- one table

-- what a report says of a table: it is the one that its axis should hold, it is not, or its axis is not there
pub data Verdict : Type 0 where
  equal : Verdict
  unequal : Verdict
  unlisted : Verdict

-- a table is what is expected: within the limit of a message, and with the expected digest under the expected variant.
-- Under a variant that is not known nothing has a digest
unfoldable pub is_expected : Expected → List ℕ → Bool
is_expected e contents =
    known e.variant && leb (length contents) max_bytes
    && same (digest_of (variant e.variant) (byte_bits contents)) e.digest

-- the verdict on a table, by what is expected of its axis
abbrev pub verdict_by : Option Expected → List ℕ → Verdict
verdict_by none contents = unlisted
verdict_by (some e) contents = cond (is_expected e contents) equal unequal

unfoldable pub verdict_of : Axes → Table → Verdict
verdict_of axes t = verdict_by (axes t.axis) t.contents

-- two verdicts are the same
abbrev pub same_verdict : Verdict → Verdict → Bool
same_verdict equal equal = true
same_verdict equal unequal = false
same_verdict equal unlisted = false
same_verdict unequal equal = false
same_verdict unequal unequal = true
same_verdict unequal unlisted = false
same_verdict unlisted equal = false
same_verdict unlisted unequal = false
same_verdict unlisted unlisted = true

-- ---- a row of tables

-- the number of them that have a verdict
unfoldable pub judged : Verdict → Axes → List Table → ℕ
judged v axes ts = how_many (λ t. same_verdict v (verdict_of axes t)) ts

-- an axis has a table
unfoldable pub is_told : List Table → ℕ → Bool
is_told ts axis = ltb 0 (how_many (λ (t : Table). eqb t.axis axis) ts)

-- the number of axes that are there and of which no table came
unfoldable pub untold : Axes → List Table → ℕ
untold axes ts = how_many (λ axis. is_there (axes axis) && not (is_told ts axis)) all_axes

-- ---- the six counts

unfoldable pub counts_of : Axes → List ℕ → Summary
counts_of axes stream =
    record {
      listed = axis_count axes;
      tables = length (tables_in stream);
      equal = judged equal axes (tables_in stream);
      unequal = judged unequal axes (tables_in stream);
      untold = untold axes (tables_in stream);
      unlisted = judged unlisted axes (tables_in stream);
    }
