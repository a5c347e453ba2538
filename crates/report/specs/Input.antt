-- What each read makes of the report, and whether a further one follows: first of the file with the manifest, then of
-- the tables in standard input (document 02, Q-1). A read answers the number of bytes that it brought, which is 0 at the
-- end of the input, or that it failed.
-- Assumes nothing.
use Rattle.std.specs.Prelude.{Bool, false, cond, ◌&&◌, List, ℕ, eqb, ltb, take, Result, Ok, Err}
use Rattle.answers.specs.declared.Refusal.{Refusal}
use Rattle.answers.specs.declared.Refusal.TheVariants.{BadManifest}
use Rattle.answers.specs.Refusals.{Status, Refused}
use Rattle.manifest.specs.declared.report.Report.{Report}
use Rattle.manifest.specs.Tables.{max_tables}
use Rattle.manifest.specs.Progress.{begun, piece_taken, counts_so_far}
use Rattle.reads.specs.declared.Fed.{Fed}
use Rattle.reads.specs.declared.Fed.TheVariants.{More, Ended, Failed}
use Rattle.report.specs.Lines.{report_if}

-- a read found the end
abbrev pub at_end : {E : Type 0} → Result ℕ E → Bool
at_end (Ok n) = eqb n 0
at_end (Err e) = false

-- the answer for the file, from that for the bytes that were read of it: it stands if the read after them found the
-- end, and is 12 if the file goes on, a read failed or it could not be opened
abbrev pub file_status : {E : Type 0} → Status → Result ℕ E → Status
file_status status past = cond (at_end past) status (Refused BadManifest)

-- after the file: a report is begun, and the tables are read, if that is Done
abbrev pub after_manifest : {E : Type 0} → List ℕ → Result ℕ E → Result Report Refusal
after_manifest manifest past = report_if (file_status (begun manifest).status past) (begun manifest).report

-- a read of the tables that brought something is followed by a further one, until as many tables were told as a report
-- looks at
abbrev pub goes_on : ℕ → ℕ → Bool
goes_on tables n = ltb 0 n && ltb tables max_tables

-- how the report stands after a read of the tables that brought n bytes
abbrev pub standing : Report → ℕ → Fed Report
standing report n = cond (goes_on (counts_so_far report).tables n) (More report) (Ended report)

-- after a read of the tables: the report takes what it brought, which stands at the front of the buffer
abbrev pub after_piece : {E : Type 0} → List ℕ → Report → List ℕ → Result ℕ E → Fed Report
after_piece manifest report buffer (Ok n) = standing (piece_taken manifest report (take n buffer)) n
after_piece manifest report buffer (Err e) = Failed
