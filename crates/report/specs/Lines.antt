-- What the program prints (document 02, Q-1): six lines, each a name, a space and a count in decimal, or the line of a
-- refusal.
-- Assumes nothing.
use Rattle.std.specs.Prelude.{List, ◌++◌, ℕ, Result, Ok, Err}
use Rattle.answers.specs.declared.Refusal.{Refusal}
use Rattle.answers.specs.Refusals.{Status, Done, Refused}
use Rattle.octets.specs.Text.{ascii, line_of}
use Rattle.answers.specs.Lines.{refused_line}
use Rattle.manifest.specs.declared.report.Report.{Report}
use Rattle.manifest.specs.declared.report.Summary.{Summary}
use Rattle.manifest.specs.Progress.{counts_so_far}

-- the six lines of the counts
unfoldable pub lines_of : Summary → List ℕ
lines_of s =
    line_of (ascii "listed") s.listed
    ++ line_of (ascii "tables") s.tables
    ++ line_of (ascii "equal") s.equal
    ++ line_of (ascii "unequal") s.unequal
    ++ line_of (ascii "untold") s.untold
    ++ line_of (ascii "unlisted") s.unlisted

-- the report, if one could be begun
abbrev pub report_if : Status → Report → Result Report Refusal
report_if Done report = Ok report
report_if (Refused r) report = Err r

-- what is printed: the counts that a report has come to, or, if none could be begun, the refusal
abbrev pub lines_for : Result Report Refusal → List ℕ
lines_for (Ok report) = lines_of (counts_so_far report)
lines_for (Err r) = refused_line r

abbrev pub printed : Status → Report → List ℕ
printed status report = lines_for (report_if status report)
