-- The line that is printed for a refusal (document 01): "refused" and its number.
-- Assumes nothing.
use Rattle.std.specs.Prelude.{List, ℕ}
use Rattle.octets.specs.Text.{ascii, line_of}
use Rattle.answers.specs.declared.Refusal.{Refusal}
use Rattle.answers.specs.Refusals.{number}

abbrev pub refused_line : Refusal → List ℕ
refused_line r = line_of (ascii "refused") (number r)
