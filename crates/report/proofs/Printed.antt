-- What is printed are the counts: the report's theorem, read off the lines.
-- Assumes nothing.
use mathlib.Core.Path.{ap}
use Rattle.manifest.specs.Promises.{counts_over}
use Rattle.manifest.proofs.InPieces.{in_pieces}
use Rattle.report.specs.Lines.{lines_of}
use Rattle.report.specs.Promises.{CountsPrinted}

pub counts-printed : CountsPrinted
unfolding counts_over
counts-printed manifest small passes pieces = rw passes (ap lines_of (in_pieces manifest small passes pieces))
