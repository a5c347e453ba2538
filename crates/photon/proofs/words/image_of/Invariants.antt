-- `photon::words::image_of` meets its contract: the bytes are those of the rows passed. Assumes nothing.
use mathlib.Core.Path.{◌≡◌}
use Rattle.photon.specs.Parameters.{width}
use Rattle.photon.proofs.ImageRows.{row_bytes}
use Rattle.photon.proofs.words.image_of.Given as goal

abbrev pub invariant-loop-i : goal.invariant-loop-i
invariant-loop-i l = l.out ≡ row_bytes l.d (width l.cell) l.w l.i
