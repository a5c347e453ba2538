-- `photon::words::add_cells` meets its contract: the words passed have their cell, the others are as they were. Assumes nothing.
use Rattle.std.proofs.Common.{◌≡◌, ◌+◌, ◌*◌, ◌^◌, get_or}
use Rattle.std.specs.Int.Bits.{bit_xor}
use Rattle.octets.specs.Cells.{cell_in}
use Rattle.octets.proofs.Upto.{Upto}
use Rattle.photon.specs.Parameters.{width}
use Rattle.photon.proofs.words.add_cells.Given as goal

abbrev pub invariant-loop-j : goal.invariant-loop-j
invariant-loop-j l = Upto 0 (λ k x. x ≡ bit_xor (get_or l.initial.w k 0) (cell_in (width l.cell) l.bytes (l.first + k) * 2 ^ l.bit)) 8 l.j l.initial.w l.w
