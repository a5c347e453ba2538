-- `photon::steps::bytes_of` meets its contract: the bytes passed are the packed ones. Assumes nothing.
use mathlib.Core.Path.{◌≡◌}
use lib.ListN.{get_or}
use Rattle.standard.specs.Bits.{high_first, pack}
use Rattle.standard.specs.ForCode.{window}
use Rattle.standard.specs.Photon.{bits_of_matrix}
use Rattle.octets.proofs.Upto.{Upto}
use Rattle.standard.specs.Layout.{state_room}
use Rattle.photon.specs.Parameters.{width}
use Rattle.photon.proofs.steps.bytes_of.Given as goal

abbrev pub invariant-loop-k : goal.invariant-loop-k
invariant-loop-k l = Upto 0 (λ i x. x ≡ get_or (pack high_first state_room (bits_of_matrix (width l.cell) (window l.d l.g))) i 0) state_room l.k l.initial.byte-items l.byte-items
