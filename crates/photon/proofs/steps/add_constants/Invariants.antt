-- `photon::steps::add_constants` meets its contract: the rows passed have their constants, the others are as they were. Assumes nothing.
use Rattle.std.proofs.Common.{◌≡◌, ℕ, ◌<◌, [], get_or}
use Rattle.std.specs.Int.Bits.{bit_xor}
use Rattle.standard.specs.Grid.{at}
use Rattle.standard.specs.Photon.{in_first}
use Rattle.octets.proofs.Upto.{Upto}
use Rattle.photon.proofs.steps.add_constants.Given as goal

abbrev pub invariant-loop-i : goal.invariant-loop-i
invariant-loop-i l =
    Upto []
    (λ i row. (j : ℕ) → j < 8 → get_or row j 0 ≡ in_first j (bit_xor (at l.initial.row-items i 0) (bit_xor l.rc (get_or l.ic i 0))) (at l.initial.row-items i j))
    8 l.i l.initial.row-items l.row-items
