-- `photon::words::fill` meets its contract: after x turns the first x entries are filled. Assumes nothing.
use Prim.Native.Nat.{◌+◌}
use lib.Bits.{bit_xor}
use lib.ListN.{get_or}
use Rattle.octets.proofs.FilledFrom.{FilledFrom}
use Rattle.photon.proofs.words.fill.Given as goal

abbrev pub invariant-loop-x : goal.invariant-loop-x
invariant-loop-x l = FilledFrom l.at (λ k. bit_xor (get_or l.shares (l.from + k) 0) l.above) l.x l.initial.out l.out
