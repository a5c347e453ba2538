-- `photon::words::join` meets its contract: the columns passed are joined. Assumes nothing.
use Rattle.std.proofs.Common.{◌≡◌, ℕ, ◌+◌, ◌/◌, ◌^◌, ◌<◌, get_or}
use Rattle.std.specs.Int.Bits.{bit_xor}
use Rattle.photon.proofs.words.join.Given as goal

abbrev pub invariant-loop-j : goal.invariant-loop-j
invariant-loop-j l = (k : ℕ) → k < l.j → get_or l.w k 0 ≡ bit_xor (get_or l.f k 0) (get_or l.f (k + 1) 0 / 2 ^ 32)
