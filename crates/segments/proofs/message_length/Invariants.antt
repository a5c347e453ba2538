-- `segments::message_length` meets its contract: the sum is that of the header and the first k lengths. Assumes nothing.
use mathlib.Core.Path.{◌≡◌}
use Prim.Native.Nat.{◌+◌, ◌*◌, ◌≤◌}
use lib.ListN.{length}
use Rattle.segments.specs.Entries.{header_of}
use Rattle.segments.specs.Cuts.{total_up_to}
use Rattle.segments.proofs.message_length.Given as goal

abbrev pub invariant-loop-k : goal.invariant-loop-k
invariant-loop-k l = (l.sum ≡ length (header_of l.list) + total_up_to l.list l.k) × (l.sum ≤ 4098 + l.k * 4294967295)
