-- `vectors::text::bytes_in` meets its contract: the bytes said so far stand over the front of the old ones. Assumes nothing.
use mathlib.Core.Path.{◌≡◌}
use mathlib.Core.List.{◌++◌}
use lib.ListN.{take, drop}
use Rattle.vectors.specs.Words.{said_bytes}
use Rattle.vectors.proofs.text.bytes_in.Given as goal

abbrev pub invariant-loop-i : goal.invariant-loop-i
invariant-loop-i l = l.out ≡ take l.i (said_bytes l.word) ++ drop l.i l.initial.out
