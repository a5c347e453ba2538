-- `put_state` writes the bytes of four words over the front. The loop's invariant: the first i are written.
-- Assumes nothing.
use mathlib.Core.Path.{◌≡◌}
use mathlib.Core.List.{◌++◌}
use lib.ListN.{take, drop}
use Rattle.lesamnta.proofs.WordLaws.{in_bytes}
use Rattle.lesamnta.proofs.words.put_state.Given as goal

abbrev pub invariant-loop-i : goal.invariant-loop-i
invariant-loop-i l = l.out ≡ take l.i (in_bytes l.x) ++ drop l.i l.initial.out
