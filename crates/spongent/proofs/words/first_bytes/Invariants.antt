-- `first_bytes` writes the first n bytes of the words. The loop's invariant: the first i, with zeros after them.
-- Assumes nothing.
use mathlib.Core.Path.{◌≡◌}
use mathlib.Core.List.{◌++◌}
use Prim.Native.Nat.{◌-◌}
use lib.ListN.{take, replicate}
use Rattle.spongent.specs.Words.{bytes_in}
use Rattle.spongent.proofs.words.first_bytes.Given as goal

abbrev pub invariant-loop-i : goal.invariant-loop-i
invariant-loop-i l = l.out ≡ take l.i (bytes_in l.w) ++ replicate (36 - l.i) 0
