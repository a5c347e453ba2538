-- `vectors::text::number_in` meets its contract: the digits read so far are a number, modulo 2 ^ 32. Assumes nothing.
use mathlib.Core.Path.{◌≡◌}
use Prim.Native.Nat.{◌%◌}
use lib.ListN.{take}
use Rattle.octets.specs.Text.{from_decimal}
use Rattle.vectors.proofs.text.number_in.Given as goal

abbrev pub invariant-loop-c : goal.invariant-loop-c
invariant-loop-c l = l.n ≡ from_decimal (take l.c-index l.word) % 4294967296
