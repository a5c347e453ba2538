-- `chain::plain::xored` meets its contract: the bytes passed are xored in. Assumes nothing.
use mathlib.Core.Path.{◌≡◌}
use lib.ListN.{take}
use Rattle.standard.proofs.BitLaws.{bytes_xor}
use Rattle.chain.proofs.plain.xored.Given as goal

abbrev pub invariant-loop-i : goal.invariant-loop-i
invariant-loop-i l = l.out ≡ bytes_xor l.initial.out (take l.i l.b)
