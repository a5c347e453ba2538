-- `chain::squeeze::put_front` meets its contract: the half bytes passed are appended. Assumes nothing.
use mathlib.Core.Path.{◌≡◌}
use mathlib.Core.List.{◌++◌}
use Prim.Native.Nat.{◌*◌}
use lib.ListN.{take}
use Rattle.standard.specs.Bits.{high_first, bits_in, pack, unpack}
use Rattle.standard.specs.Layout.{state_room}
use Rattle.chain.proofs.squeeze.put_front.Given as goal

abbrev pub invariant-loop-i : goal.invariant-loop-i
invariant-loop-i l = l.out ≡ pack high_first state_room (unpack high_first (4 * l.p) l.initial.out ++ take (4 * l.i) (bits_in high_first l.s))
