-- `octets::text::write_hex` meets its contract: the digits of the bytes passed are written. Assumes nothing.
use mathlib.Core.Path.{◌≡◌}
use Prim.Native.Nat.{◌+◌, ◌*◌}
use lib.ListN.{take}
use Rattle.octets.specs.Slices.{written_at}
use Rattle.octets.specs.Text.{hex_of}
use Rattle.octets.proofs.text.write_hex.Given as goal

abbrev pub invariant-loop-b : goal.invariant-loop-b
invariant-loop-b l = (l.p ≡ l.at + 2 * l.b-index) × (l.out ≡ written_at l.at (hex_of (take l.b-index l.bytes)) l.initial.out)
