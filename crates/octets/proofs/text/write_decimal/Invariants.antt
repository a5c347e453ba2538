-- `octets::text::write_decimal` meets its contract: the digits from place i on are written, and those before it are the
-- rest's. Assumes nothing.
use mathlib.Core.Path.{◌≡◌}
use Prim.Native.Nat.{◌-◌, ◌≤◌, ◌<◌}
use lib.ListN.{take, drop}
use Rattle.octets.specs.Slices.{written_at}
use Rattle.octets.specs.Text.{decimal}
use Rattle.octets.proofs.text.write_decimal.Given as goal

abbrev pub invariant-loop-i : goal.invariant-loop-i
invariant-loop-i l = record {
  place : l.at ≤ l.i;
  written : l.out ≡ written_at l.i (drop (l.i - l.at) (decimal l.n)) l.initial.out;
  left : l.at < l.i → take (l.i - l.at) (decimal l.n) ≡ decimal l.rest;
}
