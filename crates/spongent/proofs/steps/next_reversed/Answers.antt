-- `next_reversed` is the reversed counter after d, for each of the three widths: computed at each byte.
-- Assumes nothing.
use mathlib.Core.Path.{◌≡◌}
use mathlib.Core.Bool.{xor}
use Prim.Native.Nat.{◌+◌, ◌*◌, ◌/◌, ◌%◌}
use native.Mathlib.Omega.{arith}
use lib.Bits.{bit_xor}
use Rattle.standard.specs.Spongent.{tapped}
use Rattle.standard.specs.Counters.{next_reversed}
use Rattle.standard.proofs.Tests.{same-below}
use Rattle.spongent.specs.Parameters.{taps_of}
use Rattle.spongent.proofs.steps.next_reversed.Goals as goal

pub returns-in-6 : goal.returns-in-6
unfolding taps_of next_reversed tapped xor
returns-in-6 c = rw c.in-6.is
    (same-below (λ x. bit_xor (x / 4) (x / 8) % 2 * 128 + x / 8 * 4) (next_reversed 8 6 (taps_of 6)) 256 tt c.args.d (omega arith))

pub returns-in-7 : goal.returns-in-7
unfolding taps_of next_reversed tapped xor
returns-in-7 c = rw c.in-7.is
    (same-below (λ x. bit_xor (x / 2) (x / 4) % 2 * 128 + x / 4 * 2) (next_reversed 8 7 (taps_of 7)) 256 tt c.args.d (omega arith))

pub returns-in_default : goal.returns-in_default
unfolding taps_of next_reversed tapped xor
returns-in_default c =
    let a = c.args in
    let eight : a.w ≡ 8 = omega arith in
    rw eight
    (same-below (λ x. bit_xor x (bit_xor (x / 16) (bit_xor (x / 32) (x / 64))) % 2 * 128 + x / 2) (next_reversed 8 8 (taps_of 8)) 256 tt a.d (omega arith))
