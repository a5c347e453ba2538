-- `next_counter` is the counter after c, for each of the three widths: computed at each byte.
-- Assumes nothing.
use mathlib.Core.Path.{◌≡◌}
use mathlib.Core.Bool.{xor}
use Prim.Native.Nat.{◌+◌, ◌*◌, ◌/◌, ◌%◌}
use native.Mathlib.Omega.{arith}
use lib.Bits.{bit_xor}
use Rattle.standard.specs.Spongent.{tapped, next_counter}
use Rattle.standard.proofs.Tests.{same-below}
use Rattle.spongent.specs.Parameters.{taps_of}
use Rattle.spongent.proofs.steps.next_counter.Goals as goal

pub returns-in-6 : goal.returns-in-6
unfolding taps_of next_counter tapped xor
returns-in-6 c = rw c.in-6.is
    (same-below (λ x. x % 32 * 2 + bit_xor (x / 32) (x / 16) % 2) (next_counter 6 (taps_of 6)) 256 tt c.args.c (omega arith))

pub returns-in-7 : goal.returns-in-7
unfolding taps_of next_counter tapped xor
returns-in-7 c = rw c.in-7.is
    (same-below (λ x. x % 64 * 2 + bit_xor (x / 64) (x / 32) % 2) (next_counter 7 (taps_of 7)) 256 tt c.args.c (omega arith))

pub returns-in_default : goal.returns-in_default
unfolding taps_of next_counter tapped xor
returns-in_default c =
    let a = c.args in
    let eight : a.w ≡ 8 = omega arith in
    rw eight
    (same-below (λ x. x % 128 * 2 + bit_xor (x / 128) (bit_xor (x / 8) (bit_xor (x / 4) (x / 2))) % 2) (next_counter 8 (taps_of 8)) 256 tt a.c (omega arith))
