-- `previous_counter` is the counter before c, for each of the three widths: computed at each counter.
-- Assumes nothing.
use mathlib.Core.Path.{◌≡◌}
use mathlib.Core.Bool.{xor}
use Prim.Native.Nat.{◌+◌, ◌*◌, ◌/◌, ◌%◌}
use native.Mathlib.Omega.{arith}
use lib.Bits.{bit_xor}
use Rattle.standard.specs.Spongent.{tapped}
use Rattle.standard.specs.Counters.{previous_counter}
use Rattle.standard.proofs.Tests.{same-below}
use Rattle.spongent.specs.Parameters.{taps_of}
use Rattle.spongent.proofs.steps.previous_counter.Goals as goal

pub returns-in-6 : goal.returns-in-6
unfolding taps_of previous_counter tapped xor
returns-in-6 c = rw c.in-6.is
    (same-below (λ x. bit_xor x (x / 32) % 2 * 32 + x / 2) (previous_counter 6 (taps_of 6)) 64 tt c.args.c (rw c.in-6.is at c.requires.1.1))

pub returns-in-7 : goal.returns-in-7
unfolding taps_of previous_counter tapped xor
returns-in-7 c = rw c.in-7.is
    (same-below (λ x. bit_xor x (x / 64) % 2 * 64 + x / 2) (previous_counter 7 (taps_of 7)) 128 tt c.args.c (rw c.in-7.is at c.requires.1.1))

pub returns-in_default : goal.returns-in_default
unfolding taps_of previous_counter tapped xor
returns-in_default c =
    let a = c.args in
    let eight : a.w ≡ 8 = omega arith in
    rw eight
    (same-below (λ x. bit_xor x (bit_xor (x / 16) (bit_xor (x / 8) (x / 4))) % 2 * 128 + x / 2) (previous_counter 8 (taps_of 8)) 256 tt a.c (omega arith))
