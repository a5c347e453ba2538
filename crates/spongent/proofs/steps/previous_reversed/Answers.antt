-- `previous_reversed` is the reversed counter before d, for each of the three widths: computed at each byte that has
-- nothing below the counter.
-- Assumes nothing.
use mathlib.Core.Path.{◌≡◌}
use mathlib.Core.Bool.{xor}
use Prim.Native.Nat.{ℕ, ◌+◌, ◌-◌, ◌*◌, ◌/◌, ◌%◌, ◌^◌}
use native.Mathlib.Omega.{arith}
use lib.Bits.{bit_xor}
use Rattle.standard.specs.Spongent.{tapped}
use Rattle.standard.specs.Counters.{previous_reversed}
use Rattle.standard.proofs.Tests.{same-below}
use Rattle.spongent.specs.Parameters.{taps_of}
use Rattle.spongent.proofs.steps.previous_reversed.Goals as goal

-- nothing stands where the bit of the sum goes
low-bits : (w n d : ℕ) → w ≡ n → d % 2 ^ (8 - w) ≡ 0 → d % 2 ^ (8 - n) ≡ 0
low-bits w n d is z = rw is at z

-- what the code makes for the widths 6 and 7, with the bit of the sum at place b
abbrev shifted : ℕ → ℕ → ℕ
shifted b d = d % 128 * 2 + bit_xor (d / 128) (d / b) % 2 * b

pub overflow_add-result : goal.overflow_add-result
overflow_add-result c = omega (arith, low-bits _ 6 c.args.d c.in-6.is c.requires.1.1)

pub returns-in-6 : goal.returns-in-6
unfolding taps_of previous_reversed tapped xor
returns-in-6 c =
    let d : ℕ = c.args.d in
    let whole : 4 * (d / 4) ≡ d = omega (arith, low-bits _ 6 d c.in-6.is c.requires.1.1) in
    rw c.in-6.is (rw whole at (same-below (λ k. shifted 4 (4 * k)) (λ k. previous_reversed 8 6 (taps_of 6) (4 * k)) 64 tt (d / 4) (omega arith)))

pub overflow_add-result-in-7 : goal.overflow_add-result-in-7
overflow_add-result-in-7 c = omega (arith, low-bits _ 7 c.args.d c.in-7.is c.requires.1.1)

pub returns-in-7 : goal.returns-in-7
unfolding taps_of previous_reversed tapped xor
returns-in-7 c =
    let d : ℕ = c.args.d in
    let whole : 2 * (d / 2) ≡ d = omega (arith, low-bits _ 7 d c.in-7.is c.requires.1.1) in
    rw c.in-7.is (rw whole at (same-below (λ k. shifted 2 (2 * k)) (λ k. previous_reversed 8 7 (taps_of 7) (2 * k)) 128 tt (d / 2) (omega arith)))

pub returns-in_default : goal.returns-in_default
unfolding taps_of previous_reversed tapped xor
returns-in_default c =
    let a = c.args in
    let eight : a.w ≡ 8 = omega arith in
    rw eight
    (same-below (λ x. x % 128 * 2 + bit_xor (x / 128) (bit_xor (x / 8) (bit_xor (x / 16) (x / 32))) % 2) (previous_reversed 8 8 (taps_of 8)) 256 tt a.d (omega arith))
