-- `chain::message::counted_byte` meets its contract. Assumes nothing.
use mathlib.Core.Path.{ap, ◌∙◌}
use mathlib.Core.Bool.{false}
use mathlib.Core.List.{◌++◌}
use Prim.Native.Nat.{ℕ, ◌-◌}
use native.Mathlib.Omega.{arith}
use lib.ListN.{replicate}
use Rattle.standard.specs.Bits.{high_first, bits_of}
use Rattle.chain.proofs.MessageLaws.{shifted-lt, shifted-bits}
use Rattle.chain.proofs.message.counted_byte.Goals as goal

pub overflow_cast-result-2 : goal.overflow_cast-result-2
overflow_cast-result-2 c =
    let k = c.args.k in
    omega (arith, shifted-lt k (8 - k) c.counted.result (omega arith) c.counted.ensures.1)

pub returns : goal.returns
returns c =
    let k = c.args.k in
    shifted-bits k (8 - k) c.counted.result (omega arith) c.counted.ensures.1
    ∙ ap (λ (n : ℕ). bits_of high_first k n ++ replicate (8 - k) false) c.counted.ensures.0
