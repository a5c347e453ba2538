-- `put` writes numbers times a factor. The loop's invariant: the first k are written.
-- Assumes nothing.
use mathlib.Core.Path.{ap}
use Prim.Native.Nat.{ℕ, ◌-◌, ◌*◌, ◌^◌, ◌≤◌}
use native.Mathlib.Nat.{mul-le-mul_right}
use native.Mathlib.Omega.{arith}
use Rattle.octets.proofs.FilledFrom.{filled_none, filled_more}
use Rattle.lesamnta.proofs.words.put.Goals as goal

pub loop-k-init : goal.loop-k-init
loop-k-init c = filled_none _ _ _

-- a number below 2 ^ 32 times the greatest factor is below 2 ^ 64
pub overflow_mul-out : goal.overflow_mul-out
overflow_mul-out c =
    let f : ℕ = c.args.factor in
    let small : c.from.result ≤ 2 ^ 32 - 1 = omega (arith, c.from.ensures, c.type_inv.numbers c.loop-k.k) in
    let product : c.from.result * f ≤ (2 ^ 32 - 1) * f = mul-le-mul_right f small in
    omega arith

pub loop-k-preserved : goal.loop-k-preserved
loop-k-preserved c =
    let l = c.loop-k in
    filled_more c.args.at _ l.k _ l.out _ (omega arith) (ap (λ (x : ℕ). x * c.args.factor) c.from.ensures) l.invariant

pub returns : goal.returns
returns c =
    let u = c.loop-k.invariant in
    record { written = λ k h. u.done k (omega arith); before = u.before }
