-- `chain::stretch::Stretch::byte_at` meets its contract: one half byte, or two. Assumes nothing.
use mathlib.Core.Path.{◌≡◌}
use Prim.Native.Nat.{◌+◌, ◌*◌}
use native.Mathlib.Omega.{arith}
use Rattle.chain.proofs.BlockHalves.{half_lt, half-from, byte-both, byte-upper}
use Rattle.chain.proofs.stretch.Stretch.byte_at.Goals as goal

pub overflow_mul-upper : goal.overflow_mul-upper
overflow_mul-upper c = omega (arith, half_lt _ _ c.nibble_at-upper.ensures)

pub returns-then-q-k : goal.returns-then-q-k
returns-then-q-k c =
    let a = c.args in
    rw (c.nibble_at-upper.ensures, half-from) (byte-upper _ a.q a.k (omega arith) (omega arith))

pub overflow_add-result : goal.overflow_add-result
overflow_add-result c = omega (arith, half_lt _ _ c.nibble_at-upper.ensures, half_lt _ _ c.nibble_at.ensures)

pub returns : goal.returns
returns c =
    let a = c.args in
    let n : a.first + 2 * a.k + 1 ≡ a.first + (2 * a.k + 1) = omega arith in
    rw (c.nibble_at-upper.ensures, c.nibble_at.ensures, n, half-from _ a.first (2 * a.k), half-from _ a.first (2 * a.k + 1))
    (byte-both _ a.q a.k (omega arith) (omega arith))
