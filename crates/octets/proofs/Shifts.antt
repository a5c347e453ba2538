-- Powers of two that the code makes by shifts.
-- Assumes nothing.
use mathlib.Core.Path.{◌≡◌, sym, subst, ◌∙◌}
use Prim.Native.Nat.{ℕ, ◌*◌, ◌%◌, ◌^◌, ◌≤◌, ◌<◌}
use native.Mathlib.Nat.{one-mul}
use native.Mathlib.Omega.{arith}
use lib.Pow.{pow_pos, shl_exact}

-- a power that the code makes by a shift
pub power : (k : ℕ) → k ≤ 8 → 1 * 2 ^ k % 2 ^ 32 ≡ 2 ^ k
power k h = shl_exact 1 k 32 (omega arith) (omega arith) ∙ one-mul (2 ^ k)

pub power_pos : (k : ℕ) → k ≤ 8 → 0 < 1 * 2 ^ k % 2 ^ 32
power_pos k h = subst (λ (n : ℕ). 0 < n) (sym (power k h)) (pow_pos k)
