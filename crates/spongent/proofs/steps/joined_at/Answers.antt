-- `joined_at` meets its contract: zero past the n bytes, and else the byte of four pairs.
-- Assumes nothing.
use Prim.Native.Nat.{ℕ, ◌+◌, ◌*◌, ◌<◌}
use native.Mathlib.Omega.{arith}
use lib.ListN.{get_or}
use Rattle.spongent.proofs.steps.joined_at.Goals as goal

pub joined-requires : goal.joined-requires
joined-requires c =
    let k : ℕ = c.args.k in
    let small : (j : ℕ) → j < 4 * c.args.n → get_or c.args.pairs.now j 0 < 4 = c.requires.1 in
    (small (4 * k) (omega arith), (small (4 * k + 1) (omega arith), (small (4 * k + 2) (omega arith), small (4 * k + 3) (omega arith))))
