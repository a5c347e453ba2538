-- `byte_at` shifts a byte to its place: no bit of it is lost.
-- Assumes nothing.
use mathlib.Core.Path.{ap, ◌∙◌}
use Prim.Native.Nat.{ℕ, ◌*◌, ◌%◌, ◌^◌}
use native.Mathlib.Omega.{arith}
use Rattle.spongent.proofs.WordLaws.{byte-shifted}
use Rattle.spongent.proofs.words.byte_at.Goals as goal

pub returns : goal.returns
returns c =
    let a = c.args in
    (ap (λ (x : ℕ). x * 2 ^ (8 * a.k) % 2 ^ 64) c.from.ensures ∙ byte-shifted a.x a.k (omega arith) (omega arith), omega arith)
