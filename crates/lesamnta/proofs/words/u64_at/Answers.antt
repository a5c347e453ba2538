-- `u64_at` reads eight bytes.
-- Assumes nothing.
use mathlib.Core.Path.{◌≡◌, ◌∙◌}
use Prim.Native.Nat.{ℕ, ◌+◌, ◌-◌}
use native.Mathlib.Omega.{arith}
use Rattle.lesamnta.proofs.WordLaws.{read_word}
use Rattle.lesamnta.proofs.words.u64_at.Goals as goal

pub returns : goal.returns
returns c =
    let at : ℕ = c.args.at in
    let eight : at + 8 - at ≡ 8 = omega arith in
    let copied = rw eight at c.copy_from_slice.ensures.after in
    c.from_be_bytes.ensures ∙ read_word c.args.bytes.now _ at c.requires (λ i. omega (arith, c.type_inv.bytes i)) copied
