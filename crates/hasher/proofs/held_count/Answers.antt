-- `hasher::held_count` meets its contract: none in a closed running hash, and the bits past the last whole block in an open one. Assumes nothing.
use mathlib.Core.Path.{sym, ap, ◌∙◌}
use Prim.Native.Nat.{ℕ, ◌%◌}
use native.Mathlib.Omega.{arith}
use borrow.Author.Tests.{eq-eqb, ne_eqb}
use Rattle.standard.proofs.Variants.{bounds}
use Rattle.hasher.proofs.WellFormed.{open-count, closed-count}
use Rattle.hasher.proofs.held_count.Goals as goal

pub returns-then-h-eq1 : goal.returns-then-h-eq1
returns-then-h-eq1 c = sym (closed-count c.args.h (eq-eqb _ _ c.if-h-eq1.true))

pub nonzero_rem-result : goal.nonzero_rem-result
nonzero_rem-result c = omega (arith, c.block_bits.ensures, (bounds c.args.h.variant c.requires).rate-least)

pub returns : goal.returns
returns c =
    let h = c.args.h in
    ap (λ (n : ℕ). h.total % n) c.block_bits.ensures ∙ sym (open-count h (ne_eqb _ _ c.if-h-eq1.false))
