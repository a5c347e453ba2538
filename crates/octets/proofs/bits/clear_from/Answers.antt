-- `octets::bits::clear_from` meets its contract: past the end, or the rest of a byte and the bytes after it. Assumes
-- nothing.
use mathlib.Core.Path.{◌≡◌, sym, ap, ◌∙◌}
use Prim.Native.Nat.{ℕ, ◌-◌, ◌*◌, ◌%◌, ◌^◌}
use native.Mathlib.Omega.{arith}
use Rattle.standard.specs.Bits.{high_first}
use borrow.Author.Tests.{ne_eqb}
use Rattle.octets.proofs.CompareLaws.{part-clear, part-set}
use Rattle.octets.proofs.Clear.{past-bit}
use Rattle.octets.proofs.Shifts.{power}
use Rattle.octets.proofs.bits.clear_from.Goals as goal

pub returns-in_default : goal.returns-in_default
returns-in_default c = sym (past-bit high_first c.args.bytes.now c.args.c c.in_default.ensures.lookup.3)

-- what the code looks at: the bits that are left of the byte
left : (x c : ℕ) → x % (1 * 2 ^ (8 - c % 8) % 2 ^ 32) ≡ x % 2 ^ (8 - c % 8)
left x c = ap (λ (n : ℕ). x % n) (power (8 - c % 8) (omega arith))

pub returns-then-from-c-eq0 : goal.returns-then-from-c-eq0
returns-then-from-c-eq0 c =
    let a = c.args in
    let byte = c.in-Some.ensures.lookup.3 in
    c.zero_from.ensures ∙ sym (part-clear a.bytes.now a.c c.from.result byte.0 (c.from.ensures ∙ byte.1 0) (λ i. omega (arith, c.type_inv.bytes i)) (sym (left c.from.result a.c) ∙ c.if-from-c-eq0.true))

pub returns-else-from-c-eq0 : goal.returns-else-from-c-eq0
returns-else-from-c-eq0 c =
    let a = c.args in
    let byte = c.in-Some.ensures.lookup.3 in
    ne_eqb _ 0 c.if-from-c-eq0.false ∙ sym (part-set a.bytes.now a.c c.from.result byte.0 (c.from.ensures ∙ byte.1 0) (λ e. c.if-from-c-eq0.false (left c.from.result a.c ∙ e)))
