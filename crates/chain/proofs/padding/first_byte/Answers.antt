-- `chain::padding::first_byte` meets its contract. Assumes nothing.
use mathlib.Core.Path.{sym, ap}
use mathlib.Core.Bool.{Bool, cond}
use Prim.Native.Nat.{◌%◌}
use native.Mathlib.Omega.{arith}
use borrow.Author.Tests.{eq-eqb, ne_eqb}
use Rattle.chain.proofs.padding.first_byte.Goals as goal

pub returns-then-bits-eq0 : goal.returns-then-bits-eq0
returns-then-bits-eq0 c = sym (ap (λ (b : Bool). cond b 128 0) (eq-eqb (c.args.bits % 128) 0 c.if-bits-eq0.true))

pub returns : goal.returns
returns c = sym (ap (λ (b : Bool). cond b 128 0) (ne_eqb (c.args.bits % 128) 0 (λ e. omega arith)))
