-- `recover::is_searchable` meets its contract. Assumes nothing.
use mathlib.Core.Path.{sym, ap, ◌∙◌}
use mathlib.Core.Bool.{Bool, true, cond}
use Prim.Native.Nat.{ℕ, suc}
use native.Mathlib.Numerals.{add-one}
use lib.Dec.{eqb}
use Rattle.recover.proofs.is_searchable.Goals as goal

pub returns-then-is_sponge : goal.returns-then-is_sponge
returns-then-is_sponge c = c.if-is_sponge.true ∙ sym (ap (λ (b : Bool). cond b true (eqb (suc c.args.place) c.args.count)) (sym c.is_sponge.ensures ∙ c.if-is_sponge.true))

pub returns-else-is_sponge : goal.returns-else-is_sponge
returns-else-is_sponge c = ap (λ (n : ℕ). eqb n c.args.count) (add-one c.args.place)
    ∙ sym (ap (λ (b : Bool). cond b true (eqb (suc c.args.place) c.args.count)) (sym c.is_sponge.ensures ∙ c.if-is_sponge.false))
