-- `chain::sizes::sizes_of` meets its contract: the table has the sizes of each variant, and none past the last. Assumes nothing.
use mathlib.Core.Path.{◌≡◌, sym, ap, ◌∙◌}
use mathlib.Core.List.{List, [], ◌∷◌, map}
use Prim.Native.Nat.{ℕ, ◌<◌}
use native.Mathlib.Omega.{arith}
use borrow.Author.Tests.{ltb-true, ltb-false}
use lib.ListN.{get_or, get_or-eq_default}
use Rattle.standard.specs.Families.{Variant}
use Rattle.standard.specs.Variants.{variant, variants, none}
use Rattle.standard.specs.ForCode.{output_bits}
use Rattle.standard.proofs.Tests.{same-below, bound-below}
use Rattle.chain.proofs.sizes.sizes_of.Goals as goal

-- a variant's row of the table
abbrev row : Variant → List ℕ
row H = H.t ∷ H.r ∷ output_bits H ∷ H.n ∷ []

-- its i-th number
abbrev size : List ℕ → ℕ → ℕ → ℕ
size d i v = get_or (get_or (map row variants) v d) i 0

pub returns-in_default : goal.returns-in_default
unfolding variant
returns-in_default c =
    let past = sym (get_or-eq_default variants none {n = c.args.v} (omega (arith, ltb-false _ _ (sym c.in_default.ensures.lookup.0)))) in
    let zero = c.default.ensures in
    record { state_value = (zero.0 ∙ ap (λ (H : Variant). H.t) past, zero.1.0 ∙ ap (λ (H : Variant). H.r) past, zero.1.1.0 ∙ ap (λ (H : Variant). output_bits H) past, zero.1.1.1 ∙ ap (λ (H : Variant). H.n) past); state_bound = omega arith }

pub returns : goal.returns
unfolding variant
returns c =
    let v = c.from.result in
    let h : v < 12 = ltb-true _ _ (sym c.in-Some.ensures.lookup.0) in
    let d : List ℕ = c.in-Some.field-0.now in
    let e : d ≡ get_or (map row variants) v d = c.in-Some.ensures.lookup.1 in
    rw (sym c.from.ensures, e)
    (record {
      state_value = (
        same-below (size d 0) (λ k. (variant k).t) 12 tt v h,
        same-below (size d 1) (λ k. (variant k).r) 12 tt v h,
        same-below (size d 2) (λ k. output_bits (variant k)) 12 tt v h,
        same-below (size d 3) (λ k. (variant k).n) 12 tt v h,
      );
      state_bound = omega (arith, bound-below (size d 0) 289 12 tt v h);
    })
