-- `p_layer_back` is the inverse of p_layer on the first t bits: p_layer takes its result to s.
-- Assumes nothing.
use mathlib.Core.Path.{◌≡◌, sym, ap, ap₂, ◌∙◌}
use mathlib.Core.Bool.{Bool}
use mathlib.Core.List.{List, ◌++◌}
use Prim.Native.Nat.{ℕ, ◌*◌, ◌/◌}
use native.Mathlib.Omega.{arith}
use lib.ListN.{length, take, take-append-drop}
use lib.Seq.{length-take-le}
use Rattle.standard.specs.Bits.{low_first, bits_in}
use Rattle.standard.specs.Spongent.{p_layer}
use Rattle.standard.proofs.BitLaws.{length-bits_in}
use Rattle.standard.proofs.SpongentLaws.{p_layer-undo}
use Rattle.spongent.proofs.Places.{pair_at-lt, moved-bits, bits-after}
use Rattle.spongent.proofs.steps.p_layer_back.Goals as goal

pub all_gathered-requires : goal.all_gathered-requires
all_gathered-requires c = (omega arith, λ j h. rw (c.pairs_in-pairs.ensures j h) (pair_at-lt c.args.s j))

pub returns : goal.returns
returns c =
    let a = c.args in
    let t : ℕ = a.t in
    let r : List ℕ = c.all_gathered.result in
    let R : List Bool = bits_in low_first r in
    let pairs = c.pairs_in-pairs.ensures in
    let e : t / 4 * 4 ≡ t = omega arith in
    let lr : length (take t R) ≡ t = length-take-le t R (omega (arith, length-bits_in low_first r)) in
    sym (take-append-drop t R)
    ∙ ap₂ (λ (k l : List Bool). k ++ l)
    (sym (p_layer-undo t (t / 4) 4 e (take t R) lr)
    ∙ ap (p_layer t 4)
    (sym (moved-bits t (omega arith) (omega arith) (omega arith) r a.s (omega arith) (omega arith) (λ j h. sym (pairs j h) ∙ sym (c.all_gathered.ensures.0 j h)))))
    (bits-after t (omega arith) (omega arith) (omega arith) r (omega arith) c.all_gathered.ensures.1)
