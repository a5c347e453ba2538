-- `round` is a round of either direction on the first t bits: the three layers, one after the other.
-- Assumes nothing.
use mathlib.Core.Path.{◌≡◌, sym, ◌∙◌}
use mathlib.Core.Bool.{Bool, false}
use mathlib.Core.List.{List}
use Prim.Native.Nat.{ℕ, ◌-◌, ◌*◌, ◌/◌}
use native.Mathlib.Omega.{arith}
use lib.ListN.{length, take, replicate, take-append-drop}
use lib.Seq.{length-take-le}
use Rattle.standard.specs.Bits.{low_first, bits_in}
use Rattle.standard.specs.Spongent.{nibbles, c_addition, s_box_layer, p_layer, spongent_round}
use Rattle.standard.specs.Backward.{unnibbles}
use Rattle.standard.proofs.BitLaws.{length-bits_in}
use Rattle.standard.proofs.Tests.{bound-below}
use Rattle.standard.proofs.SpongentLaws.{length-p_layer, length-s_box_layer, length-c_addition}
use Rattle.spongent.proofs.Layers.{first-bits, layer-after}
use Rattle.spongent.proofs.steps.round.Goals as goal

pub s_box_layer-replaced-requires : goal.s_box_layer-replaced-requires
s_box_layer-replaced-requires c = (omega arith, bound-below _ 16 16 tt)

pub s_box_layer-replaced-requires-in-Backward : goal.s_box_layer-replaced-requires-in-Backward
s_box_layer-replaced-requires-in-Backward c = (omega arith, bound-below _ 16 16 tt)

pub returns-in-Forward : goal.returns-in-Forward
unfolding spongent_round
returns-in-Forward c =
    let a = c.args in
    let t : ℕ = a.t in
    let en : 8 * (t / 8) ≡ t = omega arith in
    let z : List Bool = replicate (288 - t) false in
    let L : List Bool = bits_in low_first a.s in
    let x : List Bool = take t L in
    let lx : length x ≡ t = length-take-le t L (omega (arith, length-bits_in low_first a.s)) in
    let p : List Bool = c_addition t a.counter x in
    let lp : length p ≡ t = length-c_addition t a.counter x ∙ lx in
    let ep = layer-after t L x z lx (sym (take-append-drop t L) ∙ rw c.requires.s_value) (c_addition (8 * (t / 8)) a.counter) (t / 8) _ en c.c_addition-added.ensures in
    let eq = layer-after t _ p z lp (rw en at ep) (s_box_layer nibbles) (t / 8) _ en c.s_box_layer-replaced.ensures in
    c.p_layer.ensures
    ∙ rw (c.in-Forward.is, first-bits t _ (s_box_layer nibbles p) z (length-s_box_layer nibbles p (omega arith) ∙ lp) eq)

pub returns-in-Backward : goal.returns-in-Backward
unfolding spongent_round
returns-in-Backward c =
    let a = c.args in
    let t : ℕ = a.t in
    let en : 8 * (t / 8) ≡ t = omega arith in
    let z : List Bool = replicate (288 - t) false in
    let x : List Bool = take t (bits_in low_first a.s) in
    let p : List Bool = p_layer t 4 x in
    let lp : length p ≡ t = length-p_layer t 4 x in
    let eq = layer-after t _ p z lp c.p_layer_back-put.ensures (s_box_layer unnibbles) (t / 8) _ en c.s_box_layer-replaced-in-Backward.ensures in
    let lq : length (s_box_layer unnibbles p) ≡ t = length-s_box_layer unnibbles p (omega arith) ∙ lp in
    let er = layer-after t _ (s_box_layer unnibbles p) z lq eq (c_addition (8 * (t / 8)) a.counter) (t / 8) _ en c.c_addition.ensures in
    rw c.in-Backward.is (rw en at er)
