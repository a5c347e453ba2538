-- `planes` has the four planes of n bytes, one after the other.
-- Assumes nothing.
use mathlib.Core.Path.{◌≡◌, ap, ◌∙◌}
use Prim.Native.Nat.{ℕ, ◌+◌, ◌*◌}
use native.Mathlib.Omega.{arith}
use lib.ListN.{get_or}
use Rattle.spongent.specs.Pairs.{plane_pair}
use Rattle.spongent.proofs.Places.{in-planes}
use Rattle.spongent.proofs.steps.planes.Goals as goal

pub returns : goal.returns
returns c =
    let a = c.args in
    let n : ℕ = a.n in
    let one = c.with_plane-one in
    let two = c.with_plane-two.ensures in
    let three = c.with_plane-three.ensures in
    let four = c.with_plane.ensures in
    in-planes n (λ j b i. get_or c.with_plane.result j 0 ≡ plane_pair b (get_or a.s i 0))
    (λ i h.
    let e : i ≡ 0 + i = omega arith in
    four.1 i (omega arith) ∙ three.1 i (omega arith) ∙ two.1 i h ∙ ap (λ (j : ℕ). get_or one.result j 0) e ∙ one.ensures.0 i (omega arith))
    (λ i h. four.1 (n + i) (omega arith) ∙ three.1 (n + i) (omega arith) ∙ two.0 i (omega arith))
    (λ i h. four.1 (2 * n + i) (omega arith) ∙ three.0 i (omega arith))
    (λ i h. four.0 i (omega arith))
