-- `p_layer` is p_layer on the first t bits.
-- Assumes nothing.
use mathlib.Core.Path.{sym, ap₂, ◌∙◌}
use mathlib.Core.Bool.{Bool}
use mathlib.Core.List.{List, ◌++◌}
use Prim.Native.Nat.{ℕ, ◌/◌, ◌%◌}
use native.Mathlib.Omega.{arith}
use lib.ListN.{get_or, take-append-drop}
use Rattle.standard.specs.Bits.{low_first, bits_in}
use Rattle.spongent.proofs.Places.{pair_lt, moved-bits, bits-after}
use Rattle.spongent.proofs.steps.p_layer.Goals as goal

pub all_joined-requires : goal.all_joined-requires
all_joined-requires c =
    let a = c.args in
    let n : ℕ = a.t / 8 in
    (omega arith, λ j h. rw (c.planes-pairs.ensures j h) (pair_lt (j / n) (get_or a.s (j % n) 0)))

pub returns : goal.returns
returns c =
    let a = c.args in
    let r : List ℕ = c.all_joined.result in
    let pairs = c.planes-pairs.ensures in
    sym (take-append-drop a.t (bits_in low_first r))
    ∙ ap₂ (λ (k l : List Bool). k ++ l)
    (moved-bits a.t (omega arith) (omega arith) (omega arith) a.s r (omega arith) (omega arith) (λ j h. c.all_joined.ensures.0 j h ∙ pairs j h))
    (bits-after a.t (omega arith) (omega arith) (omega arith) r (omega arith) c.all_joined.ensures.1)
