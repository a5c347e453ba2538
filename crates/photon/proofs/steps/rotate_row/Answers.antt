-- `photon::steps::rotate_row` meets its contract. Assumes nothing.
use mathlib.Core.Path.{◌∙◌}
use Prim.Native.Nat.{◌+◌, ◌%◌}
use native.Mathlib.Nat.{mod-lt}
use native.Mathlib.Omega.{arith}
use Rattle.photon.proofs.steps.rotate_row.Goals as goal

pub returns : goal.returns
returns c = λ j h.
    let a = c.args in
    c.unpacked.ensures j (omega arith) ∙ c.rotated.ensures j h
    ∙ c.packed.ensures ((j + a.by) % a.d) (omega (arith, mod-lt (j + a.by) {m = a.d} (omega arith)))
