-- `c_addition` is c_addition on the first n bytes.
-- Assumes nothing.
use mathlib.Core.Path.{refl}
use native.Mathlib.Omega.{arith}
use Rattle.spongent.proofs.Layers.{bytes-c_addition}
use Rattle.spongent.proofs.steps.c_addition.Goals as goal

pub returns : goal.returns
returns c =
    let a = c.args in
    bytes-c_addition a.s a.n a.counter a.reversed (omega arith) (omega arith) (omega arith) c.requires.1.1 _ refl
