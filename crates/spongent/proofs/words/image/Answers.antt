-- `image` writes the whole bytes of the state.
-- Assumes nothing.
use mathlib.Core.Path.{ap}
use Prim.Native.Nat.{ℕ, ◌/◌}
use native.Mathlib.Omega.{arith}
use Rattle.spongent.proofs.ParametersOf.{sizes-of, tabled}
use Rattle.spongent.proofs.WordStates.{state-image}
use Rattle.spongent.proofs.words.image.Goals as goal

pub first_bytes-requires : goal.first_bytes-requires
first_bytes-requires c = omega (arith, (tabled c.args.v c.requires.0 c.requires.1).bits, (sizes-of c.args.v c.requires.0 c.requires.1).most)

pub returns : goal.returns
returns c = state-image c.args.v c.requires.0 c.requires.1 c.args.w.now c.first_bytes.result _
    (ap (λ (t : ℕ). t / 8) (tabled c.args.v c.requires.0 c.requires.1).bits) c.first_bytes.ensures
