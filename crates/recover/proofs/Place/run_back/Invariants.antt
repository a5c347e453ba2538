-- `recover::Place::run_back` meets its contract: the blocks passed, from the last on, are taken back. Assumes nothing.
use mathlib.Core.Path.{◌≡◌}
use lib.ListN.{drop}
use Prim.Native.Nat.{◌<◌}
use Rattle.standard.specs.Families.{state_in}
use Rattle.standard.specs.Chain.{blocks_of}
use Rattle.standard.specs.Variants.{variant}
use Rattle.chain.specs.TakenBack.{unrun}
use Rattle.standard.specs.Layout.{packed_state}
use Rattle.chain.specs.Splits.{message_held}
use Rattle.recover.proofs.Place.run_back.Given as goal

abbrev pub invariant-loop-j : goal.invariant-loop-j
invariant-loop-j l = (l.self.index < l.j) × (l.s ≡ packed_state (variant l.self.v) (unrun (variant l.self.v) (state_in (variant l.self.v) l.initial.s) (drop l.j (blocks_of (variant l.self.v) (message_held l.self.message)))))
