-- `chain::images::at_front` meets its contract: the bytes stand over the front of 36 zeros. Assumes nothing.
use mathlib.Core.Path.{ap₂}
use mathlib.Core.List.{List, ◌++◌}
use Prim.Native.Nat.{ℕ}
use lib.ListN.{length}
use Rattle.standard.specs.Layout.{state_room}
use Rattle.octets.proofs.Front.{drop-replicate}
use Rattle.chain.proofs.images.at_front.Goals as goal

pub returns : goal.returns
returns c =
    ap₂ (λ (front rest : List ℕ). front ++ rest) c.copy_from_slice.ensures.after (drop-replicate {A = ℕ} (length c.args.bytes.now) state_room 0)
