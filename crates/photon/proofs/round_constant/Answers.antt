-- `photon::round_constant` meets its contract: its table holds the round constants, and the inverse counts from the end. Assumes nothing.
use mathlib.Core.List.{reverse}
use Prim.Native.Nat.{◌-◌}
use native.Mathlib.Omega.{arith}
use lib.ListN.{get_or}
use Rattle.standard.specs.Photon.{round_constants}
use Rattle.standard.proofs.Tests.{same-below}
use Rattle.photon.proofs.round_constant.Goals as goal

pub returns-in-Forward : goal.returns-in-Forward
returns-in-Forward c = rw c.in-Forward.is

pub returns-in-Backward : goal.returns-in-Backward
returns-in-Backward c = rw c.in-Backward.is
    (same-below (λ n. get_or round_constants (11 - n) 0) (λ n. get_or (reverse round_constants) n 0) 12 tt c.args.n (omega arith))
