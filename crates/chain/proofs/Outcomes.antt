-- What Lesamnta-LW gives out: its state as it is.
-- Assumes nothing.
use mathlib.Core.Path.{◌≡◌}
use mathlib.Core.Bool.{Bool}
use mathlib.Core.List.{List}
use Prim.Native.Nat.{ℕ}
use Rattle.standard.specs.declared.Wanted.{Wanted}
use Rattle.standard.specs.declared.Wanted.TheVariants.{Digest, EndState}
use Rattle.standard.specs.Variants.{variant}
use Rattle.standard.specs.Layout.{packed_state}
use Rattle.chain.specs.Outcomes.{outcome}

pub either_way : (wanted : Wanted) (S : List Bool) (result : List ℕ) → result ≡ packed_state (variant 11) S → result ≡ outcome (variant 11) wanted S
unfolding variant
either_way Digest S result e = e
either_way EndState S result e = e
