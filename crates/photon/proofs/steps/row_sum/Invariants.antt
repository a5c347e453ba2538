-- `photon::steps::row_sum` meets its contract: before a turn the sum is that of the bits from bit b on. Assumes nothing.
use mathlib.Core.Path.{◌≡◌}
use mathlib.Core.List.{List}
use Prim.Native.Nat.{ℕ, ◌/◌, ◌^◌, ◌<◌}
use Rattle.standard.specs.Grid.{tab}
use Rattle.standard.specs.Field.{dot}
use Rattle.photon.specs.Rows.{lane, column_from, Mixing, NoneFrom, SmallRows}
use Rattle.photon.proofs.steps.row_sum.Given as goal

-- the sum of the coefficients' bits from bit b on, in each column
abbrev From : List ℕ → ℕ → ℕ → ℕ → ℕ → ℕ → ℕ → Type 0
From rows n s poly z b sum =
    (d j : ℕ) → Mixing d s poly → NoneFrom d z → SmallRows d (2 ^ s) rows n → j < d
    → lane j sum ≡ dot (2 ^ s) poly (tab d (λ i. lane i z / 2 ^ b)) (column_from d rows n j)

abbrev pub invariant-loop-b : goal.invariant-loop-b
invariant-loop-b l = From l.rows l.n l.s l.poly l.z l.b l.sum
