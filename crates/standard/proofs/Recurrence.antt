-- MixColumnsSerial row by row: in a sequence of rows that begins with those of the matrix, and in which each later row is the sum of products
-- of the d rows before it, the rows from the d-th on are those of the mixed matrix.
-- Assumes nothing.
use mathlib.Core.Path.{◌≡◌, sym, ap, ◌∙◌}
use mathlib.Core.List.{List, []}
use Prim.Native.Nat.{ℕ, zero, suc, ◌+◌, ◌<◌, suc-le-suc}
use native.Mathlib.Nat.{zero-add, suc-add, zero-lt-suc, not-suc-le-zero}
use native.Mathlib.Omega.{arith}
use Rattle.standard.specs.Rounds.{iterate}
use Rattle.standard.specs.Grid.{Grid, tab, at, transpose}
use Rattle.standard.specs.ForCode.{window}
use Rattle.standard.specs.Field.{dot}
use Rattle.standard.specs.Photon.{serial, columns, mix_columns}
use Rattle.standard.proofs.Tab.{length-tab, get_d-tab, tab-cong, tab-snoc, at-window, window-is}
use Rattle.standard.proofs.Undo.{get_d_map}

module _ (top poly : ℕ) (z : List ℕ) where
  -- one serial step moves a stretch of such a sequence on by one
  serial-next : (d : ℕ) (f : ℕ → ℕ) → 0 < d → f d ≡ dot top poly z (tab d f) → serial top poly z (tab d f) ≡ tab d (λ i. f (suc i))
  unfolding serial
  serial-next zero f h e = absurd (not-suc-le-zero h)
  serial-next (suc m) f h e = rw (← e, tab-snoc m (λ i. f (suc i)))

  steps_next : (d n : ℕ) (f : ℕ → ℕ) → 0 < d → ((k : ℕ) → k < n → f (k + d) ≡ dot top poly z (tab d (λ i. f (k + i))))
      → iterate n (serial top poly z) (tab d f) ≡ tab d (λ i. f (n + i))
  steps_next d zero f h e = simp zero-add
  steps_next d (suc n) f h e =
      ap (iterate n (serial top poly z)) (serial-next d f h (simp zero-add at (e 0 (zero-lt-suc n))))
      ∙ steps_next d n (λ i. f (suc i)) h (λ k l. simp suc-add at (e (suc k) (suc-le-suc l)))
      ∙ simp suc-add

  -- cell j of row i of the sequence is `rows i j`
  pub mix-rows : (d : ℕ) (g r : Grid) (rows : ℕ → ℕ → ℕ)
      → ((i j : ℕ) → i < d → j < d → rows i j ≡ at g i j)
      → ((n j : ℕ) → n < d → j < d → rows (n + d) j ≡ dot top poly z (tab d (λ i. rows (n + i) j)))
      → ((i j : ℕ) → i < d → j < d → at r i j ≡ rows (d + i) j)
      → window d r ≡ mix_columns top poly d z (window d g)
  unfolding mix_columns columns transpose
  mix-rows d g r rows first next last =
      window-is d r _
      (λ i j hi hj.
      let w : Grid = window d g in
      let columns : List (List ℕ) = tab d (λ b. tab d (λ a. at w a b)) in
      let same : tab d (λ k. at w k j) ≡ tab d (λ k. rows k j) =
      tab-cong d (λ k. at w k j) (λ k. rows k j) (λ k hk. at-window d g k j hk hj ∙ sym (first k j hk hj)) in
      let steps = steps_next d d (λ k. rows k j) (omega arith) (λ k hk. next k j hk hj) in
      rw (get_d_map (iterate d (serial top poly z)) columns j [] [] (rw length-tab hj), get_d-tab d (λ b. tab d (λ a. at w a b)) j [] hj)
      (rw (same, steps, get_d-tab d (λ k. rows (d + k) j) i 0 hi) (last i j hi hj)))
