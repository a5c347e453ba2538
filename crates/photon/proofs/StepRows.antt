-- The rows of MixColumnsSerial, step by step: the matrix's own, and behind them the last row of each step.
-- Assumes nothing.
use mathlib.Core.Path.{◌≡◌, refl, ap, ◌∙◌}
use mathlib.Core.List.{List}
use mathlib.Core.Logic.{⊎_elim}
use Prim.Native.Nat.{ℕ, ◌+◌, ◌^◌, ◌≤◌, ◌<◌}
use native.Mathlib.Nat.{not-suc-le-zero, eq-or-lt_of_le, le_of_suc-le-suc}
use native.Mathlib.Numerals.{add-one}
use native.Mathlib.Omega.{arith}
use lib.ListN.{length, get_or, set, length-set}
use lib.Seq.{get_or-set_same, get_or-set_other}
use Rattle.standard.specs.Grid.{Grid, at}
use Rattle.standard.specs.ForCode.{window, Small}
use Rattle.standard.specs.Field.{dot}
use Rattle.standard.specs.Photon.{mix_columns}
use Rattle.standard.proofs.Tab.{tab-cong}
use Rattle.standard.proofs.Recurrence.{mix-rows}
use Rattle.photon.specs.Rows.{lane, lanes, column_from, Mixing}
use Rattle.photon.proofs.BitSums.{dots-lt}

-- cell j of the row that the d rows from row n on make
abbrev next : ℕ → ℕ → ℕ → ℕ → List ℕ → ℕ → ℕ → ℕ
next d s poly z rows n j = dot (2 ^ s) poly (lanes d z) (column_from d rows n j)

-- n steps from the rows `own`
pub record Stepped (d s poly z : ℕ) (own : List ℕ) (n : ℕ) (rows : List ℕ) : Type 0 where
  pub size : length rows ≡ 16
  pub first : (i : ℕ) → i < d → get_or rows i 0 ≡ get_or own i 0
  pub made : (k j : ℕ) → k < n → j < d → lane j (get_or rows (k + d) 0) ≡ next d s poly z rows k j
  pub small : (i j : ℕ) → i < n + d → j < d → lane j (get_or rows i 0) < 2 ^ s

module _ (d s poly : ℕ) (m : Mixing d s poly) (z : ℕ) (own : List ℕ) where
  pub stepped-none : (g : Grid) → Small d (2 ^ s) g → length own ≡ 16 → ((i j : ℕ) → i < 8 → j < 8 → lane j (get_or own i 0) ≡ at g i j)
      → Stepped d s poly z own 0 own
  stepped-none g h len e =
      record {
        size = len;
        first = λ i hi. refl;
        made = λ k j hk hj. absurd (not-suc-le-zero hk);
        small = λ i j hi hj. rw (e i j (omega (arith, m.most)) (omega (arith, m.most))) (h.cell i j (omega arith) hj);
      }

  pub stepped-more : (n : ℕ) (rows : List ℕ) (x : ℕ) → n < d → ((j : ℕ) → j < d → lane j x ≡ next d s poly z rows n j)
      → Stepped d s poly z own n rows → Stepped d s poly z own (n + 1) (set rows (n + d) x)
  stepped-more n rows x hn e p =
      record {
        size = length-set rows (n + d) x ∙ p.size;
        first = λ i hi. other i (omega arith) ∙ p.first i hi;
        made = λ k j hk hj.
            ⊎_elim (λ q. rw q (ap (lane j) last ∙ e j hj ∙ same n j (omega arith))) (λ l. rw (other (k + d) (omega arith)) (p.made k j l hj ∙ same k j (omega arith)))
            (eq-or-lt_of_le (le_of_suc-le-suc (rw add-one at hk)));
        small = λ i j hi hj.
            ⊎_elim
            (λ (q : i ≡ n + d).
            rw (q, last, e j hj) (dots-lt s poly m.modulus.low m.modulus.high d _ _ (λ k hk. p.small (n + k) j (omega arith) hj)))
            (λ l. rw (other i l) (p.small i j l hj)) (eq-or-lt_of_le (omega arith));
      }
    where
      other : (i : ℕ) → i < n + d → get_or (set rows (n + d) x) i 0 ≡ get_or rows i 0
      other i h = get_or-set_other rows (n + d) i x 0 (λ q. omega arith)

      last : get_or (set rows (n + d) x) (n + d) 0 ≡ x
      last = get_or-set_same rows (n + d) x 0 (omega (arith, p.size, m.most))

      same : (k j : ℕ) → k ≤ n → next d s poly z rows k j ≡ next d s poly z (set rows (n + d) x) k j
      same k j h = ap (dot (2 ^ s) poly (lanes d z)) (tab-cong d _ _ (λ i hi. rw (other (k + i) (omega arith))))

  pub stepped-all : (g r : Grid) (n : ℕ) (rows : List ℕ) → n ≡ d → Stepped d s poly z own n rows
      → ((i j : ℕ) → i < 8 → j < 8 → lane j (get_or own i 0) ≡ at g i j)
      → ((i j : ℕ) → i < 8 → j < 8 → at r i j ≡ lane j (get_or rows (d + i) 0))
      → window d r ≡ mix_columns (2 ^ s) poly d (lanes d z) (window d g)
  stepped-all g r n rows q p e f =
      mix-rows (2 ^ s) poly (lanes d z) d g r (λ i j. lane j (get_or rows i 0))
      (λ i j hi hj. ap (lane j) (p.first i hi) ∙ e i j (omega (arith, m.most)) (omega (arith, m.most)))
      (λ k j hk hj. p.made k j (omega arith) hj)
      (λ i j hi hj. f i j (omega (arith, m.most)) (omega (arith, m.most)))
