-- Two rows of blocks that differ at exactly one place give different states from that block on, and equal ones before.
-- Assumes nothing.
use mathlib.Core.Path.{◌≡◌, sym, ap, ◌∙◌}
use mathlib.Core.Bool.{Bool}
use mathlib.Core.List.{List, [], ◌∷◌}
use Prim.Native.Nat.{ℕ, zero, suc, ◌+◌, ◌≤◌, ◌<◌}
use native.Mathlib.Nat.{not-suc-le-zero, le_of_suc-le-suc, le_refl}
use native.Mathlib.Omega.{arith}
use lib.ListN.{length, take, drop, get_or, length-drop}
use lib.Seq.{ext_get_or, get_or-take, get_or-drop, length-take-le, split_at, take-take}
use Rattle.standard.specs.Families.{Variant}
use Rattle.standard.specs.Chain.{step, run, Blocks, DifferAt}
use Rattle.standard.proofs.Streaming.{Streams, run-append, run-one, run_length}
use Rattle.standard.proofs.Sponge.{IsSponge, step-state, step_block}

-- different states stay different over equal rows
pub run-state : (H : Variant) → Streams H → IsSponge H → (bs : List (List Bool)) (s u : List Bool) → length s ≡ H.t → length u ≡ H.t → run H s bs ≡ run H u bs → s ≡ u
unfolding run
run-state H g h [] s u ls lu e = e
run-state H g h (b ∷ bs) s u ls lu e =
    step-state H h b s u ls lu (run-state H g h bs (step H s b) (step H u b) (g.step-length s b ls) (g.step-length u b lu) e)

-- ---- rows that differ at one place

pub block-length : (r : ℕ) (bs : List (List Bool)) (i : ℕ) → Blocks r bs → i < length bs → length (get_or bs i []) ≡ r
block-length r [] i p l = absurd (not-suc-le-zero l)
block-length r (b ∷ bs) zero p l = p.0
block-length r (b ∷ bs) (suc i) p l = block-length r bs i p.1 (le_of_suc-le-suc l)

module _ (xs ys : List (List Bool)) (i : ℕ) (d : DifferAt i xs ys) where
  same-before : (k : ℕ) → k ≤ i → take k xs ≡ take k ys
  same-before k l =
      let lx : length (take k xs) ≡ k = length-take-le k xs (omega (arith, d.within)) in
      let ly : length (take k ys) ≡ k = length-take-le k ys (omega (arith, d.within, d.count)) in
      ext_get_or [] (take k xs) (take k ys) (lx ∙ sym ly)
      (λ j lj.
      let lt : j < k = omega arith in
      rw (get_or-take k xs j [] lt, get_or-take k ys j [] lt) (d.elsewhere j (λ e. omega arith)))

  same_after : (k : ℕ) → k ≤ length xs → drop (suc i) (take k xs) ≡ drop (suc i) (take k ys)
  same_after k l =
      let lx : length (take k xs) ≡ k = length-take-le k xs l in
      let ly : length (take k ys) ≡ k = length-take-le k ys (omega (arith, d.count)) in
      ext_get_or [] (drop (suc i) (take k xs)) (drop (suc i) (take k ys)) (simp (length-drop, lx, ly))
      (λ j lj.
      let lt : suc i + j < k = omega (arith, length-drop (suc i) (take k xs)) in
      simp (get_or-drop, get_or-take) (d.elsewhere (suc i + j) (λ e. omega arith)))

-- the state after a row that is cut at a place
run-split : (H : Variant) (s : List Bool) (xs : List (List Bool)) (i k : ℕ) → i < k → k ≤ length xs
    → run H s (take k xs) ≡ run H (step H (run H s (take i (take k xs))) (get_or xs i [])) (drop (suc i) (take k xs))
run-split H s xs i k l h =
    ap (run H s) (split_at (take k xs) i [] (omega (arith, length-take-le k xs h))) ∙ rw (get_or-take k xs i [] l, run-append, run-one)

module _ (H : Variant) (g : Streams H) (h : IsSponge H) (s : List Bool) (ls : length s ≡ H.t) (xs ys : List (List Bool)) (i k : ℕ)
    (bx : Blocks H.r xs) (by : Blocks H.r ys) (d : DifferAt i xs ys) (hk : k ≤ length xs) where
  -- past the place, equal states would mean equal blocks there
  differ-after : i < k → run H s (take k xs) ≡ run H s (take k ys) → ⊥
  differ-after l e =
      let before : List Bool = run H s (take i (take k xs)) in
      let lb : length before ≡ H.t = run_length H g (take i (take k xs)) s ls in
      let hy : k ≤ length ys = omega (arith, d.count) in
      let fronts : take i (take k ys) ≡ take i (take k xs) = rw (take-take i k ys (omega arith), take-take i k xs (omega arith)) (sym (same-before xs ys i d i (le_refl i))) in
      let ey : run H s (take k ys) ≡ run H (step H before (get_or ys i [])) (drop (suc i) (take k xs)) =
      rw (run-split H s ys i k l hy, fronts, same_after xs ys i d k hk) in
      d.differs
      (step_block H h before (get_or xs i []) (get_or ys i []) lb
      (block-length H.r xs i bx d.within)
      (block-length H.r ys i by (omega (arith, d.within, d.count)))
      (run-state H g h (drop (suc i) (take k xs)) _ _ (g.step-length before _ lb) (g.step-length before _ lb)
      (sym (run-split H s xs i k l hk) ∙ e ∙ ey)))

  -- the states after k blocks are equal before the changed block, and differ from it on
  pub changed_block : (k ≤ i → run H s (take k xs) ≡ run H s (take k ys)) × (i < k → run H s (take k xs) ≡ run H s (take k ys) → ⊥)
  changed_block = (λ l. ap (run H s) (same-before xs ys i d k l), differ-after)
