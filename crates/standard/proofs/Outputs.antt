-- What is squeezed out of a state, block after block: each output block with the bits that are still wanted, and the permutation between them.
-- Assumes nothing.
use mathlib.Core.Path.{◌≡◌, sym, ap, ap₂, ◌∙◌}
use mathlib.Core.Bool.{Bool}
use mathlib.Core.List.{List, [], ◌∷◌, ◌++◌, flat_map, append-nil}
use mathlib.Core.Logic.{◌⊎◌, inl, inr, ⊎_elim}
use Prim.Native.Nat.{ℕ, zero, suc, ◌-◌, ◌%◌, ◌≤◌}
use native.Mathlib.Nat.{sub-zero}
use native.Mathlib.Omega.{arith}
use lib.ListN.{length, take}
use lib.Seq.{take_all, length-take-le}
use Rattle.standard.specs.Bits.{Order, high_first, turned}
use Rattle.standard.specs.Rounds.{iterate}
use Rattle.standard.specs.Grid.{tab}
use Rattle.standard.proofs.Turned.{length-turned, turned-take}

-- k output blocks of r bits with f between them, n bits in all; what the last has past that is cut
unfoldable pub outputs : (List Bool → List Bool) → ℕ → ℕ → ℕ → List Bool → List (List Bool)
outputs f r n zero s = []
outputs f r n (suc zero) s = take n (take r s) ∷ []
outputs f r n (suc (suc k)) s = take n (take r s) ∷ outputs f r (n - r) (suc k) (f s)

-- the first n of two parts
take-append-at : (n : ℕ) (x y : List Bool) → take n (x ++ y) ≡ take n x ++ take (n - length x) y
take-append-at zero x y = let none : 0 - length x ≡ 0 = omega arith in sym (ap (λ (m : ℕ). take m y) none)
take-append-at (suc n) [] y = sym (ap (λ (m : ℕ). take m y) (sub-zero (suc n)))
take-append-at (suc n) (b ∷ x) y =
    let less : suc n - length (b ∷ x) ≡ n - length x = omega arith in
    ap (λ (l : List Bool). b ∷ l) (take-append-at n x y ∙ sym (ap (λ (m : ℕ). take n x ++ take m y) less))

-- the first n bits of whole output blocks, in bytes of the order o, are these blocks
module _ (o : Order) (f : List Bool → List Bool) (r t : ℕ) (fits : r ≤ t) (keeps : (s : List Bool) → length s ≡ t → length (f s) ≡ t)
    (rate : (high_first ≡ o) ⊎ (r % 8 ≡ 0)) where
  pub outputs-are : (k n : ℕ) (s : List Bool) → length s ≡ t → (high_first ≡ o) ⊎ (n % 8 ≡ 0)
      → take n (flat_map (turned o) (tab k (λ i. take r (iterate i f s)))) ≡ flat_map (turned o) (outputs f r n k s)
  unfolding flat_map outputs
  outputs-are zero n s l w = take_all n [] (omega arith)
  outputs-are (suc zero) n s l w = rw (append-nil, append-nil) (turned-take o n (take r s) w)
  outputs-are (suc (suc k)) n s l w =
      let A : List Bool = turned o (take r s) in
      let size : length A ≡ r = length-turned o (take r s) ∙ length-take-le r s (omega arith) in
      let rest : (high_first ≡ o) ⊎ ((n - r) % 8 ≡ 0) = ⊎_elim inl (λ e. ⊎_elim inl (λ d. inr (omega arith)) rate) w in
      take-append-at n A (flat_map (turned o) (tab (suc k) (λ i. take r (iterate i f (f s)))))
      ∙ ap₂ (λ (x y : List Bool). x ++ y) (turned-take o n (take r s) w)
      (ap (λ (m : ℕ). take (n - m) (flat_map (turned o) (tab (suc k) (λ i. take r (iterate i f (f s)))))) size ∙ outputs-are (suc k) (n - r) (f s) (keeps s l) rest)
