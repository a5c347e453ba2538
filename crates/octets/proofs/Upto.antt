-- A loop that replaces the elements of a list from the front: after i turns the first i satisfy P, and the others are
-- as they were.
-- Assumes nothing.
use mathlib.Core.Path.{◌≡◌, refl, sym, ◌∙◌, subst}
use mathlib.Core.List.{List}
use mathlib.Core.Logic.{⊎_elim}
use Prim.Native.Nat.{ℕ, ◌+◌, ◌≤◌, ◌<◌}
use native.Mathlib.Nat.{not-suc-le-zero, le_of_suc-le-suc, eq-or-lt_of_le}
use native.Mathlib.Numerals.{add-one}
use native.Mathlib.Omega.{arith}
use lib.ListN.{length, get_or, set, length-set}
use lib.Seq.{get_or-set_same, get_or-set_other}

pub record Upto {A : Type 0} (z : A) (P : ℕ → A → Type 0) (n i : ℕ) (xs ys : List A) : Type 0 where
  pub len : length ys ≡ n
  pub done : (k : ℕ) → k < i → P k (get_or ys k z)
  pub rest : (k : ℕ) → i ≤ k → get_or ys k z ≡ get_or xs k z

module _ {A : Type 0} {z : A} {P : ℕ → A → Type 0} {n : ℕ} where
  pub upto-none : (xs : List A) → length xs ≡ n → Upto z P n 0 xs xs
  upto-none xs e = record { len = e; done = λ k l. absurd (not-suc-le-zero l); rest = λ k l. refl }

  pub upto-more : (i : ℕ) (xs ys : List A) (y : A) → i < n → P i y → Upto z P n i xs ys → Upto z P n (i + 1) xs (set ys i y)
  upto-more i xs ys y h p u =
      record {
        len = length-set ys i y ∙ u.len;
        done = λ k l.
            ⊎_elim
            (λ e. subst (λ (m : ℕ). P m (get_or (set ys i y) m z)) (sym e) (subst (P i) (sym (get_or-set_same ys i y z (omega (arith, u.len)))) p))
            (λ lt. subst (P k) (sym (get_or-set_other ys i k y z (λ e. omega arith))) (u.done k lt))
            (eq-or-lt_of_le (le_of_suc-le-suc (subst (λ (m : ℕ). k < m) (add-one i) l)));
        rest = λ k l. get_or-set_other ys i k y z (λ e. omega arith) ∙ u.rest k (omega arith);
      }
