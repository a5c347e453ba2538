-- The axes that a report awaits at its beginning, as the code makes them: an array whose elements a closure gives.
-- Assumes nothing.
use mathlib.Core.Path.{◌≡◌, sym, subst, ◌∙◌}
use mathlib.Core.List.{List}
use Prim.Native.Nat.{ℕ, zero, suc, ◌+◌, ◌<◌}
use native.Mathlib.Omega.{arith}
use lib.ListN.{get_or}
use denote.Param.Members.{Mut}
use Rattle.std.specs.Array.{IsFromFnResult, IsFromFnResultFrom}
use Rattle.std.specs.Fn.{Called}
use Rattle.standard.specs.Grid.{tab}
use Rattle.standard.proofs.Tab.{tab-self, tab-cong}

-- a closure that keeps what it captures, and whose answer at each number is h of it
module _ {F : Type 0} (g : Mut F (ℕ × Unit {0}) ℕ) (f : F) (h : ℕ → ℕ)
    (answers : (i : ℕ) (y : ℕ) (q : F) → Called g f (i, tt) y q → (q ≡ f) × (y ≡ h i)) where
  -- the n elements from i on
  made_from : (ys : List ℕ) (n i : ℕ) → IsFromFnResultFrom g f ys i n → (k : ℕ) (d : ℕ) → k < n → get_or ys (i + k) d ≡ h (i + k)
  made_from ys zero i made k d l = absurd (omega arith)
  made_from ys (suc n) i made zero d l =
      let same : i + 0 ≡ i = omega arith in
      let now = answers i made.1 made.0 made.3 in
      rw same (made.2.1 d ∙ now.1)
  made_from ys (suc n) i made (suc k) d l =
      let same : i + suc k ≡ i + 1 + k = omega arith in
      let now = answers i made.1 made.0 made.3 in
      rw same (made_from ys n (i + 1) (subst (λ (q : F). IsFromFnResultFrom g q ys (i + 1) n) now.0 made.4) k d (omega arith))

  -- the array is the table of h
  pub made-tab : (ys : List ℕ) (n : ℕ) → IsFromFnResult g f ys n → ys ≡ tab n h
  made-tab ys n made =
      sym (tab-self n ys 0 made.long)
      ∙ tab-cong n (λ k. get_or ys k 0) h
      (λ k l. let same : 0 + k ≡ k = omega arith in subst (λ (i : ℕ). get_or ys i 0 ≡ h i) same (made_from ys n 0 made.each k 0 l))
