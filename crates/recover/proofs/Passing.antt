-- Strings of bits that pass a test: none of n bits, or exactly one.
-- Assumes nothing.
use mathlib.Core.Path.{◌≡◌, refl, sym, ap, ap₂, ◌∙◌}
use mathlib.Core.Bool.{Bool, true, false, cond, xor}
use mathlib.Core.List.{List, [], ◌∷◌, ◌++◌, map}
use Prim.Native.Nat.{ℕ, zero, suc}
use native.Mathlib.Nat.{suc_inj, suc-ne-zero}
use native.Mathlib.Omega.{arith}
use lib.ListN.{length}
use Rattle.recover.specs.Leading.{same_bits, all_bits, passing}

pub same_refl : (b : List Bool) → same_bits b b ≡ true
unfolding xor
same_refl [] = refl
same_refl (true ∷ b) = same_refl b
same_refl (false ∷ b) = same_refl b

pub same-eq : (a b : List Bool) → same_bits a b ≡ true → a ≡ b
unfolding xor
same-eq [] [] e = refl
same-eq [] (y ∷ b) e = cc
same-eq (x ∷ a) [] e = cc
same-eq (true ∷ a) (true ∷ b) e = ap (λ (l : List Bool). true ∷ l) (same-eq a b e)
same-eq (true ∷ a) (false ∷ b) e = cc
same-eq (false ∷ a) (true ∷ b) e = cc
same-eq (false ∷ a) (false ∷ b) e = ap (λ (l : List Bool). false ∷ l) (same-eq a b e)

passing-append : (p : List Bool → Bool) (xs ys : List (List Bool)) → passing p (xs ++ ys) ≡ passing p xs ++ passing p ys
passing-append p [] ys = refl
passing-append p (x ∷ xs) ys = go (p x) (passing-append p xs ys)
  where
    go : (t : Bool) → passing p (xs ++ ys) ≡ passing p xs ++ passing p ys
        → cond t (x ∷ passing p (xs ++ ys)) (passing p (xs ++ ys)) ≡ cond t (x ∷ passing p xs) (passing p xs) ++ passing p ys
    go true e = ap (λ (l : List (List Bool)). x ∷ l) e
    go false e = e

passing-map : (p : List Bool → Bool) (f : List Bool → List Bool) (xs : List (List Bool)) → passing p (map f xs) ≡ map f (passing (λ b. p (f b)) xs)
passing-map p f [] = refl
passing-map p f (x ∷ xs) = go (p (f x)) (passing-map p f xs)
  where
    go : (t : Bool) → passing p (map f xs) ≡ map f (passing (λ b. p (f b)) xs)
        → cond t (f x ∷ passing p (map f xs)) (passing p (map f xs)) ≡ map f (cond t (x ∷ passing (λ b. p (f b)) xs) (passing (λ b. p (f b)) xs))
    go true e = ap (λ (l : List (List Bool)). f x ∷ l) e
    go false e = e

halves : (p : List Bool → Bool) (n : ℕ)
    → passing p (all_bits (suc n)) ≡ map (λ b. false ∷ b) (passing (λ b. p (false ∷ b)) (all_bits n)) ++ map (λ b. true ∷ b) (passing (λ b. p (true ∷ b)) (all_bits n))
halves p n =
    passing-append p (map (λ b. false ∷ b) (all_bits n)) (map (λ b. true ∷ b) (all_bits n))
    ∙ ap₂ (λ (x y : List (List Bool)). x ++ y) (passing-map p (λ b. false ∷ b) (all_bits n)) (passing-map p (λ b. true ∷ b) (all_bits n))

pub passing-none : (n : ℕ) (p : List Bool → Bool) → ((b : List Bool) → length b ≡ n → p b ≡ true → ⊥) → passing p (all_bits n) ≡ []
passing-none zero p h = go (p []) refl
  where
    go : (t : Bool) → p [] ≡ t → ◌≡◌ {A = List (List Bool)} (cond t ([] ∷ []) []) []
    go true e = absurd (h [] refl e)
    go false e = refl
passing-none (suc n) p h =
    halves p n
    ∙ ap₂ (λ (x y : List (List Bool)). map (λ b. false ∷ b) x ++ map (λ b. true ∷ b) y)
    (passing-none n (λ b. p (false ∷ b)) (λ b l. h (false ∷ b) (ap suc l)))
    (passing-none n (λ b. p (true ∷ b)) (λ b l. h (true ∷ b) (ap suc l)))

different : (x y : List Bool) → true ∷ x ≡ false ∷ y → ⊥
different x y e = let z : ◌≡◌ {A = Bool} true false = cc in let n : ◌≡◌ {A = ℕ} 0 1 = cc in omega arith

pub passing-one : (n : ℕ) (p : List Bool → Bool) (b : List Bool) → length b ≡ n → p b ≡ true
    → ((c : List Bool) → length c ≡ n → p c ≡ true → c ≡ b) → passing p (all_bits n) ≡ b ∷ []
passing-one zero p [] l e h = ap {B = List (List Bool)} (λ (t : Bool). cond t ([] ∷ []) []) e
passing-one zero p (x ∷ b) l e h = absurd (suc-ne-zero (length b) l)
passing-one (suc n) p [] l e h = absurd (suc-ne-zero n (sym l))
passing-one (suc n) p (false ∷ b) l e h =
    halves p n
    ∙ ap₂ (λ (x y : List (List Bool)). map (λ b. false ∷ b) x ++ map (λ b. true ∷ b) y)
    (passing-one n (λ c. p (false ∷ c)) b (suc_inj l) e (λ c k q. let z : false ∷ c ≡ false ∷ b = h (false ∷ c) (ap suc k) q in cc))
    (passing-none n (λ c. p (true ∷ c)) (λ c k q. different c b (h (true ∷ c) (ap suc k) q)))
passing-one (suc n) p (true ∷ b) l e h =
    halves p n
    ∙ ap₂ (λ (x y : List (List Bool)). map (λ b. false ∷ b) x ++ map (λ b. true ∷ b) y)
    (passing-none n (λ c. p (false ∷ c)) (λ c k q. different b c (sym (h (false ∷ c) (ap suc k) q))))
    (passing-one n (λ c. p (true ∷ c)) b (suc_inj l) e (λ c k q. let z : true ∷ c ≡ true ∷ b = h (true ∷ c) (ap suc k) q in cc))
