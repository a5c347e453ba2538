-- What holds of each element of a list; and steps that are undone, one or many, in either direction.
-- Assumes nothing.
use mathlib.Core.Path.{◌≡◌, refl, sym}
use mathlib.Core.List.{List, [], ◌∷◌, ◌++◌, map, foldl, foldl-append, reverse, reverse-cons, reverse-reverse}
use Prim.Native.Nat.{ℕ, zero, suc, ◌<◌, suc-le-suc}
use native.Mathlib.Nat.{not-suc-le-zero, le_of_suc-le-suc, zero-lt-suc}
use lib.ListN.{length, get_or}
use Rattle.standard.specs.Rounds.{opposite, in_turn, rounds, iterate}
use Rattle.standard.specs.declared.Direction.{Direction}
use Rattle.standard.specs.declared.Direction.TheVariants.{Forward, Backward}

module _ {A : Type 0} (P : A → Type 0) where
  abbrev pub All : List A → Type 0
  All [] = Unit {0}
  All (x ∷ xs) = P x × All xs

  pub all_append : (xs ys : List A) → All xs → All ys → All (xs ++ ys)
  all_append [] ys a b = b
  all_append (x ∷ xs) ys a b = (a.0, all_append xs ys a.1 b)

  pub all-at : (z : A) (xs : List A) → All xs → (k : ℕ) → k < length xs → P (get_or xs k z)
  all-at z [] a k h = absurd (not-suc-le-zero h)
  all-at z (x ∷ xs) a zero h = a.0
  all-at z (x ∷ xs) a (suc k) h = all-at z xs a.1 k (le_of_suc-le-suc h)

  pub all_of : (z : A) (xs : List A) → ((k : ℕ) → k < length xs → P (get_or xs k z)) → All xs
  all_of z [] h = tt
  all_of z (x ∷ xs) h = (h 0 (zero-lt-suc (length xs)), all_of z xs (λ k l. h (suc k) (suc-le-suc l)))

  pub all-reverse : (xs : List A) → All xs → All (reverse xs)
  all-reverse [] a = tt
  all-reverse (x ∷ xs) a = rw (reverse-cons x xs) (all_append (reverse xs) (x ∷ []) (all-reverse xs a.1) (a.0, tt))

module _ {A B : Type 0} where
  pub get_d_map : (f : A → B) (xs : List A) (k : ℕ) (y : B) (z : A) → k < length xs → get_or (map f xs) k y ≡ f (get_or xs k z)
  get_d_map f [] k y z h = absurd (not-suc-le-zero h)
  get_d_map f (x ∷ xs) zero y z h = refl
  get_d_map f (x ∷ xs) (suc k) y z h = get_d_map f xs k y z (le_of_suc-le-suc h)

  pub map-undo : (f : A → B) (f' : B → A) (z : A) (xs : List A) → ((k : ℕ) → k < length xs → f' (f (get_or xs k z)) ≡ get_or xs k z) → map f' (map f xs) ≡ xs
  map-undo f f' z [] h = refl
  map-undo f f' z (x ∷ xs) h = rw (h 0 (zero-lt-suc (length xs)), map-undo f f' z xs (λ k l. h (suc k) (suc-le-suc l)))

module _ {A : Type 0} where
  pub iterate-out : (f : A → A) (n : ℕ) (x : A) → iterate n f (f x) ≡ f (iterate n f x)
  iterate-out f zero x = refl
  iterate-out f (suc n) x = iterate-out f n (f x)

  -- f keeps P, and f' undoes it on P
  module _ (P : A → Type 0) (f : A → A) (keeps : (x : A) → P x → P (f x)) where
    pub iterate-keeps : (n : ℕ) (x : A) → P x → P (iterate n f x)
    iterate-keeps zero x p = p
    iterate-keeps (suc n) x p = iterate-keeps n (f x) (keeps x p)

    pub iterate-undo : (f' : A → A) → ((x : A) → P x → f' (f x) ≡ x) → (n : ℕ) (x : A) → P x → iterate n f' (iterate n f x) ≡ x
    iterate-undo f' undo zero x p = refl
    iterate-undo f' undo (suc n) x p = rw (iterate-out f n x, undo (iterate n f x) (iterate-keeps n x p)) (iterate-undo f' undo n x p)

  -- Rounds in either direction. Where each round keeps P and is undone by its opposite, so is the whole, over any constants that satisfy Q.
  module _ (P : A → Type 0) (Q : ℕ → Type 0) (f : Direction → A → ℕ → A)
      (keeps : (w : Direction) (x : A) (c : ℕ) → P x → Q c → P (f w x c))
      (undo : (w : Direction) (x : A) (c : ℕ) → P x → Q c → f (opposite w) (f w x c) c ≡ x) where
    foldl-keeps : (w : Direction) (cs : List ℕ) → All Q cs → (x : A) → P x → P (foldl (f w) x cs)
    foldl-keeps w [] q x p = p
    foldl-keeps w (c ∷ cs) q x p = foldl-keeps w cs q.1 (f w x c) (keeps w x c p q.0)

    foldl-undo : (w : Direction) (cs : List ℕ) → All Q cs → (x : A) → P x → foldl (f (opposite w)) (foldl (f w) x cs) (reverse cs) ≡ x
    foldl-undo w [] q x p = refl
    foldl-undo w (c ∷ cs) q x p =
        rw (reverse-cons c cs, foldl-append, foldl-undo w cs q.1 (f w x c) (keeps w x c p q.0)) (undo w x c p q.0)

    all-in_turn : (w : Direction) (cs : List ℕ) → All Q cs → All Q (in_turn w cs)
    all-in_turn Forward cs q = q
    all-in_turn Backward cs q = all-reverse Q cs q

    pub rounds-keep : (w : Direction) (cs : List ℕ) → All Q cs → (x : A) → P x → P (rounds f w cs x)
    unfolding rounds
    rounds-keep w cs q x p = foldl-keeps w (in_turn w cs) (all-in_turn w cs q) x p

    -- the opposite direction uses the constants in the reverse order
    in_turn-opposite : (w : Direction) (cs : List ℕ) → in_turn (opposite w) cs ≡ reverse (in_turn w cs)
    in_turn-opposite Forward cs = refl
    in_turn-opposite Backward cs = sym (reverse-reverse cs)

    pub rounds-undo : (w : Direction) (cs : List ℕ) → All Q cs → (x : A) → P x → rounds f (opposite w) cs (rounds f w cs x) ≡ x
    unfolding rounds
    rounds-undo w cs q x p = rw (in_turn-opposite w cs) (foldl-undo w (in_turn w cs) (all-in_turn w cs q) x p)
