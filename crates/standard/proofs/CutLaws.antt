-- Bits cut into pieces of equal width, and pieces joined again: lengths, the piece at an index, and each the other's inverse.
-- Assumes nothing.
use mathlib.Core.Path.{◌≡◌, refl, sym, ap, ◌∙◌}
use mathlib.Core.Bool.{Bool}
use mathlib.Core.List.{List, [], ◌∷◌, ◌++◌, map, flat_map, append_assoc}
use Prim.Native.Nat.{ℕ, zero, suc, ◌+◌, ◌*◌, ◌≤◌, ◌<◌, suc-le-suc}
use native.Mathlib.Nat.{not-suc-le-zero, le_of_suc-le-suc, zero-lt-suc, zero-mul, zero-add, suc-mul, suc-add, mul-zero, mul-suc, mul-le-mul_right}
use native.Mathlib.Omega.{arith}
use lib.ListN.{length, get_or, take, drop, length-append, length-drop, take-append-drop}
use lib.Seq.{take-add, take-take, take-append-le, drop-append-le, take_at, drop_at, drop-drop, length-take-le}
use Rattle.standard.specs.Bits.{cut}
use Rattle.standard.proofs.Undo.{map-undo}

-- ---- the pieces

pub length_cut : (w n : ℕ) (bs : List Bool) → length (cut w n bs) ≡ n
unfolding cut
length_cut w zero bs = refl
length_cut w (suc n) bs = ap suc (length_cut w n (drop w bs))

pub cut_at : (w n : ℕ) (bs : List Bool) (k : ℕ) → k < n → get_or (cut w n bs) k [] ≡ take w (drop (k * w) bs)
unfolding cut
cut_at w zero bs k h = absurd (not-suc-le-zero h)
cut_at w (suc n) bs zero h = rw zero-mul
cut_at w (suc n) bs (suc k) h =
    let e : w + k * w ≡ suc k * w = omega (arith, suc-mul k w) in
    rw (cut_at w n (drop w bs) k (le_of_suc-le-suc h), drop-drop, e)

-- the first k pieces end where the piece k begins
pub cut_fits : (w n k m : ℕ) → k < n → n * w ≤ m → k * w + w ≤ m
cut_fits w n k m h l = omega (arith, mul-le-mul_right {m = suc k} {n = n} w h, suc-mul k w)

pub cut-add : (w m n : ℕ) (bs : List Bool) → cut w (m + n) bs ≡ cut w m bs ++ cut w n (drop (m * w) bs)
unfolding cut
cut-add w zero n bs = rw (zero-add, zero-mul)
cut-add w (suc m) n bs =
    let e : w + m * w ≡ suc m * w = omega (arith, suc-mul m w) in
    rw (suc-add, cut-add w m n (drop w bs), drop-drop, e)

-- bits behind the last piece are not looked at
pub cut-append : (w n : ℕ) (bs more : List Bool) → n * w ≤ length bs → cut w n (bs ++ more) ≡ cut w n bs
unfolding cut
cut-append w zero bs more h = refl
cut-append w (suc n) bs more h =
    let fits : w ≤ length bs = omega (arith, suc-mul n w) in
    rw (take-append-le, drop-append-le, cut-append w n (drop w bs) more (omega (arith, suc-mul n w, length-drop w bs)))

-- ---- pieces joined

pub cut-join : (w n : ℕ) (bs : List Bool) → flat_map (λ b. b) (cut w n bs) ≡ take (w * n) bs
unfolding cut flat_map
cut-join w zero bs = rw mul-zero
cut-join w (suc n) bs =
    let e : w * suc n ≡ w + w * n = omega (arith, mul-suc w n) in
    rw (cut-join w n (drop w bs), e, take-add)

-- a function that changes no piece of width w
pub flat_map-cut : (w : ℕ) (f : List Bool → List Bool) → ((r : List Bool) → length r ≡ w → f r ≡ r)
    → (n : ℕ) (bs : List Bool) → length bs ≡ n * w → flat_map f (cut w n bs) ≡ bs
unfolding cut flat_map
flat_map-cut w f h zero [] e = refl
flat_map-cut w f h zero (b ∷ bs) e = absurd (omega (arith, zero-mul w))
flat_map-cut w f h (suc n) bs e =
    let first : length (take w bs) ≡ w = length-take-le w bs (omega (arith, suc-mul n w)) in
    rw (h (take w bs), flat_map-cut w f h n (drop w bs) (omega (arith, suc-mul n w, length-drop w bs)), take-append-drop)

pub flat_map-map : {A B : Type 0} (g : A → B) (f : B → List Bool) (xs : List A) → flat_map f (map g xs) ≡ flat_map (λ x. f (g x)) xs
unfolding flat_map
flat_map-map g f [] = refl
flat_map-map g f (x ∷ xs) = ap (λ (l : List Bool). f (g x) ++ l) (flat_map-map g f xs)

-- each element as w bits
module _ {A : Type 0} (w : ℕ) (f : A → List Bool) (z : A) where
  pub length-flat_map : (xs : List A) → ((k : ℕ) → k < length xs → length (f (get_or xs k z)) ≡ w) → length (flat_map f xs) ≡ length xs * w
  unfolding flat_map
  length-flat_map [] h = sym (zero-mul w)
  length-flat_map (x ∷ xs) h =
      length-append (f x) (flat_map f xs)
      ∙ omega (arith, h 0 (zero-lt-suc (length xs)), length-flat_map xs (λ k l. h (suc k) (suc-le-suc l)), suc-mul (length xs) w)

  pub cut-flat_map : (xs : List A) → ((k : ℕ) → k < length xs → length (f (get_or xs k z)) ≡ w) → cut w (length xs) (flat_map f xs) ≡ map f xs
  unfolding cut flat_map
  cut-flat_map [] h = refl
  cut-flat_map (x ∷ xs) h =
      let e : length (f x) ≡ w = h 0 (zero-lt-suc (length xs)) in
      rw (take_at, drop_at, cut-flat_map xs (λ k l. h (suc k) (suc-le-suc l)))

  -- and read back from them
  pub map-cut : (f' : List Bool → A) (n : ℕ) (xs : List A) → length xs ≡ n → ((k : ℕ) → k < n → length (f (get_or xs k z)) ≡ w)
      → ((k : ℕ) → k < n → f' (f (get_or xs k z)) ≡ get_or xs k z) → map f' (cut w n (flat_map f xs)) ≡ xs
  map-cut f' n xs e h u = rw (← e, cut-flat_map xs (rw (← e) at h), map-undo f f' z xs (rw (← e) at u))

-- a piece of the front of a list
pub take-drop-take : {A : Type 0} (a w n : ℕ) (bs : List A) → a + w ≤ n → take w (drop a (take n bs)) ≡ take w (drop a bs)
take-drop-take zero w n bs h = take-take w n bs (omega arith)
take-drop-take (suc a) w zero bs h = absurd (omega arith)
take-drop-take (suc a) w (suc n) [] h = refl
take-drop-take (suc a) w (suc n) (b ∷ bs) h = take-drop-take a w n bs (omega arith)

-- a sum of two lists
pub flat_map-append : {A B : Type 0} (f : A → List B) (xs ys : List A) → flat_map f (xs ++ ys) ≡ flat_map f xs ++ flat_map f ys
unfolding flat_map
flat_map-append f [] ys = refl
flat_map-append f (x ∷ xs) ys = rw (flat_map-append f xs ys, append_assoc)
