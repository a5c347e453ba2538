-- The first table of a stream: it stands there whatever follows it, and a byte more of one that is cut short ends it or
-- leaves it cut short.
-- Assumes nothing.
use mathlib.Core.Path.{◌≡◌, refl, ap, ◌∙◌}
use mathlib.Core.Bool.{true, false}
use mathlib.Core.List.{List, [], ◌∷◌, ◌++◌}
use mathlib.Core.Logic.{⊎_elim}
use Prim.Native.Nat.{ℕ, zero, suc, ◌+◌, ◌≤◌, ◌<◌}
use native.Mathlib.Omega.{arith}
use lib.ListN.{length, take, drop, length-append, length-drop}
use lib.Seq.{take_all, take-append-le, drop-append-le, drop_at}
use borrow.Author.Tests.{leb-true, leb-false, le-leb}
use Rattle.octets.specs.Numbers.{big_endian}
use Rattle.standard.proofs.Tests.{lt-or-le}
use Rattle.manifest.specs.Tables.{axis_in, length_in, span_of, is_whole, first_table, tables_up_to}

-- ---- a whole table, and one that is cut short

pub whole_long : (s : List ℕ) → is_whole s ≡ true → span_of s ≤ length s
unfolding is_whole
whole_long s w = leb-true (span_of s) (length s) w

pub short-of-whole : (s : List ℕ) → is_whole s ≡ false → length s < span_of s
unfolding is_whole
short-of-whole s w = leb-false (span_of s) (length s) w

pub nothing-whole : is_whole [] ≡ false
unfolding is_whole length_in big_endian
nothing-whole = refl

-- a table cut short is none
pub none-whole : (n : ℕ) (s : List ℕ) → is_whole s ≡ false → tables_up_to n s ≡ []
none-whole zero s w = refl
none-whole (suc n) s w = rw w

-- one that ends with the stream has all that is after the header
pub contents-left : (s : List ℕ) → length s ≡ span_of s → (length (drop 6 s) ≡ length_in s) × ((first_table s).contents ≡ drop 6 s)
unfolding first_table
contents-left s e =
    let l : length (drop 6 s) ≡ length_in s = length-drop 6 s ∙ omega arith in
    (l, take_all (length_in s) (drop 6 s) (omega arith))

-- ---- more bytes after it

module _ (s x : List ℕ) where
  -- what the header says is the same
  axis-append : 2 ≤ length s → axis_in (s ++ x) ≡ axis_in s
  unfolding axis_in
  axis-append h = ap big_endian (take-append-le 2 s x h)

  length-in-append : 6 ≤ length s → length_in (s ++ x) ≡ length_in s
  unfolding length_in
  length-in-append h =
      ap big_endian (ap (take 4) (drop-append-le 2 s x (omega arith)) ∙ take-append-le 4 (drop 2 s) x (omega (arith, length-drop 2 s)))

  -- and so is the first table, and that it is whole
  first-append : is_whole s ≡ true → first_table (s ++ x) ≡ first_table s
  unfolding first_table
  first-append w =
      let l : span_of s ≤ length s = whole_long s w in
      rw (axis-append (omega arith), length-in-append (omega arith), drop-append-le 6 s x (omega arith), take-append-le (length_in s) (drop 6 s) x (omega (arith, length-drop 6 s)))

  whole_append : is_whole s ≡ true → is_whole (s ++ x) ≡ true
  unfolding is_whole
  whole_append w =
      let l : span_of s ≤ length s = whole_long s w in
      le-leb (span_of (s ++ x)) (length (s ++ x)) (omega (arith, length-in-append (omega arith), length-append s x))

  -- a stream that begins with exactly one table
  pub tables_after : (n : ℕ) → is_whole s ≡ true → length s ≡ span_of s → tables_up_to (suc n) (s ++ x) ≡ first_table s ∷ tables_up_to n x
  tables_after n w e =
      let more : length s ≡ span_of (s ++ x) = omega (arith, length-in-append (omega arith)) in
      rw (whole_append w, first-append w, drop_at s x (span_of (s ++ x)) more)

-- the byte that ends a table is its last
pub ends-exactly : (s : List ℕ) (b : ℕ) → is_whole s ≡ false → is_whole (s ++ b ∷ []) ≡ true → length (s ++ b ∷ []) ≡ span_of (s ++ b ∷ [])
ends-exactly s b short whole =
    let one : length (s ++ b ∷ []) ≡ length s + 1 = length-append s (b ∷ []) in
    let l : span_of (s ++ b ∷ []) ≤ length (s ++ b ∷ []) = whole_long (s ++ b ∷ []) whole in
    ⊎_elim
    (λ (h : length s < 6). omega arith)
    (λ (h : 6 ≤ length s). omega (arith, short-of-whole s short, length-in-append s (b ∷ []) h))
    (lt-or-le (length s) 6)
