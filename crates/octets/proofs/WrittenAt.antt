-- Bytes written over a part of an output: two slices, one after the other, are written together, whichever comes first.
-- Assumes nothing.
use mathlib.Core.Path.{◌≡◌, sym, ap, ◌∙◌}
use mathlib.Core.List.{List, [], ◌∷◌, ◌++◌, append_assoc, append-nil}
use Prim.Native.Nat.{ℕ, ◌+◌, ◌≤◌, ◌<◌}
use native.Mathlib.Nat.{add-zero}
use native.Mathlib.Numerals.{add-one}
use native.Mathlib.Omega.{arith}
use lib.ListN.{length, take, drop, get_or, set, length-append, length-drop, take-append-drop}
use lib.Seq.{length-take-le, take-append-le, take-take, take_at, drop_at, drop-append-add, drop-drop, set_split, append_snoc, take-suc}
use Rattle.octets.specs.Slices.{written_at}

-- what is written, with what stays before it
length_front : (at : ℕ) (bytes out : List ℕ) → at ≤ length out → length (take at out ++ bytes) ≡ at + length bytes
length_front at bytes out h = rw (length-append, length-take-le at out h)

pub length-written_at : (at : ℕ) (bytes out : List ℕ) → at + length bytes ≤ length out → length (written_at at bytes out) ≡ length out
unfolding written_at
length-written_at at bytes out h =
    rw (length-append (take at out ++ bytes), length_front at bytes out (omega arith), length-drop) (omega arith)

pub written_at-none : (at : ℕ) (out : List ℕ) → written_at at [] out ≡ out
unfolding written_at
written_at-none at out = rw (append-nil, add-zero, take-append-drop)

-- one byte
pub set-written : (at : ℕ) (b : ℕ) (out : List ℕ) → at < length out → set out at b ≡ written_at at (b ∷ []) out
unfolding written_at
set-written at b out h = rw (add-one, append_snoc) (set_split out at b h)

-- more bytes after those that were written
pub written_at-after : (at : ℕ) (xs ys out : List ℕ) → at + length xs ≤ length out
    → written_at (at + length xs) ys (written_at at xs out) ≡ written_at at (xs ++ ys) out
unfolding written_at
written_at-after at xs ys out h =
    let front = take at out ++ xs in
    let n : length front ≡ at + length xs = length_front at xs out (omega arith) in
    let rest = drop (at + length xs) out in
    let sum : at + length xs + length ys ≡ at + (length xs + length ys) = omega arith in
    let kept : drop (at + length xs + length ys) (front ++ rest) ≡ drop (at + length xs + length ys) out =
    ap (λ (k : ℕ). drop (k + length ys) (front ++ rest)) (sym n) ∙ drop-append-add front rest (length ys) ∙ drop-drop (length ys) (at + length xs) out in
    rw (take_at front rest (at + length xs) n, kept, length-append xs ys, sum, append_assoc (take at out) xs ys)

-- bytes before those that were written
pub written_at-before : (at : ℕ) (xs ys out : List ℕ) → at + length xs ≤ length out
    → written_at at xs (written_at (at + length xs) ys out) ≡ written_at at (xs ++ ys) out
unfolding written_at
written_at-before at xs ys out h =
    let p = at + length xs in
    let rest = drop (p + length ys) out in
    let first : take at (take p out ++ ys ++ rest) ≡ take at out =
    rw (append_assoc (take p out) ys rest, take-append-le at (take p out) (ys ++ rest) (rw (length-take-le p out h) (omega arith)), take-take at p out (omega arith)) in
    let behind : drop p (take p out ++ ys ++ rest) ≡ ys ++ rest =
    rw (append_assoc (take p out) ys rest, drop_at (take p out) (ys ++ rest) p (length-take-le p out h)) in
    let e : at + (length xs + length ys) ≡ p + length ys = omega arith in
    rw (first, behind, length-append xs ys, e) (sym (append_assoc (take at out ++ xs) ys rest) ∙ ap (λ (l : List ℕ). l ++ rest) (append_assoc (take at out) xs ys))

-- one byte after them, and the next of a row of bytes
pub one-after : (at : ℕ) (xs out : List ℕ) (x p : ℕ) → p ≡ at + length xs → p < length out
    → set (written_at at xs out) p x ≡ written_at at (xs ++ x ∷ []) out
one-after at xs out x p e h =
    set-written p x (written_at at xs out) (omega (arith, length-written_at at xs out (omega arith)))
    ∙ rw e (written_at-after at xs (x ∷ []) out (omega arith))

pub byte-after : (at : ℕ) (bytes out : List ℕ) (i : ℕ) → i < length bytes → at + length bytes ≤ length out
    → set (written_at at (take i bytes) out) (at + i) (get_or bytes i 0) ≡ written_at at (take (i + 1) bytes) out
byte-after at bytes out i hi h =
    rw (add-one, take-suc bytes i 0)
    (one-after at (take i bytes) out (get_or bytes i 0) (at + i) (omega (arith, length-take-le i bytes (omega arith))) (omega arith))

-- one byte before them
pub byte-before : (at b : ℕ) (bytes out : List ℕ) → at + 1 + length bytes ≤ length out
    → set (written_at (at + 1) bytes out) at b ≡ written_at at (b ∷ bytes) out
byte-before at b bytes out h =
    set-written at b (written_at (at + 1) bytes out) (omega (arith, length-written_at (at + 1) bytes out h))
    ∙ written_at-before at (b ∷ []) bytes out (omega arith)
