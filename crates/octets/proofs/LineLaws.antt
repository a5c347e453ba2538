-- Lines: how long they are, and that writing their parts one after the other writes them.
-- Assumes nothing.
use mathlib.Core.Path.{◌≡◌}
use mathlib.Core.List.{List, [], ◌∷◌, ◌++◌}
use Prim.Native.Nat.{ℕ, ◌+◌, ◌≤◌, ◌<◌}
use native.Mathlib.Omega.{arith}
use lib.ListN.{length, length-append}
use Rattle.octets.specs.Text.{decimal, line_of}
use Rattle.octets.specs.Slices.{written_at}
use Rattle.octets.proofs.WrittenAt.{written_at-after}
use Rattle.octets.proofs.DecimalLaws.{decimal-short}

-- ---- lengths

-- a space and a line end beside the name and the digits
pub length-line_of : (name : List ℕ) (n : ℕ) → length (line_of name n) ≡ length name + 2 + length (decimal n)
unfolding line_of
length-line_of name n = simp length-append (omega arith)

-- a count of 32 bits has at most ten digits
pub line-short : (name : List ℕ) (n : ℕ) → n < 4294967296 → length (line_of name n) ≤ length name + 12
line-short name n h = omega (arith, length-line_of name n, decimal-short n h)

-- ---- one part after another

-- bytes were written from a place on, and q is the place after them
abbrev pub Wrote : ℕ → List ℕ → List ℕ → List ℕ → ℕ → Type 0
Wrote at bytes out after q = (after ≡ written_at at bytes out) × (q ≡ at + length bytes)

-- bytes after bytes
pub wrote_on : (at : ℕ) (xs ys out : List ℕ) {mid after : List ℕ} {p q : ℕ} → p ≤ length out
    → Wrote at xs out mid p → Wrote p ys mid after q → Wrote at (xs ++ ys) out after q
wrote_on at xs ys out h v w =
    (rw (w.0, v.0, v.1) (written_at-after at xs ys out (omega (arith, v.1))), omega (arith, w.1, v.1, length-append xs ys))

-- name, space, count and line end are a line
pub line-written : (at : ℕ) (name : List ℕ) (n : ℕ) (out : List ℕ) {o₁ o₂ o₃ o₄ : List ℕ} {p₁ p₂ p₃ p₄ : ℕ} → p₃ ≤ length out
    → Wrote at name out o₁ p₁ → Wrote p₁ (32 ∷ []) o₁ o₂ p₂ → Wrote p₂ (decimal n) o₂ o₃ p₃ → Wrote p₃ (10 ∷ []) o₃ o₄ p₄
    → Wrote at (line_of name n) out o₄ p₄
unfolding line_of
line-written at name n out h w₁ w₂ w₃ w₄ =
    let spaced = wrote_on at _ _ out (omega (arith, w₂.1, w₃.1)) w₁ w₂ in
    let counted = wrote_on at _ _ out (omega (arith, w₃.1)) spaced w₃ in
    wrote_on at _ _ out h counted w₄
