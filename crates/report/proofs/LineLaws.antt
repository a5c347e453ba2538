-- Six lines, written one after the other from the front on, are the report's.
-- Assumes nothing.
use mathlib.Core.Path.{◌≡◌}
use mathlib.Core.List.{List}
use Prim.Native.Nat.{ℕ, ◌≤◌}
use native.Mathlib.Omega.{arith}
use lib.ListN.{length}
use Rattle.octets.specs.Slices.{written_at}
use Rattle.octets.specs.Text.{ascii, line_of}
use Rattle.octets.proofs.LineLaws.{Wrote, wrote_on}
use Rattle.manifest.specs.declared.report.Summary.{Summary}
use Rattle.report.specs.Lines.{lines_of}

pub lines-written : (s : Summary) (out : List ℕ) {o₁ o₂ o₃ o₄ o₅ o₆ : List ℕ} {p₁ p₂ p₃ p₄ p₅ p₆ : ℕ} → p₅ ≤ length out
    → Wrote 0 (line_of (ascii "listed") s.listed) out o₁ p₁ → Wrote p₁ (line_of (ascii "tables") s.tables) o₁ o₂ p₂
    → Wrote p₂ (line_of (ascii "equal") s.equal) o₂ o₃ p₃ → Wrote p₃ (line_of (ascii "unequal") s.unequal) o₃ o₄ p₄
    → Wrote p₄ (line_of (ascii "untold") s.untold) o₄ o₅ p₅ → Wrote p₅ (line_of (ascii "unlisted") s.unlisted) o₅ o₆ p₆
    → (o₆ ≡ written_at 0 (lines_of s) out) × (p₆ ≡ length (lines_of s))
unfolding lines_of
lines-written s out h w₁ w₂ w₃ w₄ w₅ w₆ =
    let two = wrote_on 0 _ _ out (omega (arith, w₂.1, w₃.1, w₄.1, w₅.1)) w₁ w₂ in
    let three = wrote_on 0 _ _ out (omega (arith, w₃.1, w₄.1, w₅.1)) two w₃ in
    let four = wrote_on 0 _ _ out (omega (arith, w₄.1, w₅.1)) three w₄ in
    let five = wrote_on 0 _ _ out (omega (arith, w₅.1)) four w₅ in
    let six = wrote_on 0 _ _ out h five w₆ in
    (six.0, omega (arith, six.1))
