-- The line of a digest: its digits and the line end, one after the other; and the digest at the front of what a read
-- wrote.
-- Assumes nothing.
use mathlib.Core.Path.{◌≡◌, ap}
use mathlib.Core.List.{List, [], ◌∷◌}
use mathlib.Core.Logic.{⊎_elim}
use Prim.Native.Nat.{ℕ, ◌/◌, ◌≤◌}
use native.Mathlib.Omega.{arith}
use lib.ListN.{length, take, drop, get_or-eq_default}
use lib.Seq.{take_at}
use Rattle.standard.specs.Variants.{variant, variants, none}
use Rattle.standard.proofs.Tests.{lt-or-le}
use Rattle.standard.proofs.Variants.{bounds, known-true}
use Rattle.answers.specs.Refusals.{Done}
use Rattle.octets.proofs.LineLaws.{Wrote, wrote_on}
use Rattle.hasher.specs.declared.Hasher.{Hasher}
use Rattle.standard.specs.declared.Wanted.TheVariants.{Digest}
use Rattle.hasher.specs.Running.{variant_of, state_of}
use Rattle.hasher.specs.Reading.{read_status, read_into}
use Rattle.hasher.proofs.Calls.{result-length}
use Rattle.octets.specs.Text.{hex_of}
use Rattle.digest.specs.Answers.{digest_line, line_for, digest_in}

-- a digest has at most 32 bytes, for any number
pub digest-short : (v : ℕ) → (variant v).n / 8 ≤ 32
unfolding variant
digest-short v =
    ⊎_elim
    (λ l. let e : v ≡ 0 = omega arith in omega (arith, ap (λ (w : ℕ). (variant w).n) e))
    (λ l.
    ⊎_elim
    (λ h. omega (arith, (bounds v (known-true v l (omega arith))).digest-most))
    (λ h. omega (arith, ap (λ H. H.n) (get_or-eq_default variants none {n = v} h)))
    (lt-or-le v 12))
    (lt-or-le v 1)

-- the digits, and a line end after them
pub digest-written : (bytes out : List ℕ) {o₁ o₂ : List ℕ} {p₁ p₂ : ℕ} → p₁ ≤ length out
    → Wrote 0 (hex_of bytes) out o₁ p₁ → Wrote p₁ (10 ∷ []) o₁ o₂ p₂ → Wrote 0 (digest_line bytes) out o₂ p₂
unfolding digest_line
digest-written bytes out h w₁ w₂ = wrote_on 0 _ _ out h w₁ w₂

-- the digest stands at the front of what a read that is Done wrote
pub digest-read : (k : Hasher) (out : List ℕ) → length out ≡ 32 → read_status k Digest 32 ≡ Done
    → take ((variant_of k).n / 8) (read_into k Digest out) ≡ digest_in k
unfolding read_into
digest-read k out l d =
    rw (l, d)
    (take_at (digest_in k) (drop (length (digest_in k)) out) ((variant_of k).n / 8) (result-length (variant_of k) Digest (state_of k)))

-- and so its line is that of the digest
pub read-line : (k : Hasher) (out : List ℕ) → length out ≡ 32 → read_status k Digest 32 ≡ Done
    → digest_line (take ((variant_of k).n / 8) (read_into k Digest out)) ≡ line_for (read_status k Digest 32) (digest_in k)
read-line k out l d = rw (d, digest-read k out l d)
