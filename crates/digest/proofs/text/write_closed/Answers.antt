-- `digest::text::write_closed` meets its contract: the line of the digest that was read, or of the refusal. Assumes
-- nothing.
use mathlib.Core.Path.{◌≡◌, refl, sym, ◌∙◌}
use mathlib.Core.List.{List}
use Prim.Native.Nat.{ℕ, ◌/◌, ◌≤◌}
use native.Mathlib.Omega.{arith}
use lib.ListN.{length, take, replicate}
use lib.Seq.{length-take-le}
use Rattle.standard.specs.Variants.{variant}
use Rattle.digest.proofs.LineLaws.{digest-short, read-line}
use Rattle.digest.specs.Answers.{closed_line}
use Rattle.digest.proofs.text.write_closed.Goals as goal

-- the digest of any variant fits 32 bytes
fits : (v n : ℕ) (bytes : List ℕ) → n ≡ (variant v).n / 8 → length bytes ≡ 32 → (n ≤ length bytes) × (length (take n bytes) ≡ n) × (n ≤ 32)
fits v n bytes e l = let h : n ≤ length bytes = omega (arith, digest-short v) in (h, length-take-le n bytes h, omega arith)

pub slice_bounds-digest-end-in-Ok : goal.slice_bounds-digest-end-in-Ok
slice_bounds-digest-end-in-Ok c = (fits _ _ c.digest.new.out c.digest_bytes.ensures (omega arith)).0

pub slice_bounds-write_digest-end : goal.slice_bounds-write_digest-end
slice_bounds-write_digest-end c = sym (fits _ _ c.digest.new.out c.digest_bytes.ensures (omega arith)).1

pub write_digest-requires : goal.write_digest-requires
write_digest-requires c =
    let f = fits _ _ c.digest.new.out c.digest_bytes.ensures (omega arith) in
    (omega (arith, f.1, f.2), omega arith)

pub returns-in-Ok : goal.returns-in-Ok
unfolding closed_line
returns-in-Ok c =
    let k = c.finish.result.hasher in
    let line = read-line k (replicate 32 0) refl (sym c.digest.ensures.0 ∙ c.in-Ok.is) in
    rw (← c.finish.ensures, ← line, ← c.digest.ensures.1, ← c.digest_bytes.ensures) (record { out_after = c.write_digest.ensures.out_after; value = c.write_digest.ensures.value })
