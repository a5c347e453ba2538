-- `first_bytes` writes the first n bytes of the words. The loop's invariant: the first i, with zeros after them.
-- Assumes nothing.
use mathlib.Core.Path.{sym, ap₂, ◌∙◌}
use mathlib.Core.List.{List}
use Prim.Native.Nat.{ℕ}
use native.Mathlib.Omega.{arith}
use lib.ListN.{set}
use Rattle.spongent.specs.Words.{bytes_in}
use Rattle.spongent.proofs.WordLaws.{bytes_in-at, front-more, length-bytes_in}
use Rattle.spongent.proofs.words.first_bytes.Goals as goal

pub loop-i-preserved : goal.loop-i-preserved
loop-i-preserved c =
    let l = c.loop-i in
    let w : List ℕ = c.args.w.now in
    ap₂ (λ (s : List ℕ) (x : ℕ). set s l.i x) l.invariant (c.byte_of.ensures ∙ sym (bytes_in-at w l.i (omega arith)))
    ∙ front-more (bytes_in w) 36 l.i (omega arith) (omega (arith, length-bytes_in w))
