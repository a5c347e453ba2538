-- `word_g` is G: the upper half goes through Q with the key, the lower half without, and R joins them.
-- Assumes nothing.
use mathlib.Core.Path.{sym, ap₂, ◌∙◌}
use Prim.Native.Nat.{ℕ}
use mathlib.Core.List.{◌++◌}
use Rattle.standard.specs.Lesamnta.{bytes_of, word_of, bytes_r, word_g}
use Rattle.lesamnta.proofs.CipherTableLaws.{lower-half}
use Rattle.lesamnta.proofs.words.word_g.Goals as goal

pub returns : goal.returns
unfolding word_g
returns c =
    let y : ℕ = c.args.y in
    c.word_r.ensures
    ∙ ap₂ (λ (a b : ℕ). word_of (bytes_r (bytes_of 4 a ++ bytes_of 4 b))) c.word_q.ensures.0 (c.word_q-2.ensures.0 ∙ sym (lower-half y))
