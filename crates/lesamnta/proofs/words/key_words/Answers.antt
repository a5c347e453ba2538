-- `key_words` reads two words and cuts them into halves.
-- Assumes nothing.
use mathlib.Core.Path.{sym, ap, ◌∙◌}
use mathlib.Core.List.{List}
use Prim.Native.Nat.{ℕ}
use native.Mathlib.Omega.{arith}
use Rattle.standard.specs.Bits.{high_first, bits_in}
use Rattle.standard.specs.Lesamnta.{four_words}
use Rattle.standard.proofs.BitLaws.{length-bits_in}
use Rattle.lesamnta.proofs.WordLaws.{two-words, words-front}
use Rattle.lesamnta.proofs.words.key_words.Goals as goal

pub returns : goal.returns
returns c =
    let key : List ℕ = c.args.key.now in
    c.halves.ensures
    ∙ ap (four_words 32) (two-words (bits_in high_first key) _ _ (omega (arith, length-bits_in high_first key, c.requires)) c.u64_at.ensures c.u64_at-2.ensures)
    ∙ sym (words-front 32 (bits_in high_first key) (omega (arith, length-bits_in high_first key, c.requires)))
