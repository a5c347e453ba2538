-- `words_of` puts the four words of a state before four zeros.
-- Assumes nothing.
use mathlib.Core.Path.{ap, ◌∙◌}
use mathlib.Core.List.{List}
use Prim.Native.Nat.{ℕ}
use native.Mathlib.Omega.{arith}
use Rattle.standard.specs.Bits.{high_first, bits_in, unpack}
use Rattle.standard.specs.Lesamnta.{bits_of_words}
use Rattle.standard.specs.Families.{state_in}
use Rattle.standard.specs.Variants.{variant}
use Rattle.standard.proofs.BitLaws.{length-bits_in}
use Rattle.standard.proofs.Tab.{tab-self}
use Rattle.lesamnta.specs.Words.{state_of_four}
use Rattle.lesamnta.proofs.WordLaws.{state-read}
use Rattle.lesamnta.proofs.words.words_of.Goals as goal

pub returns : goal.returns
unfolding state_of_four state_in unpack variant
returns c =
    let bytes : List ℕ = c.args.s.now in
    ap (bits_of_words 64) (tab-self 4 c.state_words-x.result 0 (omega arith))
    ∙ state-read (bits_in high_first bytes) c.state_words-x.result (omega (arith, length-bits_in high_first bytes)) c.state_words-x.ensures
