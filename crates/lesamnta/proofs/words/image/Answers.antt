-- `image` writes the four words of the state, with zeros after them.
-- Assumes nothing.
use mathlib.Core.Path.{sym, ◌∙◌}
use native.Mathlib.Omega.{arith}
use Rattle.standard.specs.Bits.{high_first}
use Rattle.standard.specs.Variants.{variant}
use Rattle.standard.proofs.BitLaws.{pack-whole}
use Rattle.standard.proofs.LesamntaLaws.{bits-length}
use Rattle.lesamnta.specs.Words.{state_of_four}
use Rattle.lesamnta.proofs.words.image.Goals as goal

pub returns : goal.returns
unfolding state_of_four variant
returns c = c.put_state.ensures ∙ sym (pack-whole high_first 32 36 _ (omega arith) (bits-length 64 _))
