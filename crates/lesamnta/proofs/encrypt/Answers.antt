-- `encrypt` is the cipher.
-- Assumes nothing.
use mathlib.Core.Path.{ap, ◌∙◌}
use mathlib.Core.List.{append-nil}
use Rattle.standard.specs.Bits.{high_first, bits_in, pack}
use Rattle.standard.specs.declared.Direction.TheVariants.{Forward}
use Rattle.lesamnta.proofs.WordLaws.{cipher-is}
use Rattle.lesamnta.specs.Cipher.{ciphered}
use Rattle.lesamnta.proofs.encrypt.Goals as goal

pub returns : goal.returns
unfolding ciphered
returns c = c.put_state.ensures
    ∙ append-nil _
    ∙ ap (pack high_first 32)
    (cipher-is Forward (bits_in high_first c.args.key) (bits_in high_first c.args.state) _ _ _ c.key_words.ensures c.state_words.ensures c.enciphered-x.ensures)
