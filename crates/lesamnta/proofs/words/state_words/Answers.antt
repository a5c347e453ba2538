-- `state_words` reads four words.
-- Assumes nothing.
use Rattle.standard.specs.Bits.{high_first, bits_in}
use Rattle.lesamnta.proofs.WordLaws.{words-read}
use Rattle.lesamnta.proofs.words.state_words.Goals as goal

pub returns : goal.returns
returns c = words-read (bits_in high_first c.args.bytes.now) _ _ _ _ c.u64_at.ensures c.u64_at-2.ensures c.u64_at-3.ensures c.u64_at-4.ensures
