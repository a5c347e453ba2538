-- `word_r` exchanges the upper halves of two words.
-- Assumes nothing.
use Rattle.lesamnta.proofs.CipherTableLaws.{crossed}
use Rattle.lesamnta.proofs.words.word_r.Goals as goal

pub returns : goal.returns
returns c = crossed c.args.a c.args.b c.requires.0 c.requires.1
