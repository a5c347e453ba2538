-- `front` writes two bytes: no variant gives out more bits at once.
-- Assumes nothing.
use Rattle.spongent.proofs.WordStates.{state-front}
use Rattle.spongent.proofs.words.front.Goals as goal

pub returns : goal.returns
returns c = state-front c.args.v c.requires.0 c.requires.1 c.args.w.now c.first_bytes.result c.first_bytes.ensures
