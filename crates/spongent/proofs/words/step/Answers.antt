-- `step` takes a block in: it is xored into the front of the state, and the rounds of the variant follow.
-- Assumes nothing.
use Rattle.spongent.proofs.WordStates.{stepped}
use Rattle.spongent.proofs.words.step.Goals as goal

pub returns : goal.returns
returns c =
    let a = c.args in
    stepped a.v c.requires.le_v.0 c.requires.le_v.1 a.bytes.now a.m c.requires.le_v.3 a.w.now _ _ c.xor_block.ensures c.permute.ensures
