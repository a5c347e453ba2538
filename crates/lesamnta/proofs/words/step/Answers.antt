-- `step` is the block step of the chain, on the words in place.
-- Assumes nothing.
use Rattle.lesamnta.proofs.WordLaws.{block_room_lem, block-stepped}
use Rattle.lesamnta.proofs.words.step.Goals as goal

pub take_block-requires : goal.take_block-requires
take_block-requires c = record { at_in_bounds = block_room_lem c.args.m _ c.requires.variant_bound.0; cipher_table = c.requires.cipher_table }

pub returns : goal.returns
returns c = block-stepped c.args.bytes.now c.args.m c.requires.variant_bound.1 c.args.w.now c.take_block.new.w c.take_block.ensures
