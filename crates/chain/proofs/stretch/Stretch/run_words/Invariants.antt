-- `chain::stretch::Stretch::run_words` meets its contract: the blocks passed have run through the state. Assumes nothing.
use mathlib.Core.Path.{◌≡◌}
use Rattle.standard.specs.Variants.{variant}
use Rattle.chain.specs.Blocks.{after_blocks, bytes_in}
use Rattle.chain.specs.Words.{state_in_words}
use Rattle.chain.proofs.stretch.Stretch.run_words.Given as goal

abbrev pub invariant-loop-j : goal.invariant-loop-j
invariant-loop-j l = state_in_words (variant l.v) l.w ≡ after_blocks (variant l.v) (state_in_words (variant l.v) l.initial.w) l.self.held (bytes_in l.self) l.j
