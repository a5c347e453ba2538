-- `chain::stretch::Stretch::block_at` meets its contract: the bytes passed are the packed ones, and those after them are zero. Assumes nothing.
use mathlib.Core.Path.{◌≡◌}
use lib.ListN.{get_or, replicate}
use Rattle.octets.proofs.Upto.{Upto}
use Rattle.standard.specs.Layout.{block_room, packed_block}
use Rattle.chain.specs.Blocks.{block_from, bytes_in}
use Rattle.chain.proofs.stretch.Stretch.block_at.Given as goal

abbrev pub invariant-loop-k : goal.invariant-loop-k
invariant-loop-k l = Upto 0 (λ i x. x ≡ get_or (packed_block (block_from l.self.held (bytes_in l.self) l.first l.q)) i 0) block_room l.k (replicate block_room 0) l.out
