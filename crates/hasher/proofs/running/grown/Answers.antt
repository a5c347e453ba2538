-- `hasher::running::grown` meets its contract: the whole blocks of the held bits and those that come, and what is left. Assumes nothing.
use mathlib.Core.Path.{◌≡◌}
use Prim.Native.Nat.{◌+◌, ◌*◌, ◌/◌, ◌%◌, ◌<◌}
use native.Mathlib.Omega.{arith}
use lib.ListN.{length}
use Rattle.hasher.proofs.Owned.{owned}
use Rattle.hasher.proofs.WellFormed.{facts, state-kept}
use Rattle.hasher.proofs.TakenBlocks.{Small, held-few, small, piece-taken}
use Rattle.hasher.proofs.running.grown.Goals.{After-held_count-c}
use Rattle.hasher.proofs.running.grown.Goals as goal

-- few bits are held
few : (c : After-held_count-c) → c.held_count-c.result < 128
few c = held-few (owned c.args.h _ c.well_formed.0) c.requires.fact c.held_count-c.ensures

-- the numbers that the blocks are counted with are small
counts : (c : After-held_count-c) → Small (c.held_count-c.result + (8 * length c.args.piece.now + c.args.k)) c.block_bits-r.result
counts c =
    small (owned c.args.h _ c.well_formed.0) c.requires.fact c.held_count-c.ensures c.requires.h_value.0 c.block_bits-r.ensures c.args.piece.now c.args.last c.args.k c.requires.h_value.1 c.requires.h_value.2

pub held_count-c-requires : goal.held_count-c-requires
held_count-c-requires c = (facts c.args.h c.requires.fact.0).named

pub overflow_add-count : goal.overflow_add-count
overflow_add-count c = omega (arith, few (goal.at.overflow_add-count c).After-held_count-c)

pub nonzero_div-count : goal.nonzero_div-count
nonzero_div-count c = (counts (goal.at.nonzero_div-count c).After-held_count-c).some

pub overflow_add-left : goal.overflow_add-left
overflow_add-left c = omega (arith, few (goal.at.overflow_add-left c).After-held_count-c)

pub nonzero_rem-left : goal.nonzero_rem-left
nonzero_rem-left c = (counts (goal.at.nonzero_rem-left c).After-held_count-c).some

pub invariant_of-stretch : goal.invariant_of-stretch
invariant_of-stretch c = omega (arith, few (goal.at.invariant_of-stretch c).After-held_count-c)

pub run_blocks-requires : goal.run_blocks-requires
run_blocks-requires c =
    let f = facts c.args.h c.requires.fact.0 in
    record { v_value = f.named; holds = state-kept c.args.h f (owned c.args.h _ c.well_formed.0); count_bound = omega (arith, (counts (goal.at.run_blocks-requires c).After-held_count-c).count) }

pub block_at-requires : goal.block_at-requires
block_at-requires c =
    let s = counts (goal.at.block_at-requires c).After-held_count-c in
    (omega (arith, s.left, c.div_ceil.ensures), omega (arith, s.place))

pub returns : goal.returns
returns c =
    let left : c.div_ceil.result ≡ ((c.held_count-c.result + (8 * length c.args.piece.now + c.args.k)) % c.block_bits-r.result + 3) / 4 = omega (arith, c.div_ceil.ensures) in
    piece-taken (owned c.args.h _ c.well_formed.0) c.requires.fact c.held_count-c.ensures c.requires.h_value.0 c.block_bits-r.ensures c.args.piece.now c.args.last c.args.k
    c.requires.h_value.1 c.requires.last_value _ _ c.run_blocks.ensures (rw (← left) c.block_at.ensures)
