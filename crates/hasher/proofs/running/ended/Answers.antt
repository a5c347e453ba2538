-- `hasher::running::ended` meets its contract: the held bits and the padding are the last blocks. Assumes nothing.
use mathlib.Core.Path.{◌≡◌, ap, ◌∙◌}
use mathlib.Core.List.{[], ◌∷◌}
use Prim.Native.Nat.{ℕ, ◌*◌, ◌/◌, ◌<◌}
use native.Mathlib.Omega.{arith}
use Rattle.standard.specs.Families.{state_in}
use Rattle.standard.specs.Chain.{run}
use Rattle.standard.specs.Layout.{packed_state}
use Rattle.chain.specs.Blocks.{held_then, first_blocks}
use Rattle.chain.specs.Padding.{data_blocks}
use Rattle.hasher.specs.Running.{variant_of}
use Rattle.hasher.proofs.Owned.{owned}
use Rattle.hasher.proofs.WellFormed.{facts, state-kept}
use Rattle.hasher.proofs.TakenBlocks.{held-few, marked-ready, end-taken}
use Rattle.hasher.proofs.running.ended.Goals.{After-held_count-c, After-run_blocks-padded}
use Rattle.hasher.proofs.running.ended.Goals as goal

-- few bits are held
few : (c : After-held_count-c) → c.held_count-c.result < 128
few c = held-few (owned c.args.h _ c.well_formed.0) c.requires c.held_count-c.ensures

-- the state after the blocks of the held bits and the 1 bit
run_is : (c : After-run_blocks-padded) → c.run_blocks-padded.result
    ≡ packed_state (variant_of c.args.h) (run (variant_of c.args.h) (state_in (variant_of c.args.h) c.args.h.state) (first_blocks (variant_of c.args.h).r (data_blocks (variant_of c.args.h) c.held_count-c.result) (held_then c.args.h.held (2 * (c.held_count-c.result / 8)) (c.last_byte-last.result ∷ []))))
run_is c =
    let h = c.args.h in
    c.run_blocks-padded.ensures
    ∙ ap (λ (n : ℕ). packed_state (variant_of h) (run (variant_of h) (state_in (variant_of h) h.state) (first_blocks (variant_of h).r n (held_then h.held (2 * (c.held_count-c.result / 8)) (c.last_byte-last.result ∷ []))))) c.data_blocks-count.ensures.0

pub held_count-c-requires : goal.held_count-c-requires
held_count-c-requires c = (facts c.args.h c.requires.0).named

pub last_byte-last-requires : goal.last_byte-last-requires
last_byte-last-requires c = few (goal.at.last_byte-last-requires c).After-held_count-c

pub data_blocks-count-requires : goal.data_blocks-count-requires
data_blocks-count-requires c = record { v_value = (facts c.args.h c.requires.0).named; bits_le_max_bits = omega (arith, few (goal.at.data_blocks-count-requires c).After-held_count-c) }

pub invariant_of-stretch : goal.invariant_of-stretch
invariant_of-stretch c = omega (arith, few (goal.at.invariant_of-stretch c).After-held_count-c)

pub run_blocks-padded-requires : goal.run_blocks-padded-requires
run_blocks-padded-requires c =
    let f = facts c.args.h c.requires.0 in
    record { v_value = f.named; holds = state-kept c.args.h f (owned c.args.h _ c.well_formed.0); count_bound = omega (arith, c.data_blocks-count.ensures.1, few (goal.at.run_blocks-padded-requires c).After-held_count-c) }

pub ended-requires : goal.ended-requires
ended-requires c =
    record { v_value = (facts c.args.h c.requires.0).named; holds = marked-ready (owned c.args.h _ c.well_formed.0) c.requires c.held_count-c.ensures c.last_byte-last.result c.last_byte-last.ensures c.run_blocks-padded.result [] (run_is (goal.at.ended-requires c).After-run_blocks-padded) }

pub returns : goal.returns
returns c =
    end-taken (owned c.args.h _ c.well_formed.0) c.requires c.held_count-c.ensures c.last_byte-last.result c.last_byte-last.ensures c.run_blocks-padded.result _ (run_is (goal.at.returns c).After-run_blocks-padded) c.ended.ensures
