-- `recover::Place::run_back` meets its contract: the blocks passed, from the last on, are taken back. Assumes nothing.
use mathlib.Core.Path.{◌≡◌, ap, ◌∙◌}
use Prim.Native.Nat.{ℕ, suc, ◌-◌, ◌*◌, ◌/◌, ◌^◌, ◌≤◌}
use native.Mathlib.Omega.{arith}
use lib.ListN.{length, drop}
use Rattle.standard.specs.Families.{state_in}
use Rattle.standard.specs.Chain.{blocks_of}
use Rattle.standard.specs.Variants.{variant}
use Rattle.standard.specs.Layout.{packed_state}
use Rattle.chain.specs.TakenBack.{unrun}
use Rattle.chain.specs.Blocks.{bits_after, bytes_in}
use Rattle.chain.specs.Splits.{message_held}
use Rattle.chain.proofs.BlockRuns.{few-halves, block-at-ready}
use Rattle.chain.proofs.States.{state-length}
use Rattle.recover.proofs.Runs.{count_held, few, place-low, back_start, back-ready, back_more}
use Rattle.recover.proofs.Place.run_back.Goals.{After-block_count-n, In-loop-j}
use Rattle.recover.proofs.Place.run_back.Goals as goal

-- how many blocks the message has, and how many half bytes each
many : (c : After-block_count-n) → c.block_count-n.result ≡ length (blocks_of (variant c.args.self.v) (message_held c.args.self.message))
many c = count_held c.args.self.v c.args.self.message c.block_count-n.ensures

quarter : (c : After-block_count-n) → c.block_bits.result / 4 ≡ (variant c.args.self.v).r / 4
quarter c = ap (λ (n : ℕ). n / 4) c.block_bits.ensures

end-long : (c : After-block_count-n) → length (state_in (variant c.args.self.v) c.args.end) ≡ (variant c.args.self.v).t
end-long c = state-length c.args.self.v c.args.self.named c.args.end (omega arith)

pub overflow_add-j-start : goal.overflow_add-j-start
overflow_add-j-start c = omega (arith, few c.args.self.v c.args.self.named c.args.self.message, c.requires.place_in_bounds)

pub loop-j-init : goal.loop-j-init
loop-j-init c =
    let a = c.args.self in
    let d = (goal.at.loop-j-init c).After-block_count-n in (
      omega (arith, many d, c.requires.place_in_bounds),
      c.requires.holds ∙ ap (packed_state (variant a.v)) (back_start a.v a.named a.message c.requires.sponge (state_in (variant a.v) c.args.end) (end-long d) _ (many d)),
    )

-- where a block begins, in half bytes
low : (c : In-loop-j) → (c.loop-j.j - 1) * (c.block_bits.result / 4) ≤ 2 ^ 40
low c =
    let a = c.args.self in
    let d = (goal.at.overflow_mul-j c).After-block_count-n in
    place-low a.v a.named a.message (c.block_bits.result / 4) (quarter d) _ (omega (arith, many d, c.loop-j.auto.j))

pub overflow_mul-j : goal.overflow_mul-j
overflow_mul-j c = omega (arith, low c)

pub block_at-requires : goal.block_at-requires
block_at-requires c =
    let a = c.args.self in
    (omega (arith, few-halves a.v a.named (c.block_bits.result / 4) (quarter (goal.at.block_at-requires c).After-block_count-n)), low (goal.at.block_at-requires c).In-loop-j)

pub unstepped-before-requires : goal.unstepped-before-requires
unstepped-before-requires c =
    let a = c.args.self in
    let d = (goal.at.unstepped-before-requires c).After-block_count-n in
    let m = c.of-stretch.result in
    record {
      v_value = (a.named, c.requires.sponge);
      holds = back-ready a.v a.named a.message c.requires.sponge (state_in (variant a.v) c.args.end) (end-long d) c.loop-j.j c.loop-j.s c.loop-j.invariant.1;
      holds_block = block-at-ready a.v a.named (c.block_bits.result / 4) (quarter d) c.block_at.result (bits_after m.held (bytes_in m)) _ c.block_at.ensures;
    }

pub loop-j-preserved : goal.loop-j-preserved
loop-j-preserved c =
    let a = c.args.self in
    let d = (goal.at.loop-j-preserved c).After-block_count-n in
    let l = c.loop-j in (
      omega (arith, c.loop-j-test.true),
      back_more a.v a.named a.message c.requires.sponge (state_in (variant a.v) c.args.end) (end-long d) (c.block_bits.result / 4) (quarter d) l.j (l.j - 1) (omega (arith, c.loop-j-test.true)) l.s c.block_at.result _ c.of-stretch.ensures
          (omega (arith, many d, l.auto.j, c.loop-j-test.true)) l.invariant.1 c.block_at.ensures c.unstepped-before.ensures,
    )

pub returns : goal.returns
returns c =
    let a = c.args.self in
    let all : c.loop-j.j ≡ suc a.index = omega (arith, c.loop-j.invariant.0, c.loop-j-test.false) in
    c.loop-j.invariant.1
    ∙ ap (λ (j : ℕ). packed_state (variant a.v) (unrun (variant a.v) (state_in (variant a.v) c.args.end) (drop j (blocks_of (variant a.v) (message_held a.message))))) all
