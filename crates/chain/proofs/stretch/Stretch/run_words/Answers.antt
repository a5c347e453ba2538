-- `chain::stretch::Stretch::run_words` meets its contract: the blocks passed have run through the state. Assumes nothing.
use mathlib.Core.Path.{◌≡◌}
use Prim.Native.Nat.{◌/◌}
use native.Mathlib.Omega.{arith}
use Rattle.chain.proofs.BlockRuns.{quarters, place-le, run-start, run_more}
use Rattle.chain.proofs.stretch.Stretch.run_words.Goals as goal

pub loop-j-init : goal.loop-j-init
loop-j-init c =
    run-start c.args.v c.requires.v_value.0 _ _

pub overflow_mul-j : goal.overflow_mul-j
overflow_mul-j c = omega (arith, place-le c.args.v c.requires.v_value.0 (c.block_bits.result / 4) (omega arith) c.loop-j.j (omega arith))

pub step_at-requires : goal.step_at-requires
step_at-requires c =
    let v = c.args.v in
    record { v_value = (c.requires.v_value.0, quarters v c.requires.v_value.0 _ (omega arith), place-le v c.requires.v_value.0 _ (omega arith) c.loop-j.j (omega arith)); table_of = c.requires.table_of }

pub loop-j-preserved : goal.loop-j-preserved
loop-j-preserved c =
    let l = c.loop-j in
    run_more c.args.v c.requires.v_value.0 _ _ _ (omega arith) l.j _ _ l.invariant c.step_at.ensures

pub returns : goal.returns
returns c =
    let e : c.loop-j.j ≡ c.args.count = omega arith in
    rw e at c.loop-j.invariant
