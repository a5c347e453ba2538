-- `chain::padding::block_count` meets its contract: the blocks of the 1 bit, and for what is no sponge one more. Assumes nothing.
use mathlib.Core.Path.{sym, ap, ◌∙◌}
use Prim.Native.Nat.{ℕ, ◌+◌}
use native.Mathlib.Omega.{arith}
use Rattle.chain.proofs.LastBlocks.{count-sponge, count-other}
use Rattle.chain.proofs.padding.block_count.Goals as goal

pub returns-then-is_sponge : goal.returns-then-is_sponge
returns-then-is_sponge c =
    let told = sym c.is_sponge.ensures ∙ c.if-is_sponge.true in
    c.data_blocks.ensures.0 ∙ sym (count-sponge c.args.v c.requires.v_value told c.args.bits)

pub overflow_add-result : goal.overflow_add-result
overflow_add-result c = omega (arith, c.data_blocks-2.ensures.1, c.requires.bits_le_max_bits)

pub returns : goal.returns
returns c =
    let told = sym c.is_sponge.ensures ∙ c.if-is_sponge.false in
    ap (λ (n : ℕ). n + 1) c.data_blocks-2.ensures.0 ∙ sym (count-other c.args.v c.requires.v_value told c.args.bits)
