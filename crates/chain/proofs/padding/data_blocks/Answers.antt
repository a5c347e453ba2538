-- `chain::padding::data_blocks` meets its contract. Assumes nothing.
use mathlib.Core.Path.{◌≡◌, sym, ap, ◌∙◌}
use mathlib.Core.Bool.{Bool, cond}
use Prim.Native.Nat.{ℕ, ◌+◌, ◌/◌}
use native.Mathlib.Nat.{div-le_self}
use native.Mathlib.Omega.{arith}
use Rattle.standard.specs.Variants.{variant}
use Rattle.standard.proofs.Variants.{bounds}
use Rattle.chain.proofs.padding.data_blocks.Goals as goal

-- in the Then branch the number is a sponge's
pub nonzero_div-result : goal.nonzero_div-result
nonzero_div-result c = omega (arith, c.block_bits.ensures, (bounds c.args.v c.requires.v_value).rate-least)

pub overflow_add-result : goal.overflow_add-result
overflow_add-result c = omega (arith, div-le_self c.args.bits c.block_bits.result, c.requires.bits_le_max_bits)

pub returns-then-is_sponge : goal.returns-then-is_sponge
returns-then-is_sponge c =
    let v = c.args.v in
    let n : ℕ = c.args.bits in
    let told = sym c.is_sponge.ensures ∙ c.if-is_sponge.true in (
      ap (λ (r : ℕ). n / r + 1) c.block_bits.ensures ∙ ap (λ (b : Bool). cond b (n / (variant v).r + 1) ((n + 127) / 128)) (sym told),
      omega (arith, div-le_self n c.block_bits.result),
    )

pub returns : goal.returns
returns c =
    let v = c.args.v in
    let n : ℕ = c.args.bits in
    let told = sym c.is_sponge.ensures ∙ c.if-is_sponge.false in
    let up : c.div_ceil.result ≡ (n + 127) / 128 = omega arith in
    (up ∙ ap (λ (b : Bool). cond b (n / (variant v).r + 1) ((n + 127) / 128)) (sym told), omega arith)
