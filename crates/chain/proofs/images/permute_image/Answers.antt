-- `chain::images::permute_image` meets its contract: the checks in order, and then the permuted state's image. Assumes nothing.
use mathlib.Core.Path.{sym, ◌∙◌}
use native.Mathlib.Omega.{arith}
use Rattle.standard.proofs.Variants.{known-high}
use Rattle.chain.proofs.ImageLaws.{left-unknown, left_other, left-bad, left-permuted}
use Rattle.chain.proofs.images.permute_image.Goals as goal

pub returns-then-not-is_known : goal.returns-then-not-is_known
returns-then-not-is_known c =
    let a = c.args in
    left-unknown a.variant a.way a.image.now (sym c.is_known.ensures ∙ c.if-not-is_known.true)

pub overflow_cast-v : goal.overflow_cast-v
overflow_cast-v c =
    omega (arith, known-high c.args.variant (sym c.is_known.ensures ∙ c.if-not-is_known.false))

pub returns-then-not-is_sponge : goal.returns-then-not-is_sponge
returns-then-not-is_sponge c =
    let a = c.args in
    left_other a.variant a.way a.image.now
    (sym c.is_known.ensures ∙ c.if-not-is_known.false) (sym c.is_sponge.ensures ∙ c.if-not-is_sponge.true)

pub is_image-requires : goal.is_image-requires
is_image-requires c = sym c.is_known.ensures ∙ c.if-not-is_known.false

pub returns-then-not-is_image : goal.returns-then-not-is_image
returns-then-not-is_image c =
    let a = c.args in
    left-bad a.variant a.way a.image.now (sym c.is_known.ensures ∙ c.if-not-is_known.false) (sym c.is_sponge.ensures ∙ c.if-not-is_sponge.false) (sym c.is_image.ensures ∙ c.if-not-is_image.true)

pub permute_state-requires : goal.permute_state-requires
permute_state-requires c = record { v_value = (sym c.is_known.ensures ∙ c.if-not-is_known.false, sym c.is_sponge.ensures ∙ c.if-not-is_sponge.false); image_value = sym c.is_image.ensures ∙ c.if-not-is_image.false }

pub returns : goal.returns
returns c =
    let a = c.args in
    let done = left-permuted a.variant a.way a.image.now (sym c.is_known.ensures ∙ c.if-not-is_known.false) (sym c.is_sponge.ensures ∙ c.if-not-is_sponge.false) (sym c.is_image.ensures ∙ c.if-not-is_image.false) in
    (done.0, c.permute_state.ensures ∙ done.1)
