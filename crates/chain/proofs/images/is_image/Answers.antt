-- `chain::images::is_image` meets its contract: the length, then the spare bits. Assumes nothing.
use mathlib.Core.Path.{sym, ◌∙◌}
use Rattle.chain.proofs.ImageLaws.{not-length, by-spare}
use Rattle.chain.proofs.images.is_image.Goals as goal

pub returns-then-image-image_bytes : goal.returns-then-image-image_bytes
returns-then-image-image_bytes c = sym (not-length c.args.v c.requires c.args.image.now (λ e. c.if-image-image_bytes.true (e ∙ sym c.image_bytes.ensures)))

pub returns : goal.returns
returns c =
    let a = c.args in
    rw (c.clear_from.ensures, c.state_bits.ensures)
    (sym (by-spare a.v c.requires a.image.now (c.if-image-image_bytes.false ∙ c.image_bytes.ensures)))
