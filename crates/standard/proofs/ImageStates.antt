-- States and images: an image has its size, the state of t bits is read back from it, and images of different states differ.
-- Assumes nothing.
use mathlib.Core.Path.{◌≡◌, sym, ap, ◌∙◌}
use mathlib.Core.Bool.{Bool}
use mathlib.Core.List.{List}
use native.Mathlib.Omega.{arith}
use lib.ListN.{length}
use Rattle.standard.specs.Families.{Variant, order, image_size, image_of, state_in}
use Rattle.standard.proofs.BitLaws.{length-pack, unpack-pack}

module _ (H : Variant) where
  pub image_of-length : (s : List Bool) → length (image_of H s) ≡ image_size H
  unfolding image_of
  image_of-length s = length-pack (order H) (image_size H) s

  -- every state is read back from its image
  pub state-image : (s : List Bool) → length s ≡ H.t → state_in H (image_of H s) ≡ s
  unfolding state_in image_of
  state-image s l = rw l at (unpack-pack (order H) (image_size H) s (omega arith))

  -- one image, one state
  pub image_of-injective : (s u : List Bool) → length s ≡ H.t → length u ≡ H.t → image_of H s ≡ image_of H u → s ≡ u
  image_of-injective s u ls lu e = sym (state-image s ls) ∙ ap (state_in H) e ∙ state-image u lu
