-- `chain::images::permute_state` meets its contract: the image's state, permuted, is written over it. Assumes nothing.
use mathlib.Core.Path.{◌≡◌}
use mathlib.Core.Bool.{true}
use mathlib.Core.List.{List}
use Prim.Native.Nat.{ℕ, ◌≤◌}
use native.Mathlib.Omega.{arith}
use lib.ListN.{length, length-take}
use Rattle.standard.proofs.Variants.{bounds}
use Rattle.octets.proofs.Elements.{bytes_lt}
use Rattle.standard.specs.Layout.{state_room}
use Rattle.standard.specs.Variants.{variant, known}
use Rattle.chain.specs.Images.{is_image}
use Rattle.chain.proofs.ImageLaws.{image-length, image-ready, image-permuted}
use Rattle.chain.proofs.images.permute_state.Goals as goal

-- an image is no longer than the bytes that hold a state
short : (v : ℕ) → known v ≡ true → (image : List ℕ) → is_image (variant v) image ≡ true → length image ≤ state_room
short v k image e = omega (arith, image-length v k image e, (bounds v k).image-most)

pub at_front-s-requires : goal.at_front-s-requires
at_front-s-requires c = short c.args.v c.requires.v_value.0 c.args.image.now c.requires.image_value

pub permuted-r-requires : goal.permuted-r-requires
permuted-r-requires c =
    let a = c.args in
    let x = c.at_front-s in
    record { v_value = c.requires.v_value; holds = image-ready a.v c.requires.v_value.0 a.image.now c.requires.image_value x.result (bytes_lt state_room x.result _ x.type_inv) x.ensures }

pub slice_bounds-r-end : goal.slice_bounds-r-end
slice_bounds-r-end c = omega (arith, short c.args.v c.requires.v_value.0 c.args.image.now c.requires.image_value)

pub copy_from_slice-requires : goal.copy_from_slice-requires
copy_from_slice-requires c =
    let m = c.args.image.now in
    omega (arith, short c.args.v c.requires.v_value.0 m c.requires.image_value, length-take (length m) c.permuted-r.result, length-take (length m) c.at_front-s.result)

pub slice_bounds-copy_from_slice-end : goal.slice_bounds-copy_from_slice-end
slice_bounds-copy_from_slice-end c =
    let m = c.args.image.now in
    omega (arith, short c.args.v c.requires.v_value.0 m c.requires.image_value, length-take (length m) c.permuted-r.result, length-take (length m) c.at_front-s.result)

pub returns : goal.returns
returns c =
    let a = c.args in
    let x = c.at_front-s in
    image-permuted a.v c.requires.v_value.0 a.image.now c.requires.image_value x.result (bytes_lt state_room x.result _ x.type_inv) x.ensures
    a.way c.permuted-r.result _ c.permuted-r.ensures c.copy_from_slice.ensures.after
