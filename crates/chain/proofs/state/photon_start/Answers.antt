-- `chain::state::photon_start` meets its contract: the bytes of each variant, computed. Assumes nothing.
use mathlib.Core.Path.{◌≡◌, refl, ap, ap₂, ◌∙◌}
use mathlib.Core.List.{List, [], ◌∷◌}
use Prim.Native.Nat.{ℕ, ◌-◌, ◌≤◌}
use native.Mathlib.Omega.{arith}
use borrow.Rule.Slice.PartMut.{put_mid}
use lib.Dec.{lit≤}
use lib.ListN.{length, take, drop, get_or, replicate}
use Rattle.standard.specs.Bits.{low_bits, low_value, ordered, bits_of, value_of, filled, pack}
use Rattle.standard.specs.Chain.{start_state}
use Rattle.standard.specs.Families.{image_size}
use Rattle.standard.specs.Variants.{variant}
use Rattle.standard.proofs.Tests.{one-to-five}
use Rattle.standard.proofs.Variants.{bounds, known-true}
use Rattle.standard.specs.Layout.{state_room, packed_state}
use Rattle.chain.proofs.state.photon_start.Goals as goal

abbrev ends : List (List ℕ)
ends = (0 ∷ 0 ∷ 0 ∷ 0 ∷ []) ∷ (0x01 ∷ 0x41 ∷ 0x41 ∷ 0x00 ∷ []) ∷ (0x00 ∷ 0x20 ∷ 0x10 ∷ 0x10 ∷ []) ∷ (0x02 ∷ 0x82 ∷ 0x42 ∷ 0x40 ∷ []) ∷ (0x00 ∷ 0x38 ∷ 0x20 ∷ 0x20 ∷ []) ∷ (0x00 ∷ 0x40 ∷ 0x20 ∷ 0x20 ∷ []) ∷ []

-- four bytes put at the end of an image of n
abbrev built : ℕ → List ℕ → List ℕ
built n end = put_mid (n - 4) (n - (n - 4)) (replicate state_room 0) end

-- where they are put
module _ (v n : ℕ) (b : (1 ≤ v) × (v ≤ 5)) (e : n ≡ image_size (variant v)) where
  enough : 4 ≤ n
  unfolding variant
  enough = omega (arith, one-to-five (λ k. 4 ≤ image_size (variant k)) (lit≤ tt) (lit≤ tt) (lit≤ tt) (lit≤ tt) (lit≤ tt) v b.0 b.1)

pub overflow_sub-out : goal.overflow_sub-out
overflow_sub-out c = enough c.args.v _ c.requires c.image_bytes-end.ensures

pub slice_bounds-out-end : goal.slice_bounds-out-end
slice_bounds-out-end c =
    let v = c.args.v in
    omega (arith, enough v _ c.requires c.image_bytes-end.ensures, (bounds v (known-true v c.requires.0 (omega arith))).image-most)

pub copy_from_slice-requires : goal.copy_from_slice-requires
unfolding variant
copy_from_slice-requires c =
    rw (c.from.ensures, c.image_bytes-end.ensures)
    (one-to-five (λ k. length (take (image_size (variant k) - (image_size (variant k) - 4)) (drop (image_size (variant k) - 4) (replicate state_room 0))) ≡ length (get_or ends k []))
    refl refl refl refl refl c.args.v c.requires.0 c.requires.1)

pub returns : goal.returns
unfolding variant start_state low_bits low_value ordered bits_of value_of filled pack
returns c =
    let v = c.args.v in
    ap₂ built c.image_bytes-end.ensures (c.copy_from_slice.ensures.after ∙ ap (λ (k : ℕ). get_or ends k []) c.from.ensures)
    ∙ one-to-five (λ k. built (image_size (variant k)) (get_or ends k []) ≡ packed_state (variant k) (start_state (variant k))) refl refl refl refl refl v c.requires.0 c.requires.1
