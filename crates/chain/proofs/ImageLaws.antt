-- Images: what the code sees of one, the state in it, and what each way through the checks comes to.
-- Assumes nothing.
use mathlib.Core.Path.{◌≡◌, refl, sym, ◌∙◌}
use mathlib.Core.Bool.{true, false}
use mathlib.Core.List.{List, [], ◌∷◌, ◌++◌}
use mathlib.Core.Logic.{inl, inr, ⊎_elim}
use Prim.Native.Nat.{ℕ, ◌-◌, ◌<◌}
use native.Mathlib.Omega.{arith}
use lib.Dec.{eqb}
use lib.ListN.{length, take, drop, get_or, replicate}
use borrow.Author.Tests.{eq-eqb, ne_eqb, eqb-true}
use Rattle.answers.specs.Refusals.{Status, Done, Refused}
use Rattle.answers.specs.declared.Refusal.TheVariants.{UnknownVariant, BadImage, NotSponge}
use Rattle.answers.specs.Checks.{unless}
use Rattle.answers.specs.Outputs.{when_done}
use Rattle.answers.proofs.Rows.{passed-all, refused-here}
use Rattle.standard.specs.Bits.{high_first, bits_in}
use Rattle.standard.specs.declared.Direction.{Direction}
use Rattle.standard.specs.Families.{Family, sponge, lesamnta, Variant, sponge_of, is_sponge, order, image_size, image_of, state_in}
use Rattle.standard.specs.Variants.{variant, known}
use Rattle.standard.proofs.Tests.{and-true, true-not-false}
use Rattle.standard.proofs.BitLaws.{take-pack, length-unpack}
use Rattle.standard.proofs.Variants.{Bounds, bounds, WholeBytes, layouts}
use Rattle.standard.specs.Layout.{state_room, packed_state, clear}
use Rattle.chain.specs.Holding.{Holds}
use Rattle.chain.specs.Images.{is_image, image_checks, image_status, permuted_bytes, permuted_image}
use Rattle.chain.specs.TakenBack.{permuted_by, permuted_state}
use Rattle.octets.proofs.Clear.{clear-order}
use Rattle.octets.proofs.LayoutLaws.{front-holds}
use Rattle.chain.proofs.States.{stored, stored-ready}

-- ---- what an image is, as the code looks at it

module _ (v : ℕ) (k : known v ≡ true) (bytes : List ℕ) where
  pub not-length : (length bytes ≡ image_size (variant v) → ⊥) → is_image (variant v) bytes ≡ false
  unfolding is_image
  not-length n = rw (ne_eqb (length bytes) (image_size (variant v)) n)

  pub by-spare : length bytes ≡ image_size (variant v) → is_image (variant v) bytes ≡ clear (drop (variant v).t (bits_in high_first bytes))
  unfolding is_image
  by-spare l =
      rw (eq-eqb (length bytes) (image_size (variant v)) l)
      (clear-order (order (variant v)) bytes (variant v).t (⊎_elim inl (λ (w : WholeBytes (variant v)). inr w.state) (layouts v k)))

  -- an image has its length, and nothing in its spare bits
  pub image-length : is_image (variant v) bytes ≡ true → length bytes ≡ image_size (variant v)
  unfolding is_image
  image-length e = eqb-true (length bytes) (image_size (variant v)) (and-true (eqb (length bytes) (image_size (variant v))) (clear (drop (variant v).t (bits_in (order (variant v)) bytes))) e).0

  pub image-clear : is_image (variant v) bytes ≡ true → clear (drop (variant v).t (bits_in (order (variant v)) bytes)) ≡ true
  unfolding is_image
  image-clear e = (and-true (eqb (length bytes) (image_size (variant v))) (clear (drop (variant v).t (bits_in (order (variant v)) bytes))) e).1

  -- ---- an image's state

  module _ (e : is_image (variant v) bytes ≡ true) where
    pub image-state : length (state_in (variant v) bytes) ≡ (variant v).t
    unfolding state_in
    image-state = length-unpack (order (variant v)) (variant v).t bytes (omega (arith, image-length e))

    module _ (x : List ℕ) (hx : (i : ℕ) → get_or x i 0 < 256) (ex : x ≡ bytes ++ replicate (state_room - length bytes) 0) where
      b : Bounds (variant v)
      b = bounds v k

      -- the bytes and zeros behind them hold the image's state
      pub image-held : x ≡ packed_state (variant v) (state_in (variant v) bytes)
      unfolding state_in
      image-held =
          ex
          ∙ front-holds (order (variant v)) (variant v).t b.state-most bytes (image_size (variant v)) refl (image-length e)
          (λ i. rw ex at (hx i)) (image-clear e)

      pub image-ready : Holds v x
      image-ready = stored-ready v k x (state_in (variant v) bytes) image-state image-held

      pub image-read : state_in (variant v) x ≡ state_in (variant v) bytes
      image-read = stored v k x (state_in (variant v) bytes) image-state image-held

      -- permuted, and its first bytes written over the image
      pub image-permuted : (w : Direction) (r out : List ℕ)
          → r ≡ packed_state (variant v) (permuted_state (variant v) w (state_in (variant v) x))
          → out ≡ take (length bytes) r → out ≡ image_of (variant v) (permuted_state (variant v) w (state_in (variant v) bytes))
      unfolding image_of
      image-permuted w r out er eo =
          rw (eo, image-length e, er, take-pack (order (variant v)) (image_size (variant v)) state_room _ b.image-most, image-read)

-- the image of a sponge's permuted state
sponge-bytes : (f : Family) → sponge_of f ≡ true → (H : Variant) (w : Direction) (bytes : List ℕ) → permuted_bytes f H w bytes ≡ image_of H (permuted_by f w (state_in H bytes))
sponge-bytes (sponge P r') q H w bytes = refl
sponge-bytes lesamnta q H w bytes = absurd (true-not-false (sym q))

-- ---- each way through the checks

-- status and bytes after a call
abbrev pub Left : ℕ → Direction → List ℕ → Status → List ℕ → Type 0
Left v w bytes s out = (s ≡ image_status v bytes) × (out ≡ permuted_image v w bytes)

module _ (v : ℕ) (w : Direction) (bytes : List ℕ) where
  abbrev permuted : List ℕ
  permuted = permuted_bytes (variant v).family (variant v) w bytes

  -- the answer tells what the bytes are
  left : (s : Status) → image_status v bytes ≡ s → Left v w bytes s (when_done s permuted bytes)
  unfolding permuted_image
  left s e = (sym e, rw e)

  pub left-unknown : known v ≡ false → Left v w bytes (Refused UnknownVariant) bytes
  unfolding image_status
  left-unknown e = left (Refused UnknownVariant) (refused-here [] (unless (known v) UnknownVariant) (unless (is_sponge (variant v)) NotSponge ∷ unless (is_image (variant v) bytes) BadImage ∷ []) tt e)

  pub left_other : known v ≡ true → is_sponge (variant v) ≡ false → Left v w bytes (Refused NotSponge) bytes
  unfolding image_status
  left_other k e =
      left (Refused NotSponge) (refused-here (unless (known v) UnknownVariant ∷ []) (unless (is_sponge (variant v)) NotSponge) (unless (is_image (variant v) bytes) BadImage ∷ []) (k, tt) e)

  pub left-bad : known v ≡ true → is_sponge (variant v) ≡ true → is_image (variant v) bytes ≡ false → Left v w bytes (Refused BadImage) bytes
  unfolding image_status
  left-bad k q e =
      left (Refused BadImage) (refused-here (unless (known v) UnknownVariant ∷ unless (is_sponge (variant v)) NotSponge ∷ []) (unless (is_image (variant v) bytes) BadImage) [] (k, (q, tt)) e)

  pub left-permuted : known v ≡ true → is_sponge (variant v) ≡ true → is_image (variant v) bytes ≡ true
      → Left v w bytes Done (image_of (variant v) (permuted_state (variant v) w (state_in (variant v) bytes)))
  unfolding image_status permuted_state
  left-permuted k q e =
      let done = left Done (passed-all (image_checks v bytes) (k, (q, (e, tt)))) in
      (done.0, sym (sponge-bytes (variant v).family q (variant v) w bytes) ∙ done.1)
