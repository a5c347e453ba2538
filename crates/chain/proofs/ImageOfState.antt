-- The image of every state passes refusal 6, and bytes that pass are the image of the state in them.
-- So the permutation on an image and its inverse undo each other, on any bytes. Assumes nothing.
use mathlib.Core.Path.{◌≡◌, sym, ap, ◌∙◌}
use mathlib.Core.Bool.{Bool, true, false}
use mathlib.Core.List.{List, ◌++◌}
use mathlib.Core.Logic.{⊎_elim}
use Prim.Native.Nat.{ℕ, ◌-◌, ◌*◌, ◌<◌}
use native.Mathlib.Omega.{arith}
use lib.ListN.{length, take, drop, get_or, replicate, take-append-drop, length-drop}
use lib.Seq.{drop_at}
use borrow.Author.Tests.{eq-eqb}
use Rattle.standard.specs.Bits.{Order, bits_in, unpack}
use Rattle.standard.specs.Rounds.{opposite}
use Rattle.standard.specs.Families.{Variant, is_sponge, order, image_size, image_of, state_in}
use Rattle.standard.specs.Variants.{variant, known}
use Rattle.standard.proofs.Tests.{either}
use Rattle.standard.proofs.BitLaws.{length-pack, image-eq, length-bits_in, length-unpack}
use Rattle.standard.proofs.ImageStates.{state-image}
use Rattle.standard.proofs.Variants.{is-sponge}
use Rattle.chain.specs.Promises.{PermutedBack}
use Rattle.chain.specs.Images.{is_image, permuted_image}
use Rattle.chain.specs.TakenBack.{permuted_state}
use Rattle.chain.proofs.TakenBack.{permuted-length, permuted-undo}
use Rattle.octets.proofs.Clear.{zeros-clear, clear-zeros}
use Rattle.octets.proofs.LayoutLaws.{packed-bits}
use Rattle.chain.proofs.ImageLaws.{image-length, image-clear, image-state, left-unknown, left_other, left-bad, left-permuted}

-- ---- from a state to its image

pub image-is-image : (H : Variant) (s : List Bool) → length s ≡ H.t → is_image H (image_of H s) ≡ true
unfolding is_image image_of
image-is-image H s ls =
    rw (eq-eqb _ _ (length-pack (order H) (image_size H) s), packed-bits (order H) (image_size H) s (omega arith), drop_at s _ H.t ls, zeros-clear)

-- ---- from an image to its state and back

pub image-again : (v : ℕ) (k : known v ≡ true) (bytes : List ℕ) → is_image (variant v) bytes ≡ true → ((i : ℕ) → get_or bytes i 0 < 256)
    → image_of (variant v) (state_in (variant v) bytes) ≡ bytes
unfolding image_of state_in unpack
image-again v k bytes e hb =
    let o : Order = order (variant v) in
    let t : ℕ = (variant v).t in
    let n : ℕ = image_size (variant v) in
    let bits : List Bool = bits_in o bytes in
    let el : length bytes ≡ n = image-length v k bytes e in
    let lt : length (take t bits) ≡ t = length-unpack o t bytes (omega arith) in
    let room : length (drop t bits) ≡ n * 8 - length (take t bits) = omega (arith, length-drop t bits, length-bits_in o bytes) in
    let spare : drop t bits ≡ replicate (n * 8 - length (take t bits)) false =
    clear-zeros (drop t bits) (image-clear v k bytes e) ∙ rw room in
    sym (image-eq o n bytes (take t bits) hb el (omega arith) (sym (take-append-drop t bits) ∙ ap (λ (l : List Bool). take t bits ++ l) spare))

-- ---- the operation

-- For every variant number and all bytes: what the permutation on an image makes of them, its inverse takes back, and the other way round.
pub permuted-back : PermutedBack
permuted-back v w bytes hb =
    ⊎_elim
    (λ k. ⊎_elim
    (λ q. ⊎_elim (through k q) (λ e. stays (left-bad v w bytes k q e).1 (left-bad v (opposite w) bytes k q e).1) (either (is_image (variant v) bytes)))
    (λ q. stays (left_other v w bytes k q).1 (left_other v (opposite w) bytes k q).1) (either (is_sponge (variant v))))
    (λ k. stays (left-unknown v w bytes k).1 (left-unknown v (opposite w) bytes k).1) (either (known v))
  where
    -- refused both ways
    stays : bytes ≡ permuted_image v w bytes → bytes ≡ permuted_image v (opposite w) bytes → permuted_image v (opposite w) (permuted_image v w bytes) ≡ bytes
    stays there back = ap (permuted_image v (opposite w)) (sym there) ∙ sym back

    through : known v ≡ true → is_sponge (variant v) ≡ true → is_image (variant v) bytes ≡ true → permuted_image v (opposite w) (permuted_image v w bytes) ≡ bytes
    through k q e =
        let s : List Bool = state_in (variant v) bytes in
        let ls : length s ≡ (variant v).t = image-state v k bytes e in
        let P : List Bool = permuted_state (variant v) w s in
        let l_p : length P ≡ (variant v).t = permuted-length (variant v) (is-sponge v q) w s ls in
        rw (← (left-permuted v w bytes k q e).1, ← (left-permuted v (opposite w) (image_of (variant v) P) k q (image-is-image (variant v) P l_p)).1)
        (rw (state-image (variant v) P l_p, permuted-undo (variant v) (is-sponge v q) w s ls) (image-again v k bytes e hb))
