-- The parameters of the five PHOTON variants are sound: one list of tests, computed for each variant.
-- Assumes nothing.
use mathlib.Core.Path.{refl}
use mathlib.Core.Bool.{Bool, true, false, ◌&&◌}
use mathlib.Core.List.{List, [], ◌∷◌, reverse}
use Prim.Native.Nat.{ℕ, suc, ◌*◌, ◌^◌}
use lib.Dec.{T, leb, ltb, eqb, leb→le, ltb→lt, eqb→eq}
use lib.ListN.{length, get_or}
use Rattle.standard.specs.Rounds.{opposite}
use Rattle.standard.specs.declared.Direction.{Direction}
use Rattle.standard.specs.declared.Direction.TheVariants.{Forward, Backward}
use Rattle.standard.specs.Field.{double, times, mul}
use Rattle.standard.specs.Photon.{PhotonParameters, aes}
use Rattle.standard.specs.Backward.{unaes}
use Rattle.standard.specs.Variants.{photon100, photon144, photon196, photon256, photon288}
use Rattle.standard.proofs.Tests.{and_left, and_right, below, every, every-at, same-below, bound-below, Back, entry, table_tests, tables-back}
use Rattle.standard.proofs.FieldLaws.{Scaled}
use Rattle.standard.proofs.SerialLaws.{Undoes}
use Rattle.standard.proofs.PhotonLaws.{box_for, coefficients_for, Sound}

-- ---- tests of tables and coefficients

-- the product by b is u times the product by a
abbrev scales : ℕ → ℕ → ℕ → ℕ → ℕ → Bool
scales top poly u a b = below (λ x. eqb (mul top poly b x) (mul top poly u (mul top poly a x))) top

abbrev all_scale : ℕ → ℕ → ℕ → List ℕ → List ℕ → Bool
all_scale top poly u [] [] = true
all_scale top poly u [] (b ∷ us) = false
all_scale top poly u (a ∷ zs) [] = false
all_scale top poly u (a ∷ zs) (b ∷ us) = scales top poly u a b && all_scale top poly u zs us

scaled-of : (top poly u : ℕ) (zs us : List ℕ) → T (all_scale top poly u zs us) → Scaled top poly u zs us
scaled-of top poly u [] [] t = tt
scaled-of top poly u [] (b ∷ us) t = t
scaled-of top poly u (a ∷ zs) [] t = t
scaled-of top poly u (a ∷ zs) (b ∷ us) t = (
  same-below (λ x. mul top poly b x) (λ x. mul top poly u (mul top poly a x)) top (and_left (scales top poly u a b) (all_scale top poly u zs us) t),
  scaled-of top poly u zs us (and_right (scales top poly u a b) (all_scale top poly u zs us) t),
)

abbrev undo_tests : ℕ → ℕ → ℕ → List ℕ → List ℕ → List Bool
undo_tests d top poly [] unz = false ∷ []
undo_tests d top poly (z₀ ∷ zs) [] = false ∷ []
undo_tests d top poly (z₀ ∷ zs) (u₀ ∷ us) =
    eqb (suc (length us)) d ∷ below (λ x. eqb (mul top poly u₀ (mul top poly z₀ x)) x) top ∷ all_scale top poly u₀ zs (reverse us) ∷ []

undoes-of : (d top poly : ℕ) (z unz : List ℕ) → T (every (undo_tests d top poly z unz)) → Undoes d top poly z unz
undoes-of d top poly [] unz t = absurd t
undoes-of d top poly (z₀ ∷ zs) [] t = absurd t
undoes-of d top poly (z₀ ∷ zs) (u₀ ∷ us) t =
    let passed = every-at (undo_tests d top poly (z₀ ∷ zs) (u₀ ∷ us)) t in
    record {
      z₀ = z₀;
      zs = zs;
      u₀ = u₀;
      us = us;
      z-is = refl;
      unz-is = refl;
      size = eqb→eq (suc (length us)) d (passed 0);
      first = same-below (λ x. mul top poly u₀ (mul top poly z₀ x)) (λ x. x) top (passed 1);
      others = scaled-of top poly u₀ zs (reverse us) (passed 2);
    }

-- ---- all of a variant's parameters

abbrev tests : PhotonParameters → List Bool
tests p =
    ltb 0 p.d ∷ leb 4 p.s
    ∷ leb (2 ^ p.s) p.poly ∷ ltb p.poly (2 ^ p.s * 2)
    ∷ below (λ i. ltb (get_or p.ic i 0) (2 ^ p.s)) p.d
    ∷ every (table_tests (2 ^ p.s) p.box p.unbox) ∷ every (table_tests (2 ^ p.s) p.unbox p.box)
    ∷ every (undo_tests p.d (2 ^ p.s) p.poly p.z p.unz) ∷ every (undo_tests p.d (2 ^ p.s) p.poly p.unz p.z) ∷ []

both : (P : Direction → Type 0) → P Forward → P Backward → (w : Direction) → P w
both P a b Forward = a
both P a b Backward = b

sound-of : (p : PhotonParameters) → T (every (tests p)) → Sound p
sound-of p t =
    let passed = every-at (tests p) t in
    record {
      pos = ltb→lt 0 p.d (passed 0);
      nibble = leb→le 4 p.s (passed 1);
      poly-low = leb→le (2 ^ p.s) p.poly (passed 2);
      poly-high = ltb→lt p.poly (2 ^ p.s * 2) (passed 3);
      ic-small = bound-below (λ i. get_or p.ic i 0) (2 ^ p.s) p.d (passed 4);
      boxes =
          both (λ w. Back (2 ^ p.s) (entry (box_for p w)) (entry (box_for p (opposite w))))
          (tables-back (2 ^ p.s) p.box p.unbox (passed 5)) (tables-back (2 ^ p.s) p.unbox p.box (passed 6));
      undoes =
          both (λ w. Undoes p.d (2 ^ p.s) p.poly (coefficients_for p w) (coefficients_for p (opposite w)))
          (undoes-of p.d (2 ^ p.s) p.poly p.z p.unz (passed 7)) (undoes-of p.d (2 ^ p.s) p.poly p.unz p.z (passed 8));
    }

pub sound100 : Sound photon100
unfolding mul times double
sound100 = sound-of photon100 tt

pub sound144 : Sound photon144
unfolding mul times double
sound144 = sound-of photon144 tt

pub sound196 : Sound photon196
unfolding mul times double
sound196 = sound-of photon196 tt

pub sound256 : Sound photon256
unfolding mul times double
sound256 = sound-of photon256 tt

pub sound288 : Sound photon288
unfolding mul times double aes unaes
sound288 = sound-of photon288 tt
