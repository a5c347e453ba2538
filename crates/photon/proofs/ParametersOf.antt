-- The parameters by a variant's number are those of the table of variants, they are sound, and the code's tables hold them.
-- Assumes nothing.
use mathlib.Core.Path.{◌≡◌, refl}
use mathlib.Core.List.{List, [], ◌∷◌, map}
use Prim.Native.Nat.{ℕ, ◌+◌, ◌-◌, ◌≤◌}
use native.Mathlib.Omega.{arith}
use lib.Dec.{T, eqb, lit<, lit≤}
use lib.ListN.{get_or}
use Rattle.standard.specs.ForCode.{cells, output_bits}
use Rattle.standard.specs.Photon.{PhotonParameters, present}
use Rattle.standard.specs.Backward.{unpresent}
use Rattle.standard.specs.Families.{photon, sponge}
use Rattle.standard.specs.Variants.{variant, photon100, photon144, photon196, photon256, photon288}
use Rattle.standard.proofs.Tests.{below, same-below, one-to-five}
use Rattle.standard.proofs.PhotonLaws.{Sound}
use Rattle.standard.proofs.PhotonVariants.{sound100, sound144, sound196, sound256, sound288}
use Rattle.photon.specs.Parameters.{photon_of}
use Rattle.photon.specs.Rows.{lane, lanes}
use Rattle.photon.proofs.StepsOf.{Fits, MixedBy}

pub photon-variant : (v : ℕ) → 1 ≤ v → v ≤ 5 → (variant v).family ≡ sponge (photon (photon_of v)) (output_bits (variant v))
unfolding photon_of variant
photon-variant = one-to-five (λ v. (variant v).family ≡ sponge (photon (photon_of v)) (output_bits (variant v))) refl refl refl refl refl

pub sound : (v : ℕ) → 1 ≤ v → v ≤ 5 → Sound (photon_of v)
unfolding photon_of variant
sound = one-to-five (λ v. Sound (photon_of v)) sound100 sound144 sound196 sound256 sound288

-- and the code has room for them
pub fits : (v : ℕ) → 1 ≤ v → v ≤ 5 → Fits (photon_of v)
unfolding photon_of variant
fits v l u =
    record {
      sound = sound v l u;
      most = one-to-five (λ k. (photon_of k).d ≤ 8) (lit≤ tt) (lit≤ tt) (lit≤ tt) (lit≤ tt) (lit≤ tt) v l u;
      byte = one-to-five (λ k. (photon_of k).s ≤ 8) (lit≤ tt) (lit≤ tt) (lit≤ tt) (lit≤ tt) (lit≤ tt) v l u;
    }

-- the size that the code has looked up is that of a matrix it can turn
pub size_fits : (v n : ℕ) → (1 ≤ v) × (v ≤ 5) → n ≡ (photon_of v).d → (2 ≤ n) × (n ≤ 8)
unfolding photon_of variant
size_fits v n b e =
    let two : 2 ≤ (photon_of v).d = one-to-five (λ k. 2 ≤ (photon_of k).d) (lit< tt) (lit< tt) (lit< tt) (lit< tt) (lit< tt) v b.0 b.1 in
    (omega arith, omega (arith, (fits v b.0 b.1).most))

-- the variants in the order of the code's tables
abbrev photons : List PhotonParameters
photons = photon100 ∷ photon144 ∷ photon196 ∷ photon256 ∷ photon288 ∷ []

-- a table of numbers, one for each variant
pub number_of : (f : PhotonParameters → ℕ) (v : ℕ) → 1 ≤ v → v ≤ 5 → get_or (map f photons) (v - 1) 0 ≡ f (photon_of v)
unfolding photon_of variant
number_of f = one-to-five (λ v. get_or (map f photons) (v - 1) 0 ≡ f (photon_of v)) refl refl refl refl refl

-- the table of the row constants, each row filled up to eight cells
pub ic-of : (v : ℕ) → 1 ≤ v → v ≤ 5 → cells (photon_of v).d (get_or (map (λ p. cells 8 p.ic) photons) (v - 1) []) ≡ (photon_of v).ic
unfolding photon_of variant
ic-of = one-to-five (λ v. cells (photon_of v).d (get_or (map (λ p. cells 8 p.ic) photons) (v - 1) []) ≡ (photon_of v).ic) refl refl refl refl refl

-- ---- the S-box of the variants before the fifth, and its inverse

pub present-of : (v : ℕ) → 1 ≤ v → v ≤ 4 → ((photon_of v).box ≡ present) × ((photon_of v).unbox ≡ unpresent)
unfolding photon_of variant
present-of v l u =
    one-to-five (λ k. k ≤ 4 → ((photon_of k).box ≡ present) × ((photon_of k).unbox ≡ unpresent))
    (λ h. (refl, refl)) (λ h. (refl, refl)) (λ h. (refl, refl)) (λ h. (refl, refl)) (λ h. absurd (omega arith)) v l (omega arith) u

-- ---- the numbers of each call of the mixing

given : (v k : ℕ) → v ≡ k → (zs : PhotonParameters → List ℕ) (d s poly z : ℕ) → Fits (photon_of k) → d ≡ (photon_of k).d → s ≡ (photon_of k).s → poly ≡ (photon_of k).poly
    → lanes d z ≡ zs (photon_of k) → T (below (λ i. eqb (lane (d + i) z) 0) (8 - d)) → MixedBy (photon_of v) (zs (photon_of v)) d s poly z
given v k e zs d s poly z h ed es ep ez t =
    rw e
    (record {
      fits = h;
      size = ed;
      bits = es;
      modulo = ep;
      coefficients = ez;
      none = record {
        none = λ i l u.
            let place : d + (i - d) ≡ i = omega arith in
            rw (← place) (same-below (λ j. lane (d + j) z) (λ j. 0) (8 - d) t (i - d) (omega arith));
      };
    })

pub one : (v : ℕ) → v ≡ 1 → MixedBy (photon_of v) (photon_of v).z 5 4 0x13 0x0209090201
unfolding photon_of variant lane
one v e = given v 1 e (λ p. p.z) 5 4 0x13 0x0209090201 (fits 1 (lit≤ tt) (lit≤ tt)) refl refl refl refl tt

pub two : (v : ℕ) → v ≡ 2 → MixedBy (photon_of v) (photon_of v).z 6 4 0x13 0x020805080201
unfolding photon_of variant lane
two v e = given v 2 e (λ p. p.z) 6 4 0x13 0x020805080201 (fits 2 (lit≤ tt) (lit≤ tt)) refl refl refl refl tt

pub three : (v : ℕ) → v ≡ 3 → MixedBy (photon_of v) (photon_of v).z 7 4 0x13 0x04060101060401
unfolding photon_of variant lane
three v e = given v 3 e (λ p. p.z) 7 4 0x13 0x04060101060401 (fits 3 (lit≤ tt) (lit≤ tt)) refl refl refl refl tt

pub four : (v : ℕ) → v ≡ 4 → MixedBy (photon_of v) (photon_of v).z 8 4 0x13 0x060508020b020402
unfolding photon_of variant lane
four v e = given v 4 e (λ p. p.z) 8 4 0x13 0x060508020b020402 (fits 4 (lit≤ tt) (lit≤ tt)) refl refl refl refl tt

pub five : (v : ℕ) → v ≡ 5 → MixedBy (photon_of v) (photon_of v).z 6 8 0x11b 0x040102010302
unfolding photon_of variant lane
five v e = given v 5 e (λ p. p.z) 6 8 0x11b 0x040102010302 (fits 5 (lit≤ tt) (lit≤ tt)) refl refl refl refl tt

pub four-back : (v : ℕ) → v ≡ 4 → MixedBy (photon_of v) (photon_of v).unz 8 4 0x13 0x02010c01040b0309
unfolding photon_of variant lane
four-back v e = given v 4 e (λ p. p.unz) 8 4 0x13 0x02010c01040b0309 (fits 4 (lit≤ tt) (lit≤ tt)) refl refl refl refl tt

pub five-back : (v : ℕ) → v ≡ 5 → MixedBy (photon_of v) (photon_of v).unz 6 8 0x11b 0x8c8d018d028d
unfolding photon_of variant lane
five-back v e = given v 5 e (λ p. p.unz) 6 8 0x11b 0x8c8d018d028d (fits 5 (lit≤ tt) (lit≤ tt)) refl refl refl refl tt

pub same_back : (v : ℕ) → 1 ≤ v → v ≤ 3 → (photon_of v).z ≡ (photon_of v).unz
unfolding photon_of variant
same_back v l u =
    one-to-five (λ k. k ≤ 3 → (photon_of k).z ≡ (photon_of k).unz)
    (λ h. refl) (λ h. refl) (λ h. refl) (λ h. absurd (omega arith)) (λ h. absurd (omega arith)) v l (omega arith) u
