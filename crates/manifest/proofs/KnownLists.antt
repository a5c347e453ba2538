-- An installation of two axes and its list, which passes; the records the other way round, and one number twice, which
-- are refused with 14.
-- Assumes nothing.
use mathlib.Core.Path.{◌≡◌, refl, sym, ap, subst, fun_ext, ◌∙◌}
use mathlib.Core.Bool.{true, false, cond}
use mathlib.Core.List.{List, [], ◌∷◌, ◌++◌}
use mathlib.Core.Logic.{⊎_elim}
use mathlib.Core.Option.{none, some}
use Prim.Native.Nat.{ℕ, zero, suc, ◌≤◌, ◌<◌}
use native.Mathlib.Omega.{arith}
use lib.Dec.{eqb}
use lib.ListN.{get_or, replicate, get_or-eq_default}
use borrow.Author.Tests.{eqb-true, eqb-false}
use Rattle.answers.specs.declared.Refusal.TheVariants.{BadRecord, NotRising}
use Rattle.answers.specs.Refusals.{Done, Refused}
use Rattle.octets.specs.Numbers.{Bytes, big_endian, in_bytes}
use Rattle.standard.specs.Variants.{variant}
use Rattle.standard.proofs.Tests.{either, lt-or-le, bound-below}
use Rattle.manifest.specs.Records.{is_manifest, record_count, axis_at, digest_at, filler_at, rises_at, record_checks, manifest_status}
use Rattle.manifest.specs.Installations.{Expected, Axes, IsInstallation, record_of, list_of, held}
use Rattle.manifest.proofs.OneList.{passes-exactly, held-nothing}

-- ---- two axes; the digests are made up

abbrev seven : Expected
seven = record { variant = 1; digest = replicate 10 7 }

abbrev other : Expected
other = record { variant = 6; digest = replicate 11 255 }

-- of a variant that is not known
abbrev unknown : Expected
unknown = record { variant = 12; digest = [] }

abbrev two : Axes
two axis = cond (eqb axis 7) (some seven) (cond (eqb axis 258) (some other) none)

abbrev rising : List ℕ
rising = 0 ∷ 7 ∷ 1 ∷ replicate 10 7 ++ replicate 22 0 ++ (1 ∷ 2 ∷ 6 ∷ replicate 11 255) ++ replicate 21 0

-- ---- their list

-- below 256, by a test of each
rising-bytes : Bytes rising
rising-bytes i =
    ⊎_elim
    (bound-below (λ j. get_or rising j 0) 256 70 tt i)
    (λ (l : 70 ≤ i). rw (get_or-eq_default rising 0 {n = i} l) (omega arith))
    (lt-or-le i 70)

rising-passes : manifest_status rising ≡ Done
unfolding manifest_status is_manifest record_checks rises_at filler_at big_endian variant
rising-passes = refl

-- no third axis
neither : (axis : ℕ) → eqb axis 7 ≡ false → eqb axis 258 ≡ false → (k : ℕ) → k < record_count rising → axis_at rising k ≡ axis → ⊥
unfolding big_endian
neither axis a b zero h e = eqb-false axis 7 a (sym e)
neither axis a b (suc zero) h e = eqb-false axis 258 b (sym e)
neither axis a b (suc (suc k)) h e = absurd (omega arith)

rising-holds : held rising ≡ two
unfolding held digest_at big_endian variant
rising-holds =
    fun_ext
    (λ axis. ⊎_elim
    (λ (a : eqb axis 7 ≡ true). subst (λ (x : ℕ). held rising x ≡ two x) (sym (eqb-true axis 7 a)) refl)
    (λ (a : eqb axis 7 ≡ false). ⊎_elim
    (λ (b : eqb axis 258 ≡ true). subst (λ (x : ℕ). held rising x ≡ two x) (sym (eqb-true axis 258 b)) refl)
    (λ (b : eqb axis 258 ≡ false). held-nothing rising axis (neither axis a b) ∙ sym (rw (a, b)))
    (either (eqb axis 258)))
    (either (eqb axis 7)))

pub two-installed : IsInstallation two
two-installed = subst IsInstallation rising-holds ((passes-exactly rising rising-bytes).0 rising-passes).0

pub two-listed : list_of two ≡ rising
two-listed = ap list_of (sym rising-holds) ∙ ((passes-exactly rising rising-bytes).0 rising-passes).1

-- ---- refused

pub falling-refused : manifest_status (record_of 258 other ++ record_of 7 seven) ≡ Refused NotRising
unfolding manifest_status is_manifest record_checks rises_at filler_at record_of in_bytes big_endian variant
falling-refused = refl

pub twice-refused : manifest_status (record_of 7 seven ++ record_of 7 other) ≡ Refused NotRising
unfolding manifest_status is_manifest record_checks rises_at filler_at record_of in_bytes big_endian variant
twice-refused = refl

-- a byte too many for the variant's digest is filler that is not zero, and that comes first
pub filler-first : manifest_status (record_of 7 seven ++ record_of 7 (record { variant = 1; digest = replicate 11 255 })) ≡ Refused BadRecord
unfolding manifest_status is_manifest record_checks rises_at filler_at record_of in_bytes big_endian variant
filler-first = refl

-- but one that does not rise comes before a wrong record after it; that record alone, of a variant that is not known,
-- is refused with 13
pub earlier-first : manifest_status (record_of 7 seven ++ record_of 7 seven ++ record_of 8 unknown) ≡ Refused NotRising
unfolding manifest_status is_manifest record_checks rises_at filler_at record_of in_bytes big_endian variant
earlier-first = refl

pub unknown-refused : manifest_status (record_of 8 unknown) ≡ Refused BadRecord
unfolding manifest_status is_manifest record_checks rises_at filler_at record_of in_bytes big_endian variant
unknown-refused = refl
