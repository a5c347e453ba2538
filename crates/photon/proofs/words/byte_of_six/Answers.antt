-- `photon::words::byte_of_six` meets its contract: the bytes of a half lie as those of a column of three. Assumes nothing.
use mathlib.Core.Path.{◌≡◌, ap, ◌∙◌}
use mathlib.Core.Bool.{cond}
use Prim.Native.Nat.{ℕ, ◌+◌, ◌-◌, ◌*◌, ◌/◌, ◌%◌, ◌^◌, ◌<◌}
use native.Mathlib.Omega.{arith}
use lib.Dec.{eqb}
use lib.Pow.{shr-shr}
use Rattle.standard.specs.Variants.{variant}
use Rattle.standard.proofs.Tests.{same-below}
use Rattle.photon_tables.specs.Columns.{place_of}
use Rattle.photon.specs.Parameters.{photon_of}
use Rattle.photon.proofs.words.byte_of_six.Goals as goal

lower : (k : ℕ) → k < 3 → 8 * cond (eqb (k + 1) 3) 3 k ≡ place_of (photon_of 5) k
unfolding photon_of variant
lower = same-below (λ k. 8 * cond (eqb (k + 1) 3) 3 k) (place_of (photon_of 5)) 3 tt

upper : (k : ℕ) → k < 3 → 32 + 8 * cond (eqb (k + 1) 3) 3 k ≡ place_of (photon_of 5) (3 + k)
unfolding photon_of variant
upper = same-below (λ k. 32 + 8 * cond (eqb (k + 1) 3) 3 k) (λ k. place_of (photon_of 5) (3 + k)) 3 tt

pub byte_of-requires : goal.byte_of-requires
byte_of-requires c = c.spot.ensures.1

pub returns-then-k-lt3 : goal.returns-then-k-lt3
returns-then-k-lt3 c =
    let a = c.args in
    c.byte_of.ensures ∙ ap (λ (x : ℕ). a.w / 2 ^ x % 256) (ap (λ (x : ℕ). 8 * x) c.spot.ensures.0 ∙ lower a.k (omega arith))

pub byte_of-requires-2 : goal.byte_of-requires-2
byte_of-requires-2 c = c.spot-2.ensures.1

pub returns : goal.returns
returns c =
    let a = c.args in
    let whole : 3 + (a.k - 3) ≡ a.k = omega arith in
    c.byte_of-2.ensures
    ∙ ap (λ (x : ℕ). a.w / 2 ^ 32 / 2 ^ (8 * x) % 256) c.spot-2.ensures.0
    ∙ ap (λ (x : ℕ). x % 256) (shr-shr a.w 32 (8 * cond (eqb (a.k - 3 + 1) 3) 3 (a.k - 3)))
    ∙ ap (λ (x : ℕ). a.w / 2 ^ x % 256) (upper (a.k - 3) (omega arith) ∙ ap (place_of (photon_of 5)) whole)
