-- Packed bits, byte by byte and nibble by nibble.
-- Assumes nothing.
use mathlib.Core.Path.{◌≡◌, refl, ap, ◌∙◌}
use mathlib.Core.Bool.{Bool, false}
use mathlib.Core.List.{List, [], ◌∷◌, ◌++◌, reverse-append}
use Prim.Native.Nat.{ℕ, zero, suc, ◌+◌, ◌*◌, ◌<◌}
use native.Mathlib.Nat.{not-suc-le-zero, le_of_suc-le-suc}
use native.Mathlib.Omega.{arith}
use lib.ListN.{length, drop, get_or, replicate, length-reverse}
use lib.Seq.{drop-drop}
use Rattle.standard.specs.Bits.{high_first, ordered, value_of, filled, pack}
use Rattle.standard.proofs.BitLaws.{length-filled, filled-add, low_value-append, reverse-replicate}
use Rattle.octets.proofs.Clear.{low_zeros}

pub pack-at : (n : ℕ) (bs : List Bool) (k : ℕ) → k < n → get_or (pack high_first n bs) k 0 ≡ value_of high_first (filled 8 (drop (k * 8) bs))
unfolding pack
pack-at zero bs k h = absurd (not-suc-le-zero h)
pack-at (suc n) bs zero h = refl
pack-at (suc n) bs (suc k) h =
    let e : 8 + k * 8 ≡ suc k * 8 = omega arith in
    pack-at n (drop 8 bs) k (le_of_suc-le-suc h)
    ∙ ap (λ (l : List Bool). value_of high_first (filled 8 l)) (drop-drop (k * 8) 8 bs ∙ ap (λ (m : ℕ). drop m bs) e)

-- zeros are worth nothing
pub filled-nothing : (w : ℕ) → value_of high_first (filled w []) ≡ 0
unfolding value_of ordered filled
filled-nothing w = rw (zeros w, reverse-replicate, low_zeros)
  where
    zeros : (n : ℕ) → filled n [] ≡ replicate n false
    zeros zero = refl
    zeros (suc n) = ap (λ (l : List Bool). false ∷ l) (zeros n)

-- the two nibbles of a byte
pub value-halves : (x y : List Bool) → length y ≡ 4 → value_of high_first (x ++ y) ≡ value_of high_first x * 16 + value_of high_first y
unfolding value_of ordered
value-halves x y e =
    rw (reverse-append, low_value-append, length-reverse, e) (omega arith)

pub pack-halves : (n : ℕ) (bs : List Bool) (k : ℕ) → k < n
    → get_or (pack high_first n bs) k 0 ≡ value_of high_first (filled 4 (drop (k * 8) bs)) * 16 + value_of high_first (filled 4 (drop (k * 8 + 4) bs))
pack-halves n bs k h = rw (pack-at n bs k h, filled-add 4 4 (drop (k * 8) bs), value-halves _ _ (length-filled 4 (drop 4 (drop (k * 8) bs))), drop-drop)
