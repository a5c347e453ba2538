-- A block that lies in a piece, and one that is made up from held bytes, a piece and a last byte: what the block step on words takes of each.
-- Assumes nothing.
use mathlib.Core.Path.{◌≡◌, sym, ap, ap₂, ◌∙◌}
use mathlib.Core.Bool.{Bool, true}
use mathlib.Core.List.{List, [], ◌∷◌, ◌++◌}
use Prim.Native.Nat.{ℕ, ◌+◌, ◌*◌, ◌/◌, ◌%◌, ◌≤◌}
use native.Mathlib.Omega.{arith}
use lib.ListN.{length, take, drop, length-append, length-drop}
use lib.Arith.{mod-mul}
use lib.Seq.{drop-append-add, drop-append-le, take-append-le}
use Rattle.standard.specs.Bits.{high_first, bits_in, unpack, filled}
use Rattle.standard.specs.Variants.{variant, known}
use Rattle.standard.proofs.BitLaws.{filled-take, bits_in-append, length-bits_in, length-unpack, length-filled}
use Rattle.standard.specs.Layout.{packed_block}
use Rattle.chain.specs.Blocks.{held_then}
use Rattle.chain.proofs.BlockRuns.{block_read}

module _ (held : List ℕ) (p : ℕ) (piece : List ℕ) (last : ℕ) (few : p ≤ 2 * length held) where
  -- all of it comes from the piece
  pub inside : (first q m : ℕ) → first ≡ p + m → m + q ≤ 2 * length piece
      → take (4 * q) (drop (4 * m) (bits_in high_first piece)) ≡ filled (4 * q) (drop (4 * first) (held_then held p (piece ++ last ∷ [])))
  inside first q m e fits =
      let X : List Bool = unpack high_first (4 * p) held in
      let Y : List Bool = bits_in high_first piece in
      let Z : List Bool = bits_in high_first (last ∷ []) in
      let l_x : length X ≡ 4 * p = length-unpack high_first (4 * p) held (omega arith) in
      let l_y : length Y ≡ 8 * length piece = length-bits_in high_first piece in
      let place : 4 * first ≡ length X + 4 * m = omega arith in
      let rest : drop (4 * first) (held_then held p (piece ++ last ∷ [])) ≡ drop (4 * m) Y ++ Z =
      ap₂ (λ (n : ℕ) (bs : List Bool). drop n (X ++ bs)) place (bits_in-append high_first piece (last ∷ []))
      ∙ drop-append-add X (Y ++ Z) (4 * m)
      ∙ drop-append-le (4 * m) Y Z (omega arith) in
      let long : 4 * q ≤ length (drop (4 * m) Y) = omega (arith, length-drop (4 * m) Y) in
      sym (ap (filled (4 * q)) rest
      ∙ filled-take (4 * q) (drop (4 * m) Y ++ Z) (omega (arith, length-append (drop (4 * m) Y) Z))
      ∙ take-append-le (4 * q) (drop (4 * m) Y) Z long)

-- the bytes that it makes
pub made : (v : ℕ) → known v ≡ true → (q : ℕ) → 4 * q ≡ (variant v).r → (bytes : List ℕ) (bs : List Bool) → bytes ≡ packed_block (filled (4 * q) bs)
    → take (variant v).r (drop (4 * 0) (bits_in high_first bytes)) ≡ filled (4 * q) bs
unfolding unpack
made v k q rate bytes bs e = block_read v k bytes (filled (4 * q) bs) (length-filled (4 * q) bs ∙ rate) e

-- whole bytes have an even number of halves
pub even-halves : (q r : ℕ) → 4 * q ≡ r → r % 8 ≡ 0 → q % 2 ≡ 0
even-halves q r e z =
    let quarter : 4 * q / 4 ≡ q = omega arith in
    let cut : 4 * q % (2 * 4) ≡ q % 2 * 4 + 4 * q % 4 = rw quarter at (mod-mul (4 * q) {m = 2} {c = 4} (omega arith) (omega arith)) in
    none (q % 2) (4 * q % 4) (sym cut ∙ ap (λ (n : ℕ). n % 8) e ∙ z)
  where
    none : (a b : ℕ) → a * 4 + b ≡ 0 → a ≡ 0
    none a b h = omega arith
