-- Rows of blocks of a bit string and zeros behind it: one block more, one block of the row, its first blocks; the whole blocks of a string; padded blocks.
-- Assumes nothing.
use mathlib.Core.Path.{◌≡◌, refl, sym, ap, ap₂, ◌∙◌}
use mathlib.Core.Bool.{Bool, true, false}
use mathlib.Core.List.{List, [], ◌∷◌, ◌++◌, append_assoc}
use Prim.Native.Nat.{ℕ, zero, suc, ◌+◌, ◌-◌, ◌*◌, ◌/◌, ◌%◌, ◌≤◌, ◌<◌}
use native.Mathlib.Nat.{div-add-mod', mod-lt, add-mul, one-mul, mul-div_cancel}
use native.Mathlib.Omega.{arith}
use lib.ListN.{length, take, drop, get_or, replicate, length-append, length-replicate, take-append-drop}
use lib.Seq.{take_at, take_all, take-append-le, drop_at, length-take-le}
use Rattle.standard.specs.Bits.{Order, high_first, bits_in, unpack, filled, pack, cut}
use Rattle.standard.specs.Sponge.{sponge_padding}
use Rattle.standard.specs.Chain.{whole_blocks, Blocks}
use Rattle.standard.proofs.BitLaws.{filled-take, length-filled, filled-add, filled-short, length-pack, bits_in-pack, pack-bits_in, pack-bytes}
use Rattle.standard.proofs.CutLaws.{length_cut, cut_at, cut_fits, cut-add, cut-append}
use Rattle.standard.proofs.Streaming.{cut-blocks}
use Rattle.chain.specs.Blocks.{held_then, first_blocks}
use Rattle.chain.specs.Padding.{Padded}
use Rattle.chain.proofs.BlockHalves.{middle}

-- ---- the first blocks of a string

module _ (r : ℕ) (bs : List Bool) where
  pub first-none : first_blocks r 0 bs ≡ []
  unfolding first_blocks cut
  first-none = refl

  pub length-first : (n : ℕ) → length (first_blocks r n bs) ≡ n
  unfolding first_blocks
  length-first n = length_cut r n (filled (n * r) bs)

  pub first-blocks : (n : ℕ) → Blocks r (first_blocks r n bs)
  unfolding first_blocks
  first-blocks n = cut-blocks r n (filled (n * r) bs) (omega (arith, length-filled (n * r) bs))

  -- n blocks, and the blocks behind them
  first-add : (n m : ℕ) → first_blocks r (n + m) bs ≡ first_blocks r n bs ++ first_blocks r m (drop (n * r) bs)
  unfolding first_blocks
  first-add n m =
      let A : List Bool = filled (n * r) bs in
      let B : List Bool = filled (m * r) (drop (n * r) bs) in
      rw (add-mul, filled-add, cut-add, cut-append r n A B (omega (arith, length-filled (n * r) bs)), drop_at A B (n * r) (length-filled (n * r) bs))

  -- block j of the row
  pub first-at : (n j : ℕ) → j < n → get_or (first_blocks r n bs) j [] ≡ filled r (drop (j * r) bs)
  unfolding first_blocks
  first-at n j h =
      cut_at r n (filled (n * r) bs) j h ∙ middle (j * r) r (n * r) bs (cut_fits r n j (n * r) h (omega arith))

  -- the first j of n blocks
  pub first-take : (n j : ℕ) → j ≤ n → take j (first_blocks r n bs) ≡ first_blocks r j bs
  first-take n j h =
      let e : n ≡ j + (n - j) = omega arith in
      rw (e, first-add, take_at (first_blocks r j bs) _ j (length-first j))

first_one : (r : ℕ) (bs : List Bool) → first_blocks r 1 bs ≡ filled r bs ∷ []
unfolding first_blocks cut
first_one r bs = rw (one-mul, take_all r (filled r bs) (omega (arith, length-filled r bs)))

-- one block more
pub first_more : (r : ℕ) (bs : List Bool) (n : ℕ) → first_blocks r (n + 1) bs ≡ first_blocks r n bs ++ filled r (drop (n * r) bs) ∷ []
first_more r bs n = rw (first-add, first_one)

-- ---- the whole blocks of a string, whatever stands behind it

module _ (r : ℕ) (x y : List Bool) where
  -- the bits of the whole blocks
  fits : length x / r * r ≤ length x
  fits = omega (arith, div-add-mod' (length x) r)

  pub whole-first : first_blocks r (length x / r) (x ++ y) ≡ whole_blocks r x
  unfolding first_blocks whole_blocks
  whole-first =
      let n : ℕ = length x / r in
      let front : List Bool = take (n * r) x in
      rw (filled-take (n * r) (x ++ y) (omega (arith, length-append x y, fits)), take-append-le (n * r) x y fits)
      (sym (cut-append r n front (drop (n * r) x) (omega (arith, length-take-le (n * r) x fits))) ∙ rw take-append-drop)

-- ---- zeros behind a string

pub filled-zeros : (w : ℕ) (bs : List Bool) (z : ℕ) → filled w (bs ++ replicate z false) ≡ filled w bs
unfolding filled
filled-zeros zero bs z = refl
filled-zeros (suc w) [] zero = refl
filled-zeros (suc w) [] (suc z) = ap (λ (l : List Bool). false ∷ l) (filled-zeros w [] z)
filled-zeros (suc w) (b ∷ bs) z = ap (λ (l : List Bool). b ∷ l) (filled-zeros w bs z)

pub first-zeros : (r n : ℕ) (bs : List Bool) (z : ℕ) → first_blocks r n (bs ++ replicate z false) ≡ first_blocks r n bs
unfolding first_blocks
first-zeros r n bs z = ap (cut r n) (filled-zeros (n * r) bs z)

-- bytes take as many bits as they have room for
pub pack-filled : (o : Order) (n : ℕ) (bs : List Bool) → pack o n (filled (n * 8) bs) ≡ pack o n bs
pack-filled o n bs =
    ap₂ (pack o) (sym (length-pack o n bs)) (sym (bits_in-pack o n bs)) ∙ pack-bits_in o (pack o n bs) (pack-bytes o n bs)

pub pack-zeros : (o : Order) (n : ℕ) (bs : List Bool) (z : ℕ) → pack o n (bs ++ replicate z false) ≡ pack o n bs
pack-zeros o n bs z = sym (pack-filled o n (bs ++ replicate z false)) ∙ ap (pack o n) (filled-zeros (n * 8) bs z) ∙ pack-filled o n bs

-- ---- padded blocks

-- bits with the 1 bit of the padding behind them
abbrev pub with_one : List Bool → List Bool
with_one bs = bs ++ true ∷ []

module _ (r : ℕ) (pos : 0 < r) (x : List Bool) where
  -- padding by a length that leaves as much of a block as the string does: the string itself, or the message whose last bits it is
  pub padded-first : (n : ℕ) → n % r ≡ length x % r → first_blocks r (length x / r + 1) (with_one x) ≡ whole_blocks r (x ++ sponge_padding r n)
  unfolding first_blocks whole_blocks sponge_padding
  padded-first n e =
      let z : ℕ = r - 1 - n % r in
      let c : ℕ = length x / r + 1 in
      let whole : List Bool = x ++ true ∷ replicate z false in
      let part : n % r < r = mod-lt n {m = r} pos in
      let split : length x / r * r + length x % r ≡ length x = div-add-mod' (length x) r in
      let bits : c * r ≡ length x / r * r + r = add-mul (length x / r) 1 r ∙ omega (arith, one-mul r) in
      let size : length whole ≡ c * r =
      length-append x (true ∷ replicate z false) ∙ omega (arith, length-replicate z false) in
      let zeros : c * r - length (with_one x) ≡ z = omega (arith, length-append x (true ∷ [])) in
      rw (filled-short (c * r) (with_one x) (omega (arith, length-append x (true ∷ []))), zeros, append_assoc, size, mul-div_cancel c pos)

  -- the blocks of bytes that hold the string and the 1 bit
  module _ (bytes : List ℕ) (marked : Padded x bytes) where
    pub marked-first : first_blocks r (length x / r + 1) (bits_in high_first bytes) ≡ whole_blocks r (x ++ sponge_padding r (length x))
    marked-first =
        ap (first_blocks r (length x / r + 1)) (marked ∙ sym (append_assoc x (true ∷ []) _))
        ∙ first-zeros r (length x / r + 1) (with_one x) (8 * length bytes - length x - 1)
        ∙ padded-first (length x) refl

    pub marked-take : (j : ℕ) → j ≤ length x / r + 1 → take j (whole_blocks r (x ++ sponge_padding r (length x))) ≡ first_blocks r j (bits_in high_first bytes)
    marked-take j h = ap (take j) (sym marked-first) ∙ first-take r (bits_in high_first bytes) (length x / r + 1) j h

    pub marked-at : (j : ℕ) → j < length x / r + 1 → get_or (whole_blocks r (x ++ sponge_padding r (length x))) j [] ≡ filled r (drop (j * r) (bits_in high_first bytes))
    marked-at j h =
        ap (λ (l : List (List Bool)). get_or l j []) (sym marked-first) ∙ first-at r (bits_in high_first bytes) (length x / r + 1) j h

-- the first blocks of bytes that hold a string and the 1 bit: those of the string with the 1 bit behind it
pub marked-blocks : (r n : ℕ) (x : List Bool) (bytes : List ℕ) → Padded x bytes → first_blocks r n (bits_in high_first bytes) ≡ first_blocks r n (with_one x)
marked-blocks r n x bytes marked =
    ap (first_blocks r n) (marked ∙ sym (append_assoc x (true ∷ []) _)) ∙ first-zeros r n (with_one x) (8 * length bytes - length x - 1)

-- a piece with nothing before it
pub held_then-alone : (held piece : List ℕ) → held_then held 0 piece ≡ bits_in high_first piece
unfolding unpack
held_then-alone held piece = refl
