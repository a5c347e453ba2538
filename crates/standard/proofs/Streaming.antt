-- Bits taken in parts: the whole blocks of a string, and the rest, do not depend on where it was cut; nor does the state after them.
-- Assumes nothing.
use mathlib.Core.Path.{◌≡◌, refl, ap, ◌∙◌}
use mathlib.Core.Bool.{Bool}
use mathlib.Core.List.{List, [], ◌∷◌, ◌++◌, flat_map, foldl-append}
use Prim.Native.Nat.{ℕ, zero, suc, ◌+◌, ◌*◌, ◌/◌, ◌%◌, ◌≤◌, ◌<◌}
use native.Mathlib.Nat.{div-add-mod', add-mul, add_comm, mul_comm, add-mul-div_right, div-eq_of_lt, div_self, zero-mul, suc-mul}
use native.Mathlib.Omega.{arith}
use lib.ListN.{length, drop, length-append, length-drop}
use lib.Seq.{drop-append-le, drop-drop, take_all, length-take-le}
use Rattle.standard.specs.Bits.{cut}
use Rattle.standard.specs.Families.{Variant}
use Rattle.standard.specs.Chain.{start_state, padding, padded, whole_blocks, rest_of, blocks_of, block_count, Blocks, step, run, end_state}
use Rattle.standard.proofs.CutLaws.{length_cut, cut-add, cut-append, cut-join}

-- What streaming asks of a variant: a block has bits, start and step keep the state's size, and padding fills the last block.
pub record Streams (H : Variant) : Type 0 where
  pub rate-pos : 0 < H.r
  pub start-length : length (start_state H) ≡ H.t
  pub step-length : (s b : List Bool) → length s ≡ H.t → length (step H s b) ≡ H.t
  pub padding-fills : (n : ℕ) → (n + length (padding H n)) % H.r ≡ 0

-- ---- rows of blocks

-- absorbing a row in two parts is absorbing it whole
pub run-append : (H : Variant) (s : List Bool) (xs ys : List (List Bool)) → run H s (xs ++ ys) ≡ run H (run H s xs) ys
unfolding run
run-append H s xs ys = foldl-append (step H) s xs ys

pub run_none : (H : Variant) (s : List Bool) → run H s [] ≡ s
unfolding run
run_none H s = refl

pub run-one : (H : Variant) (s : List Bool) (b : List Bool) (bs : List (List Bool)) → run H s (b ∷ bs) ≡ run H (step H s b) bs
unfolding run
run-one H s b bs = refl

pub run_length : (H : Variant) → Streams H → (bs : List (List Bool)) (s : List Bool) → length s ≡ H.t → length (run H s bs) ≡ H.t
unfolding run
run_length H h [] s ls = ls
run_length H h (b ∷ bs) s ls = run_length H h bs (step H s b) (h.step-length s b ls)

-- ---- whole blocks and the rest

module _ (r : ℕ) where
  within : (bs : List Bool) → length bs / r * r ≤ length bs
  within bs = omega (arith, div-add-mod' (length bs) r)

  pub length_rest : (bs : List Bool) → length (rest_of r bs) ≡ length bs % r
  unfolding rest_of
  length_rest bs = length-drop (length bs / r * r) bs ∙ omega (arith, div-add-mod' (length bs) r)

  pub length_whole : (bs : List Bool) → length (whole_blocks r bs) ≡ length bs / r
  unfolding whole_blocks
  length_whole bs = length_cut r (length bs / r) bs

  pub cut-blocks : (n : ℕ) (bs : List Bool) → n * r ≤ length bs → Blocks r (cut r n bs)
  unfolding cut
  cut-blocks zero bs h = tt
  cut-blocks (suc n) bs h = (
    length-take-le r bs (omega (arith, suc-mul n r)),
    cut-blocks n (drop r bs) (omega (arith, length-drop r bs, suc-mul n r)),
  )

  -- every whole block has r bits
  pub whole-blocks : (bs : List Bool) → Blocks r (whole_blocks r bs)
  unfolding whole_blocks
  whole-blocks bs = cut-blocks (length bs / r) bs (within bs)

  -- where nothing is left over, the blocks are the string
  pub whole_join : (bs : List Bool) → length bs % r ≡ 0 → flat_map (λ b. b) (whole_blocks r bs) ≡ bs
  unfolding whole_blocks
  whole_join bs e =
      cut-join r (length bs / r) bs
      ∙ take_all (r * (length bs / r)) bs (omega (arith, div-add-mod' (length bs) r, mul_comm r (length bs / r)))

module _ (r : ℕ) (pos : 0 < r) where
  -- the block count of a string in two parts
  count : (x y : List Bool) → length (x ++ y) / r ≡ length x / r + length (rest_of r x ++ y) / r
  count x y =
      let k : ℕ = length (rest_of r x ++ y) in
      let e : length (x ++ y) ≡ k + length x / r * r =
      length-append x y ∙ omega (arith, length-append (rest_of r x) y, length_rest r x, div-add-mod' (length x) r) in
      rw (e, add-mul-div_right k (length x / r) pos) (add_comm (k / r) (length x / r))

  past : (x y : List Bool) → drop (length x / r * r) (x ++ y) ≡ rest_of r x ++ y
  unfolding rest_of
  past x y = drop-append-le (length x / r * r) x y (within r x)

  pub whole_append : (x y : List Bool) → whole_blocks r (x ++ y) ≡ whole_blocks r x ++ whole_blocks r (rest_of r x ++ y)
  unfolding whole_blocks
  whole_append x y = rw (count x y, cut-add, cut-append r (length x / r) x y (within r x), past x y)

  rest-is : (bs : List Bool) → rest_of r bs ≡ drop (length bs / r * r) bs
  unfolding rest_of
  rest-is bs = refl

  pub rest-append : (x y : List Bool) → rest_of r (x ++ y) ≡ rest_of r (rest_of r x ++ y)
  rest-append x y = rw (rest-is (x ++ y), count x y, add-mul, ← drop-drop, past x y, ← rest-is)

  -- fewer bits than a block
  pub whole-short : (bs : List Bool) → length bs < r → whole_blocks r bs ≡ []
  unfolding whole_blocks cut
  whole-short bs h = rw (div-eq_of_lt h)

  -- as many as one
  pub whole-one : (bs : List Bool) → length bs ≡ r → whole_blocks r bs ≡ bs ∷ []
  unfolding whole_blocks cut
  whole-one bs e =
      ap (λ (n : ℕ). cut r (n / r) bs) e ∙ ap (λ (n : ℕ). cut r n bs) (div_self pos) ∙ ap (λ (b : List Bool). b ∷ []) (take_all r bs (omega arith))

  pub rest-short : (bs : List Bool) → length bs < r → rest_of r bs ≡ bs
  unfolding rest_of
  rest-short bs h = rw (div-eq_of_lt h, zero-mul)

-- ---- the blocks of a message

pub length-padded : (H : Variant) (m : List Bool) → length (padded H m) ≡ length m + length (padding H (length m))
unfolding padded
length-padded H m = length-append m (padding H (length m))

pub block-count : (H : Variant) (m : List Bool) → length (blocks_of H m) ≡ block_count H (length m)
unfolding blocks_of block_count
block-count H m = rw (length_whole, length-padded)

-- every block of a message has r bits
pub blocks-sized : (H : Variant) (m : List Bool) → Blocks H.r (blocks_of H m)
unfolding blocks_of
blocks-sized H m = whole-blocks H.r (padded H m)

module _ (H : Variant) (h : Streams H) (m : List Bool) where
  -- padding is added to the rest
  pub whole-padded : whole_blocks H.r (padded H m) ≡ whole_blocks H.r m ++ whole_blocks H.r (rest_of H.r m ++ padding H (length m))
  unfolding padded
  whole-padded = whole_append H.r h.rate-pos m (padding H (length m))

  padded-fills : length (padded H m) % H.r ≡ 0
  padded-fills = rw length-padded (h.padding-fills (length m))

  -- the blocks are the padded message
  pub blocks-join : flat_map (λ b. b) (blocks_of H m) ≡ padded H m
  unfolding blocks_of
  blocks-join = whole_join H.r (padded H m) padded-fills

  pub end-length : length (end_state H m) ≡ H.t
  unfolding end_state
  end-length = run_length H h (blocks_of H m) (start_state H) h.start-length

  -- the end state, from the state after the whole blocks
  pub end-parts : end_state H m ≡ run H (run H (start_state H) (whole_blocks H.r m)) (whole_blocks H.r (rest_of H.r m ++ padding H (length m)))
  unfolding end_state blocks_of
  end-parts = rw (whole-padded, run-append)
