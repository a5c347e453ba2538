-- Running over the blocks of a bit string one by one, on the bytes that hold states and blocks.
-- Assumes nothing.
use mathlib.Core.Path.{◌≡◌, sym, ap, ap₂, ◌∙◌}
use mathlib.Core.Bool.{Bool, true}
use mathlib.Core.List.{List}
use Prim.Native.Nat.{ℕ, ◌+◌, ◌*◌, ◌/◌, ◌^◌, ◌≤◌}
use native.Mathlib.Nat.{mul_left_comm, mul-le-mul}
use native.Mathlib.Omega.{arith}
use lib.ListN.{length, drop}
use Rattle.standard.specs.Bits.{high_first, unpack, filled}
use Rattle.standard.specs.Families.{Variant}
use Rattle.standard.specs.Chain.{step, run}
use Rattle.standard.specs.Variants.{variant, known}
use Rattle.standard.proofs.BitLaws.{length-filled, unpack-pack}
use Rattle.standard.proofs.Streaming.{run-append, run-one, run_none}
use Rattle.standard.proofs.Variants.{Bounds, bounds}
use Rattle.standard.specs.Layout.{block_room, packed_block}
use Rattle.chain.specs.Holding.{block_in, HoldsBlock}
use Rattle.chain.specs.Blocks.{first_blocks}
use Rattle.chain.proofs.BlockRows.{first-none, first_more}

module _ (v : ℕ) (k : known v ≡ true) where
  abbrev H : Variant
  H = variant v

  pub sizes : Bounds (variant v)
  sizes = bounds v k

  -- ---- a block in its bytes

  pub block_read : (x : List ℕ) (B : List Bool) → length B ≡ H.r → x ≡ packed_block B → block_in H x ≡ B
  block_read x B l e = ap₂ (unpack high_first) (sym l) e ∙ unpack-pack high_first block_room B (omega (arith, sizes.rate-most))

  pub block-ready : (x : List ℕ) (B : List Bool) → length B ≡ H.r → x ≡ packed_block B → HoldsBlock v x
  block-ready x B l e = e ∙ ap packed_block (sym (block_read x B l e))

  -- ---- block j of q half bytes

  module _ (q : ℕ) (eq : q ≡ H.r / 4) where
    pub quarters : 4 * q ≡ H.r
    quarters = omega (arith, sizes.rate-quarters)

    -- by half bytes, and by bits
    pub block-is : (bs : List Bool) (j : ℕ) → filled (4 * q) (drop (4 * (j * q)) bs) ≡ filled H.r (drop (j * H.r) bs)
    block-is bs j = rw (← quarters, mul_left_comm 4 j q)

    pub block-at-ready : (x : List ℕ) (bs : List Bool) (j : ℕ) → x ≡ packed_block (filled (4 * q) (drop (4 * (j * q)) bs)) → HoldsBlock v x
    block-at-ready x bs j e = block-ready x (filled H.r (drop (j * H.r) bs)) (length-filled H.r (drop (j * H.r) bs)) (e ∙ ap packed_block (block-is bs j))

    pub few-halves : q ≤ 32
    few-halves = omega (arith, sizes.rate-most)

    -- its place stays far below the limits of the machine's numbers
    pub place-le : (j : ℕ) → j ≤ 2 ^ 32 → j * q ≤ 2 ^ 40
    place-le j h = omega (arith, mul-le-mul h few-halves)

  -- ---- the blocks of bs run one by one through the state S

  module _ (S : List Bool) (bs : List Bool) where
    abbrev after : ℕ → List Bool
    after j = run H S (first_blocks H.r j bs)

    pub run-start : S ≡ after 0
    run-start = sym (ap (run H S) (first-none H.r bs) ∙ run_none H S)

    pub run_more : (q : ℕ) → q ≡ H.r / 4 → (j : ℕ) (at next : List Bool) → at ≡ after j
        → next ≡ step H at (filled (4 * q) (drop (4 * (j * q)) bs)) → next ≡ after (j + 1)
    run_more q eq j at next ea en =
        en
        ∙ ap₂ (step H) ea (block-is q eq bs j)
        ∙ sym (rw (first_more, run-append, run-one, run_none))
