-- What makes a variant a sponge, and what follows: the block step loses nothing, padding adds one block, and a message is found again in its blocks.
-- Assumes nothing.
use mathlib.Core.Path.{◌≡◌, refl, sym, ap, ◌∙◌}
use mathlib.Core.Bool.{Bool, true, false, xor}
use mathlib.Core.List.{List, [], ◌∷◌, ◌++◌, flat_map}
use Prim.Native.Nat.{ℕ, zero, suc, ◌+◌, ◌-◌, ◌/◌, ◌%◌, ◌*◌, ◌≤◌, ◌<◌}
use native.Mathlib.Nat.{not-suc-le-zero, le_of_suc-le-suc, suc_inj, suc-ne-zero, mul-mod_left, mul-div_left, div-add-mod', mod-lt, add-mul}
use native.Mathlib.Omega.{arith}
use lib.ListN.{length, replicate, length-replicate}
use Rattle.standard.specs.Bits.{Order, turned, xor_into}
use Rattle.standard.specs.Rounds.{opposite}
use Rattle.standard.specs.declared.Direction.{Direction}
use Rattle.standard.specs.declared.Direction.TheVariants.{Forward}
use Rattle.standard.specs.Sponge.{permutation, sponge_padding, sponge_step}
use Rattle.standard.specs.Families.{Permutation, Family, sponge, Variant, bit_order, order_of, order}
use Rattle.standard.specs.Chain.{start_state, padding_of, padding, padded, blocks_of, block_count, step_of, step}
use Rattle.standard.proofs.Tests.{true-not-false}
use Rattle.standard.proofs.BitLaws.{length-xor_into, xor_into-twice, xor-back}
use Rattle.standard.proofs.Turned.{length-turned, turned-injective}
use Rattle.standard.proofs.Streaming.{Streams, blocks-join}

-- ---- where a padded string ends

no_one : (a : ℕ) (x z : List Bool) → replicate a false ≡ x ++ true ∷ z → ⊥
no_one zero [] z e = suc-ne-zero (length z) (sym (ap length e))
no_one (suc a) [] z e = true-not-false (cc)
no_one zero (b ∷ x) z e = suc-ne-zero (length (x ++ true ∷ z)) (sym (ap length e))
no_one (suc a) (b ∷ x) z e = no_one a x z (cc)

-- a string ends where the last 1 bit begins
pub ends_at : (x y : List Bool) (a b : ℕ) → x ++ true ∷ replicate a false ≡ y ++ true ∷ replicate b false → x ≡ y
ends_at [] [] a b e = refl
ends_at [] (d ∷ y) a b e = absurd (no_one a y (replicate b false) (cc))
ends_at (c ∷ x) [] a b e = absurd (no_one b x (replicate a false) (cc))
ends_at (c ∷ x) (d ∷ y) a b e =
    let hd : c ≡ d = cc in
    let tl : x ≡ y = ends_at x y a b (cc) in
    cc

-- ---- sponges

-- A sponge over a permutation: a block fits the state, and the permutation keeps the state's size and is undone by its inverse.
pub record IsSponge (H : Variant) : Type 0 where
  pub inner : Permutation
  pub rate : ℕ
  pub family-is : H.family ≡ sponge inner rate
  pub fits : H.r ≤ H.t
  pub keeps : (w : Direction) (s : List Bool) → length s ≡ H.t → length (permutation inner w s) ≡ H.t
  pub undoes : (w : Direction) (s : List Bool) → length s ≡ H.t → permutation inner (opposite w) (permutation inner w s) ≡ s

module _ (H : Variant) (h : IsSponge H) where
  pub padding-sponge : (n : ℕ) → padding H n ≡ sponge_padding H.r n
  unfolding padding
  padding-sponge n = ap (λ (f : Family). padding_of f H.r n) h.family-is

  pub step-sponge : (s b : List Bool) → step H s b ≡ sponge_step h.inner s b
  unfolding step
  step-sponge s b = ap (λ (f : Family). step_of f s b) h.family-is

  pub order-sponge : order H ≡ bit_order h.inner
  order-sponge = ap order_of h.family-is

-- ---- xor into a state

xor-left : (x a b : Bool) → xor x a ≡ xor x b → a ≡ b
xor-left x a b e = sym (xor-back x a) ∙ ap (xor x) e ∙ xor-back x b

-- blocks of one length, no longer than the state: equal results mean equal blocks
block-injective : (s a b : List Bool) → length a ≡ length b → length a ≤ length s → xor_into s a ≡ xor_into s b → a ≡ b
unfolding xor_into
block-injective s [] [] l h e = refl
block-injective s [] (b ∷ bs) l h e = absurd (suc-ne-zero (length bs) (sym l))
block-injective s (a ∷ ra) [] l h e = absurd (suc-ne-zero (length ra) l)
block-injective [] (a ∷ ra) (b ∷ bs) l h e = absurd (not-suc-le-zero h)
block-injective (x ∷ s) (a ∷ ra) (b ∷ bs) l h e =
    let hd : a ≡ b = xor-left x a b (cc) in
    let tl : ra ≡ bs = block-injective s ra bs (suc_inj l) (le_of_suc-le-suc h) (cc) in
    cc

-- equal results mean equal states
state-injective : (b s u : List Bool) → xor_into s b ≡ xor_into u b → s ≡ u
state-injective b s u e = sym (xor_into-twice s b) ∙ ap (λ (x : List Bool). xor_into x b) e ∙ xor_into-twice u b

-- ---- the step

module _ (H : Variant) (h : IsSponge H) where
  permutation-injective : (w : Direction) (s u : List Bool) → length s ≡ H.t → length u ≡ H.t → permutation h.inner w s ≡ permutation h.inner w u → s ≡ u
  permutation-injective w s u ls lu e = sym (h.undoes w s ls) ∙ ap (permutation h.inner (opposite w)) e ∙ h.undoes w u lu

  -- a state with a block in it has the state's size
  taken-length : (s b : List Bool) → length s ≡ H.t → length (xor_into s b) ≡ H.t
  taken-length s b ls = length-xor_into s b ∙ ls

  pub step-length : (s b : List Bool) → length s ≡ H.t → length (step H s b) ≡ H.t
  unfolding sponge_step
  step-length s b ls = rw (step-sponge H h) (h.keeps Forward _ (taken-length s _ ls))

  -- the step loses nothing of the state
  pub step-state : (b s u : List Bool) → length s ≡ H.t → length u ≡ H.t → step H s b ≡ step H u b → s ≡ u
  unfolding sponge_step
  step-state b s u ls lu e =
      state-injective _ s u (permutation-injective Forward _ _ (taken-length s _ ls) (taken-length u _ lu) (rw (step-sponge H h s b, step-sponge H h u b) at e))

  -- nor of the block
  pub step_block : (s a b : List Bool) → length s ≡ H.t → length a ≡ H.r → length b ≡ H.r → step H s a ≡ step H s b → a ≡ b
  unfolding sponge_step
  step_block s a b ls la lb e =
      let o : Order = bit_order h.inner in
      let lx : length (turned o a) ≡ H.r = length-turned o a ∙ la in
      let ly : length (turned o b) ≡ H.r = length-turned o b ∙ lb in
      turned-injective o a b
      (block-injective s (turned o a) (turned o b) (lx ∙ sym ly) (omega (arith, h.fits))
      (permutation-injective Forward _ _ (taken-length s (turned o a) ls) (taken-length s (turned o b) ls) (rw (step-sponge H h s a, step-sponge H h s b) at e)))

  -- ---- padding

  pub fills : 0 < H.r → (n : ℕ) → n + length (padding H n) ≡ (n / H.r + 1) * H.r
  unfolding sponge_padding
  fills pos n =
      let r : ℕ = H.r in
      rw (padding-sponge H h n) (omega (arith, length-replicate (r - 1 - n % r) false, div-add-mod' n r, mod-lt n {m = r} pos, add-mul (n / r) 1 r))

  -- a sponge streams
  pub sponge-streams : 0 < H.r → length (start_state H) ≡ H.t → Streams H
  unfolding sponge_padding
  sponge-streams pos start =
      record {
        rate-pos = pos;
        start-length = start;
        step-length = step-length;
        padding-fills = λ n. rw (fills pos n) (mul-mod_left (n / H.r + 1) H.r);
      }

  -- two messages with one padded message are one
  pub padded-injective : (x y : List Bool) → padded H x ≡ padded H y → x ≡ y
  unfolding padded sponge_padding
  padded-injective x y e =
      ends_at x y (H.r - 1 - length x % H.r) (H.r - 1 - length y % H.r) (rw (padding-sponge H h (length x), padding-sponge H h (length y)) at e)

module _ (H : Variant) (g : Streams H) (h : IsSponge H) where
  -- and two with one row of blocks
  pub blocks-injective : (x y : List Bool) → blocks_of H x ≡ blocks_of H y → x ≡ y
  blocks-injective x y e =
      padded-injective H h x y (sym (blocks-join H g x) ∙ ap (flat_map (λ b. b)) e ∙ blocks-join H g y)

  -- n bits give floor(n / r) + 1 blocks
  pub sponge-count : (n : ℕ) → block_count H n ≡ n / H.r + 1
  unfolding block_count
  sponge-count n = rw (fills H h g.rate-pos n) (mul-div_left (n / H.r + 1) g.rate-pos)
