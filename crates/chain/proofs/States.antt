-- The bytes that hold a state, through the permutation of either family, and the block step.
-- Assumes nothing.
use mathlib.Core.Path.{◌≡◌, sym, ap, ◌∙◌}
use mathlib.Core.Bool.{Bool, true}
use mathlib.Core.List.{List}
use mathlib.Core.Logic.{◌⊎◌, inl, inr, ⊎_elim}
use Prim.Native.Nat.{ℕ, ◌%◌, ◌<◌}
use native.Mathlib.Omega.{arith}
use lib.ListN.{length, get_or}
use Rattle.standard.specs.Bits.{Order, high_first, bits_in, xor_into, turned}
use Rattle.standard.specs.declared.Direction.TheVariants.{Backward}
use Rattle.standard.specs.Families.{Variant, is_sponge, order, state_in}
use Rattle.standard.specs.Variants.{variant, known}
use Rattle.standard.proofs.BitLaws.{length-unpack}
use Rattle.standard.proofs.Variants.{Bounds, bounds, WholeBytes, layouts, is-sponge}
use Rattle.standard.specs.Layout.{block_room, state_room, packed_state}
use Rattle.chain.specs.Holding.{block_in, Holds, HoldsBlock}
use Rattle.chain.specs.TakenBack.{permuted_state, unstep}
use Rattle.chain.proofs.TakenBack.{permuted-length}
use Rattle.octets.proofs.LayoutLaws.{state-back, taken-bytes}

module _ (v : ℕ) (k : known v ≡ true) where
  b : Bounds (variant v)
  b = bounds v k

  -- state_room bytes hold the state that is read from them
  pub state-length : (bytes : List ℕ) → length bytes ≡ state_room → length (state_in (variant v) bytes) ≡ (variant v).t
  unfolding state_in
  state-length bytes l = length-unpack (order (variant v)) (variant v).t bytes (omega (arith, b.state-most))

  pub stored : (x : List ℕ) (s : List Bool) → length s ≡ (variant v).t → x ≡ packed_state (variant v) s → state_in (variant v) x ≡ s
  unfolding state_in
  stored x s l e = rw e (state-back (order (variant v)) (variant v).t b.state-most s l)

  pub stored-ready : (x : List ℕ) (s : List Bool) → length s ≡ (variant v).t → x ≡ packed_state (variant v) s → Holds v x
  stored-ready x s l e = e ∙ ap (packed_state (variant v)) (sym (stored x s l e))

  -- a block in its bytes, xored into a state in its bytes
  module _ (s x z : List ℕ) (ls : length s ≡ state_room) (lz : length z ≡ block_room) (hx : (i : ℕ) → get_or x i 0 < 256) (lx : length x ≡ state_room)
      (es : Holds v s) (ez : HoldsBlock v z) (ex : (o : Order) → bits_in o x ≡ xor_into (bits_in o s) (bits_in o z)) where
    -- the state with the block in it
    abbrev taken : List Bool
    taken = xor_into (state_in (variant v) s) (turned (order (variant v)) (block_in (variant v) z))

    pub taken-state : x ≡ packed_state (variant v) taken
    unfolding state_in
    taken-state =
        let H : Variant = variant v in
        let B : List Bool = block_in H z in
        let l_b : length B ≡ H.r = length-unpack high_first H.r z (omega (arith, b.rate-most)) in
        let w : (high_first ≡ order H) ⊎ (length B % 8 ≡ 0) = ⊎_elim inl (λ e. inr (ap (λ (n : ℕ). n % 8) l_b ∙ e)) (⊎_elim inl (λ (y : WholeBytes H). inr y.block) (layouts v k)) in
        taken-bytes (order H) H.t b.state-most s x B ls hx lx es w (omega (arith, b.rate-most)) (omega (arith, b.rate-fits))
        (ex (order H) ∙ ap (λ (l : List ℕ). xor_into (bits_in (order H) s) (bits_in (order H) l)) ez)

  -- the permutation taken back, and then the block xored out
  pub taken_back : is_sponge (variant v) ≡ true → (s p x z : List ℕ) → length s ≡ state_room → length p ≡ state_room → length z ≡ block_room → ((i : ℕ) → get_or x i 0 < 256) → length x ≡ state_room
      → p ≡ packed_state (variant v) (permuted_state (variant v) Backward (state_in (variant v) s)) → HoldsBlock v z
      → ((o : Order) → bits_in o x ≡ xor_into (bits_in o p) (bits_in o z))
      → x ≡ packed_state (variant v) (unstep (variant v) (state_in (variant v) s) (block_in (variant v) z))
  unfolding unstep
  taken_back q s p x z ls lp lz hx lx ep ez ex =
      let S : List Bool = permuted_state (variant v) Backward (state_in (variant v) s) in
      let l_s : length S ≡ (variant v).t = permuted-length (variant v) (is-sponge v q) Backward (state_in (variant v) s) (state-length s ls) in
      rw (stored p S l_s ep) at (taken-state p x z lp lz hx lx (stored-ready p S l_s ep) ez ex)
