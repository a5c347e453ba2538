-- A whole message in one run: the blocks of the bytes that hold it are the standard's, and lead to its end state.
-- Assumes nothing.
use mathlib.Core.Path.{◌≡◌, refl, sym, ap, ap₂, ◌∙◌}
use mathlib.Core.Bool.{Bool, true, cond}
use mathlib.Core.List.{List, [], ◌∷◌, ◌++◌}
use Prim.Native.Nat.{ℕ, ◌^◌, ◌≤◌}
use native.Mathlib.Omega.{arith}
use lib.ListN.{length}
use Rattle.standard.specs.Families.{Variant, is_sponge, state_in}
use Rattle.standard.specs.Chain.{start_state, padded, blocks_of, run, end_state}
use Rattle.standard.specs.Variants.{variant, known}
use Rattle.standard.proofs.Streaming.{run-append, run_length, run_none}
use Rattle.standard.proofs.Variants.{streams}
use Rattle.standard.specs.Layout.{packed_state}
use Rattle.chain.specs.Holding.{Holds}
use Rattle.chain.specs.Blocks.{none_held, bits_after, first_blocks, after_blocks}
use Rattle.chain.specs.declared.stretch.Held.{Held}
use Rattle.chain.specs.Padding.{data_blocks, length_block, length_blocks}
use Rattle.chain.specs.declared.split.Split.{Split}
use Rattle.chain.specs.Splits.{message_held}
use Rattle.chain.proofs.BlockRows.{marked-blocks, held_then-alone}
use Rattle.chain.proofs.LastBlocks.{ending-blocks, marked-most}
use Rattle.chain.proofs.MessageLaws.{held-length}
use Rattle.chain.proofs.States.{stored, stored-ready}

-- the bytes of a start hold a state
pub start-ready : (v : ℕ) → known v ≡ true → (s : List ℕ) → s ≡ packed_state (variant v) (start_state (variant v)) → Holds v s
start-ready v k s e = stored-ready v k s (start_state (variant v)) (streams v k).start-length e

-- a message, and its blocks but the length's
module _ (v : ℕ) (k : known v ≡ true) (m : Split) (count : ℕ) (e : count ≡ data_blocks (variant v) m.bits) where
  abbrev H : Variant
  H = variant v

  abbrev M : List Bool
  M = message_held m

  pub count_most : count ≤ 2 ^ 32
  count_most = omega (arith, marked-most v k m.bits, m.holds.short)

  -- the stretch of bits that they are cut from
  module _ (held : Held) (bytes : List ℕ) (is : (held ≡ none_held) × (bytes ≡ m.front.now ++ m.last ∷ [])) where
    -- with the length's after them they are all
    all_blocks : first_blocks H.r count (bits_after held bytes) ++ length_blocks H m.bits ≡ blocks_of H M
    unfolding blocks_of padded
    all_blocks =
        let many : length M ≡ m.bits = held-length m.holds in
        ap₂ (λ (bs : List (List Bool)) (n : ℕ). bs ++ length_blocks H n)
        (ap₂ (first_blocks H.r) (e ∙ ap (data_blocks H) (sym many)) (ap₂ bits_after is.0 is.1 ∙ held_then-alone _ (m.front.now ++ m.last ∷ []))
        ∙ marked-blocks H.r (data_blocks H (length M)) M (m.front.now ++ m.last ∷ []) m.holds.marked)
        (sym many)
        ∙ sym (ending-blocks v k M (length M) refl)

    module _ (s : List ℕ) (es : s ≡ packed_state (variant v) (start_state (variant v))) where
      abbrev after : List Bool
      after = after_blocks H (state_in H s) held bytes count

      started : state_in H s ≡ start_state H
      started = stored v k s (start_state H) (streams v k).start-length es

      after-long : length after ≡ H.t
      after-long = run_length H (streams v k) (first_blocks H.r count (bits_after held bytes)) (state_in H s) (ap length started ∙ (streams v k).start-length)

      -- from there on, the length's
      pub end-run : run H after (length_blocks H m.bits) ≡ end_state H M
      unfolding end_state
      end-run = sym (run-append H (state_in H s) (first_blocks H.r count (bits_after held bytes)) (length_blocks H m.bits)) ∙ ap₂ (run H) started all_blocks

      -- a sponge has none
      pub sponge-run : is_sponge (variant v) ≡ true → after_blocks (variant v) (state_in (variant v) s) held bytes count ≡ end_state (variant v) (message_held m)
      sponge-run q = sym (ap (λ (b : Bool). run H after (cond b [] (length_block m.bits ∷ []))) q ∙ run_none H after) ∙ end-run

      module _ (marked : List ℕ) (em : marked ≡ packed_state (variant v) (after_blocks (variant v) (state_in (variant v) s) held bytes count)) where
        pub marked-ready : Holds v marked
        marked-ready = stored-ready v k marked after after-long em

        pub marked-run : run (variant v) (state_in (variant v) marked) (length_blocks (variant v) m.bits) ≡ end_state (variant v) (message_held m)
        marked-run = ap (λ (u : List Bool). run H u (length_blocks H m.bits)) (stored v k marked after after-long em) ∙ end-run
