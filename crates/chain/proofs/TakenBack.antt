-- The permutation by variant, block steps taken back, and the one block that leads from a state to another.
-- Assumes nothing.
use mathlib.Core.Path.{◌≡◌, refl, sym, ap, ◌∙◌}
use mathlib.Core.Bool.{Bool}
use mathlib.Core.List.{List, [], ◌∷◌, foldl-append, reverse-cons}
use Prim.Native.Nat.{ℕ, suc, ◌<◌}
use lib.ListN.{length, take, drop, set}
use lib.Seq.{set_split}
use Rattle.standard.specs.Bits.{Order, turned, xor_into}
use Rattle.standard.specs.Rounds.{opposite}
use Rattle.standard.specs.declared.Direction.{Direction}
use Rattle.standard.specs.declared.Direction.TheVariants.{Forward, Backward}
use Rattle.standard.specs.Families.{Variant, order}
use Rattle.standard.specs.Sponge.{permutation, sponge_step}
use Rattle.standard.specs.Chain.{step, run}
use Rattle.standard.proofs.BitLaws.{length-xor_into, xor_into-twice}
use Rattle.standard.proofs.Streaming.{Streams, run_length, run-append, run_none, run-one}
use Rattle.standard.proofs.Sponge.{IsSponge, step-sponge, order-sponge, step-length}
use Rattle.chain.specs.TakenBack.{permuted_by, permuted_state, unstep, unrun}

module _ (H : Variant) (h : IsSponge H) where
  -- ---- the permutation

  pub permuted-same : permuted_state H ≡ permutation h.inner
  unfolding permuted_state
  permuted-same = ap permuted_by h.family-is

  permuted-is : (w : Direction) (s : List Bool) → permuted_state H w s ≡ permutation h.inner w s
  permuted-is w s = ap (λ (f : Direction → List Bool → List Bool). f w s) permuted-same

  pub permuted-length : (w : Direction) (s : List Bool) → length s ≡ H.t → length (permuted_state H w s) ≡ H.t
  permuted-length w s l = ap length (permuted-is w s) ∙ h.keeps w s l

  pub permuted-undo : (w : Direction) (s : List Bool) → length s ≡ H.t → permuted_state H (opposite w) (permuted_state H w s) ≡ s
  permuted-undo w s l = permuted-is (opposite w) (permuted_state H w s) ∙ ap (permutation h.inner (opposite w)) (permuted-is w s) ∙ h.undoes w s l

  -- ---- one step

  pub step-permutes : (s b : List Bool) → step H s b ≡ permuted_state H Forward (xor_into s (turned (order H) b))
  unfolding sponge_step
  step-permutes s b =
      step-sponge H h s b
      ∙ sym (permuted-is Forward (xor_into s (turned (order H) b)) ∙ ap (λ (o : Order). permutation h.inner Forward (xor_into s (turned o b))) (order-sponge H h))

  pub unstep-length : (s b : List Bool) → length s ≡ H.t → length (unstep H s b) ≡ H.t
  unfolding unstep
  unstep-length s b l = length-xor_into (permuted_state H Backward s) _ ∙ permuted-length Backward s l

  pub unstep-step : (s b : List Bool) → length s ≡ H.t → unstep H (step H s b) b ≡ s
  unfolding unstep
  unstep-step s b l = rw (step-permutes s b, permuted-undo Forward _ (length-xor_into s _ ∙ l), xor_into-twice)

  pub step-unstep : (s b : List Bool) → length s ≡ H.t → step H (unstep H s b) b ≡ s
  unfolding unstep
  step-unstep s b l = rw (step-permutes, xor_into-twice) (permuted-undo Backward s l)

  -- ---- a row of blocks

  pub unrun-one : (s b : List Bool) (bs : List (List Bool)) → unrun H s (b ∷ bs) ≡ unstep H (unrun H s bs) b
  unfolding unrun
  unrun-one s b bs = rw (reverse-cons b bs, foldl-append)

  pub unrun-none : (s : List Bool) → unrun H s [] ≡ s
  unfolding unrun
  unrun-none s = refl

  pub unrun-length : (bs : List (List Bool)) (s : List Bool) → length s ≡ H.t → length (unrun H s bs) ≡ H.t
  unrun-length [] s l = rw unrun-none l
  unrun-length (b ∷ bs) s l = rw unrun-one (unstep-length (unrun H s bs) b (unrun-length bs s l))

  pub unrun-run : (bs : List (List Bool)) (s : List Bool) → length s ≡ H.t → unrun H (run H s bs) bs ≡ s
  unrun-run [] s l = rw (unrun-none, run_none)
  unrun-run (b ∷ bs) s l = rw (unrun-one, run-one, unrun-run bs (step H s b) (step-length H h s b l)) (unstep-step s b l)

  pub run-unrun : (bs : List (List Bool)) (s : List Bool) → length s ≡ H.t → run H (unrun H s bs) bs ≡ s
  run-unrun [] s l = rw (unrun-none, run_none)
  run-unrun (b ∷ bs) s l = rw (unrun-one, run-one, step-unstep (unrun H s bs) b (unrun-length bs s l)) (run-unrun bs s l)

-- ---- a block put at a place of a row

module _ (H : Variant) (g : Streams H) (h : IsSponge H) (s : List Bool) (ls : length s ≡ H.t) (bs : List (List Bool)) (place : ℕ) (within : place < length bs)
    (e : List Bool) (le : length e ≡ H.t) where
  pub before-length : length (run H s (take place bs)) ≡ H.t
  before-length = run_length H g (take place bs) s ls

  pub wanted-length : length (permuted_state H Backward (unrun H e (drop (suc place) bs))) ≡ H.t
  wanted-length = permuted-length H h Backward _ (unrun-length H h (drop (suc place) bs) e le)

  put-run : (b : List Bool) → run H s (set bs place b) ≡ run H (step H (run H s (take place bs)) b) (drop (suc place) bs)
  put-run b = rw (set_split bs place b within, run-append, run-one)

  pub leads-to : (b : List Bool) → run H s (set bs place b) ≡ e
      → xor_into (run H s (take place bs)) (turned (order H) b) ≡ permuted_state H Backward (unrun H e (drop (suc place) bs))
  leads-to b f =
      let S : List Bool = run H s (take place bs) in
      let back = unrun-run H h (drop (suc place) bs) (step H S b) (step-length H h S b before-length) in
      rw (← f, put-run b, back, step-permutes H h S b) (sym (permuted-undo H h Forward _ (length-xor_into S _ ∙ before-length)))

  pub leads-from : (b : List Bool)
      → xor_into (run H s (take place bs)) (turned (order H) b) ≡ permuted_state H Backward (unrun H e (drop (suc place) bs))
      → run H s (set bs place b) ≡ e
  leads-from b f =
      rw (put-run b, step-permutes H h, f, permuted-undo H h Backward _ (unrun-length H h (drop (suc place) bs) e le)) (run-unrun H h (drop (suc place) bs) e le)
