-- Demand 3, the lost block, said of states and of the bytes that the caller finds. Assumes nothing.
use mathlib.Core.Path.{◌≡◌, refl, sym, ap, ◌∙◌, subst}
use mathlib.Core.Bool.{Bool, true, false, cond}
use mathlib.Core.List.{List, [], ◌++◌}
use mathlib.Core.Logic.{◌↔◌, ⊎_elim}
use Prim.Native.Nat.{ℕ, suc, ◌<◌}
use lib.Dec.{eqb}
use lib.ListN.{length, drop, get_or}
use lib.Seq.{set-get_or}
use borrow.Author.Tests.{lt-ltb, le-ltb, eq-eqb}
use Rattle.answers.specs.declared.Refusal.TheVariants.{NoBlock}
use Rattle.answers.specs.Refusals.{Status, Done, Refused}
use Rattle.answers.specs.Checks.{first_refusal}
use Rattle.answers.specs.Outputs.{written}
use Rattle.answers.proofs.Rows.{row-second}
use Rattle.standard.specs.Bits.{high_first, pack}
use Rattle.standard.specs.Families.{Variant, is_sponge, image_of}
use Rattle.standard.specs.Chain.{start_state, blocks_of, block_count, run, end_state}
use Rattle.standard.specs.Messages.{Given, given_bits}
use Rattle.standard.specs.Variants.{variant}
use Rattle.standard.proofs.BitLaws.{length-pack}
use Rattle.standard.proofs.Streaming.{block-count, run_length, blocks-sized}
use Rattle.standard.proofs.OneBlock.{block-length}
use Rattle.standard.proofs.ImageStates.{state-image}
use Rattle.standard.proofs.Variants.{streams}
use Rattle.chain.specs.Messages.{message_checks}
use Rattle.chain.proofs.MessageLaws.{message-passes}
use Rattle.chain.proofs.ImageOfState.{image-is-image}
use Rattle.recover.specs.Leading.{end_state_with, NoneLeads, OnlyLeads}
use Rattle.recover.specs.Difference.{difference}
use Rattle.recover.specs.Recovering.{block_size, searchable, placed_checks, recovered_block, asked_checks, recover_status, recover_into}
use Rattle.recover.specs.Promises.{Searched, Gives, StateEight, StateKept, StateGiven, BlockFound, OwnBlock, SpongeWay, LastWay}
use Rattle.recover.proofs.LeadingLaws.{block_from, leads-same}
use Rattle.recover.proofs.Searching.{searches}
use Rattle.recover.proofs.LostBlock.{eight-or-done, eight-exactly, block-given}

module _ {v : ℕ} {g : Given} {place : ℕ} {out : List ℕ} (w : Searched v g place out) where
  abbrev H : Variant
  H = variant v

  abbrev m : List Bool
  m = given_bits (variant v) g

  module _ (s : List Bool) (ls : length s ≡ (variant v).t) where
    abbrev image : List ℕ
    image = image_of (variant v) s

    abbrev status : Status
    status = recover_status v g place image (length out)

    -- no earlier check refuses
    asked : first_refusal (asked_checks v g place image (length out)) ≡ Done
    asked =
        let below : place < block_count H (length m) = rw (block-count H m) at w.within in
        let way : searchable H (block_count H (length m)) place ≡ true = rw (block-count H m) at w.way in
        row-second (message_checks v g) (placed_checks H (block_count H (length m)) place image (length out)) (message-passes v g w.named w.fits w.few)
        ∙ simp (lt-ltb _ _ below, way, image-is-image H s ls, le-ltb _ _ w.room)

    eight : (status ≡ Refused NoBlock) ↔ NoneLeads H m place s
    eight =
        subst (λ (x : List Bool). (status ≡ Refused NoBlock) ↔ NoneLeads H m place x) (state-image H s ls)
        (eight-exactly v g place image (length out) asked)

    kept : status ≡ Refused NoBlock → recover_into v g place image out ≡ out
    unfolding recover_into
    kept e = ap (λ (t : Status). written t (recovered_block v m place image) out) e

    given : (status ≡ Refused NoBlock → ⊥) → (b : List Bool) × Gives v g place out s b
    unfolding recover_into
    given n =
        let e : status ≡ Done = ⊎_elim (λ x. absurd (n x)) (λ x. x) (eight-or-done v g place image (length out) asked) in
        let found = block-given v g place image (length out) asked e in
        let b : List Bool = found.0 in (
          b,
          (
            e,
            subst (λ (x : List Bool). OnlyLeads H m place x b) (state-image H s ls) found.1,
            ap (λ (t : Status). written t (recovered_block v m place image) out) e
                ∙ ap (λ (x : List ℕ). x ++ drop (length x) out) found.2
                ∙ ap (λ (n : ℕ). pack high_first (block_size H) b ++ drop n out) (length-pack high_first (block_size H) b),
          ),
        )

  end-size : (b : List Bool) → length (end_state_with H m place b) ≡ H.t
  unfolding end_state_with
  end-size b = run_length H (streams v w.named) _ (start_state H) (streams v w.named).start-length

  found-again : (b : List Bool) → length b ≡ H.r → Gives v g place out (end_state_with H m place b) b
  found-again b l =
      let s : List Bool = end_state_with H m place b in
      let ls : length s ≡ H.t = end-size b in
      let same : (c : List Bool) → length c ≡ H.r → end_state_with H m place c ≡ s → c ≡ block_from H (difference H m place s) =
      leads-same (searches v w.named m place w.within w.way s ls) in
      let found = given s ls (λ e. (eight s ls).0 e b l refl) in
      let own : found.0 ≡ b = same found.0 found.1.1.size found.1.1.leads ∙ sym (same b l refl) in
      subst (λ (c : List Bool). Gives v g place out s c) own found.1

  own : Gives v g place out (end_state H m) (get_or (blocks_of H m) place [])
  unfolding end_state end_state_with
  own =
      let b : List Bool = get_or (blocks_of H m) place [] in
      subst (λ (s : List Bool). Gives v g place out s b) (ap (run H (start_state H)) (set-get_or (blocks_of H m) place []))
      (found-again b (block-length H.r (blocks_of H m) place (blocks-sized H m) w.within))

pub state-eight : StateEight
state-eight v g place out w = eight w

pub state-kept : StateKept
state-kept v g place out w = kept w

pub state-given : StateGiven
state-given v g place out w = given w

pub block-found : BlockFound
block-found v g place out w = found-again w

pub own_block : OwnBlock
own_block v g place out w = own w

-- ---- which places may be searched

pub sponge-way : SpongeWay
sponge-way v q count place = ap (λ (b : Bool). cond b true (eqb (suc place) count)) q

pub last-way : LastWay
last-way v count place e = go (is_sponge (variant v))
  where
    go : (b : Bool) → cond b true (eqb (suc place) count) ≡ true
    go true = refl
    go false = eq-eqb (suc place) count e
