-- The running hash from its start over a message to the end: its state is the message's end state.
-- Assumes nothing.
use mathlib.Core.Path.{◌≡◌, refl, sym, ap, ap₂, ◌∙◌}
use mathlib.Core.Bool.{Bool, true}
use mathlib.Core.List.{List, [], ◌++◌}
use Prim.Native.Nat.{ℕ, ◌≤◌}
use native.Mathlib.Nat.{mod-eq_of_lt}
use native.Mathlib.Omega.{arith}
use lib.ListN.{length, drop}
use borrow.Author.Tests.{le-ltb}
use Rattle.standard.specs.Bits.{high_first}
use Rattle.standard.specs.Families.{Variant}
use Rattle.standard.specs.Chain.{start_state, padding, whole_blocks, rest_of, run, end_state}
use Rattle.standard.specs.Messages.{byte_bits, Given, bytes, given_bits}
use Rattle.standard.specs.Variants.{variant, known}
use Rattle.standard.proofs.BitLaws.{length-bits_in}
use Rattle.standard.proofs.Streaming.{Streams, end-parts}
use Rattle.standard.proofs.Variants.{streams}
use Rattle.answers.specs.Refusals.{Status, Done}
use Rattle.answers.specs.Checks.{first_refusal}
use Rattle.answers.specs.Outputs.{written, max_bytes, max_bits}
use Rattle.answers.proofs.Rows.{row-second}
use Rattle.standard.specs.Layout.{packed_state, packed_block}
use Rattle.chain.specs.Messages.{Fits, message_checks}
use Rattle.chain.proofs.MessageLaws.{message-passes}
use Rattle.hasher.specs.declared.Hasher.{Hasher}
use Rattle.hasher.specs.declared.Advanced.{Advanced}
use Rattle.hasher.specs.Running.{held_count, whole_so_far, held_in, state_of, blank, fresh, grown, ended, started, updated, finished}
use Rattle.hasher.specs.ForCode.{Open}
use Rattle.standard.specs.declared.Wanted.{Wanted}
use Rattle.hasher.specs.Reading.{result_of, result_size, room_checks, read_status, read_into, hash_status, hash_into}
use Rattle.hasher.specs.Pieces.{Reads}
use Rattle.hasher.specs.Sized.{Sized}
use Rattle.hasher.proofs.WellFormed.{Facts, facts, well-formed, open-count}
use Rattle.hasher.proofs.Next.{going-sized, state-going, held-going, going-facts, ended-facts, ended-state, grown-open, grown-sized, grown-state, grown-held}
use Rattle.hasher.proofs.Calls.{start-done, update-done, finish-done, result-length}

-- the running hash of a message so far, of bits and of whole bytes
abbrev pub reached : ℕ → List Bool → Hasher
reached v m = grown (fresh v) m

abbrev pub taken : ℕ → List ℕ → Hasher
taken v m = reached v (byte_bits m)

-- whole bytes within the limit are bits within it
pub few_bits : (m : List ℕ) → length m ≤ max_bytes → length (byte_bits m) ≤ max_bits
few_bits m few = omega (arith, length-bits_in high_first m)

module _ (v : ℕ) (k : known v ≡ true) where
  abbrev H : Variant
  H = variant v

  S : Streams H
  S = streams v k

  -- ---- the start

  none-held : length {A = Bool} [] ≡ held_count (fresh v)
  none-held = sym (open-count (fresh v) refl ∙ mod-eq_of_lt S.rate-pos)

  pub fresh-facts : Facts (fresh v)
  fresh-facts = going-facts (blank v) 0 0 (start_state H) [] k S.start-length none-held (omega arith) (omega arith)

  pub fresh-sized : Sized (fresh v)
  fresh-sized = going-sized (blank v) 0 0 (start_state H) []

  pub fresh-open : Open (fresh v)
  fresh-open = (well-formed (fresh v) fresh-facts, refl)

  pub fresh-whole : whole_so_far (fresh v) ≡ true
  fresh-whole = refl

  fresh-state : state_of (fresh v) ≡ start_state H
  fresh-state = state-going (blank v) 0 0 (start_state H) [] k S.start-length none-held

  fresh-held : held_in (fresh v) ≡ []
  fresh-held = held-going (blank v) 0 0 (start_state H) [] k S.start-length none-held

  -- its bytes are those of its state and of no held bits
  pub fresh_kept : (fresh v).state ≡ packed_state (variant v) (state_of (fresh v))
  fresh_kept = ap (packed_state H) (sym fresh-state)

  pub none_kept : (fresh v).held ≡ packed_block (held_in (fresh v))
  none_kept = ap packed_block (sym fresh-held)

  -- ---- a message

  module _ (m : List Bool) where
    pub reached-open : length m ≤ max_bits → Open (reached v m)
    reached-open few = grown-open (fresh v) fresh-sized fresh-open m (omega arith)

    reached-sized : Sized (reached v m)
    reached-sized = grown-sized (fresh v) fresh-sized fresh-open m

    reached-state : state_of (reached v m) ≡ run H (start_state H) (whole_blocks H.r m)
    reached-state =
        grown-state (fresh v) fresh-sized fresh-open m
        ∙ ap₂ (λ (s c : List Bool). run H s (whole_blocks H.r (c ++ m))) fresh-state fresh-held

    reached-held : held_in (reached v m) ≡ rest_of H.r m
    reached-held = grown-held (fresh v) fresh-sized fresh-open m ∙ ap (λ (c : List Bool). rest_of H.r (c ++ m)) fresh-held

    module _ (few : length m ≤ max_bits) where
      end-facts : Facts (ended (reached v m))
      end-facts = ended-facts (reached v m) (facts (reached v m) (reached-open few).0) reached-sized

      -- the end state is the standard's
      pub end-reached : state_of (ended (reached v m)) ≡ end_state (variant v) m
      unfolding grown
      end-reached =
          let total : (reached v m).total ≡ length m = omega arith in
          ended-state (reached v m) (facts (reached v m) (reached-open few).0) reached-sized
          ∙ ap₂ (λ (s c : List Bool). run H s (whole_blocks H.r (c ++ padding H (reached v m).total))) reached-state reached-held
          ∙ ap (λ (n : ℕ). run H (run H (start_state H) (whole_blocks H.r m)) (whole_blocks H.r (rest_of H.r m ++ padding H n))) total
          ∙ sym (end-parts H S m)

      -- what is read at the end: only the output's length is left to check
      pub end-answer : (wanted : Wanted) (n : ℕ) → read_status (ended (reached v m)) wanted n ≡ first_refusal (room_checks (variant v) wanted n)
      unfolding read_status ended grown
      end-answer wanted n = rw (well-formed (ended (reached v m)) end-facts)

      pub end-output : (wanted : Wanted) (out : List ℕ) (t : Status) → first_refusal (room_checks (variant v) wanted (length out)) ≡ t
          → read_into (ended (reached v m)) wanted out ≡ written t (result_of (variant v) wanted (end_state (variant v) m)) out
      unfolding read_into ended grown
      end-output wanted out t e =
          ap₂ (λ (s : Status) (x : List Bool). written s (result_of H wanted x) out) (end-answer wanted (length out) ∙ e) end-reached

      -- an output that is long enough
      pub end_reads : Reads v (ended (reached v m)) m
      end_reads wanted out l =
          let e : first_refusal (room_checks H wanted (length out)) ≡ Done = rw (le-ltb _ _ l) in (
            end-answer wanted (length out) ∙ e,
            end-output wanted out Done e ∙ ap (λ (n : ℕ). result_of H wanted (end_state H m) ++ drop n out) (result-length H wanted (end_state H m)),
          )

  -- ---- a whole message as a caller gives it

  module _ (g : Given) (f : Fits g) (few : length (given_bits (variant v) g) ≤ max_bits) where
    abbrev m : List Bool
    m = given_bits (variant v) g

    whole-answer : (wanted : Wanted) (n : ℕ) → first_refusal (room_checks H wanted n) ≡ hash_status v g wanted n
    unfolding hash_status
    whole-answer wanted n = sym (row-second (message_checks v g) (room_checks H wanted n) (message-passes v g k f few))

    pub end-status : (wanted : Wanted) (n : ℕ) → read_status (ended (reached v (given_bits (variant v) g))) wanted n ≡ hash_status v g wanted n
    end-status wanted n = end-answer m few wanted n ∙ whole-answer wanted n

    pub end-into : (wanted : Wanted) (out : List ℕ) → read_into (ended (reached v (given_bits (variant v) g))) wanted out ≡ hash_into v g wanted out
    unfolding hash_into
    end-into wanted out = end-output m few wanted out (hash_status v g wanted (length out)) (whole-answer wanted (length out))

    -- into an output that is long enough
    pub whole-done : (wanted : Wanted) (out : List ℕ) → result_size (variant v) wanted ≤ length out
        → (hash_status v g wanted (length out) ≡ Done)
        × (hash_into v g wanted out ≡ result_of (variant v) wanted (end_state (variant v) (given_bits (variant v) g)) ++ drop (result_size (variant v) wanted) out)
    whole-done wanted out l =
        let r = end_reads m few wanted out l in
        (sym (end-status wanted (length out)) ∙ r.0, sym (end-into wanted out) ∙ r.1)

  -- ---- whole bytes

  module _ (m : List ℕ) (few : length m ≤ max_bytes) where
    -- the calls one after another
    pub calls-read : (wanted : Wanted) (out : List ℕ) (s u f : Advanced) (r : Status) (after : List ℕ)
        → s ≡ started v → u ≡ updated s.hasher (bytes m) → f ≡ finished u.hasher
        → (r ≡ read_status f.hasher wanted (length out)) × (after ≡ read_into f.hasher wanted out)
        → (r ≡ hash_status v (bytes m) wanted (length out)) × (after ≡ hash_into v (bytes m) wanted out)
    calls-read wanted out s u f r after es eu ef er =
        let is : s.hasher ≡ fresh v = ap (λ (a : Advanced). a.hasher) (es ∙ start-done v k) in
        let iu : u.hasher ≡ taken v m =
        ap (λ (a : Advanced). a.hasher) (eu ∙ ap (λ (g : Hasher). updated g (bytes m)) is ∙ update-done (fresh v) (bytes m) fresh-open refl fresh-whole (omega (arith, few_bits m few))) in
        let end : f.hasher ≡ ended (taken v m) = ap (λ (a : Advanced). a.hasher) (ef ∙ ap finished iu ∙ finish-done (taken v m) (reached-open (byte_bits m) (few_bits m few))) in (
          er.0 ∙ ap (λ (g : Hasher). read_status g wanted (length out)) end ∙ end-status (bytes m) refl (few_bits m few) wanted (length out),
          er.1 ∙ ap (λ (g : Hasher). read_into g wanted out) end ∙ end-into (bytes m) refl (few_bits m few) wanted out,
        )
