-- Demand 2: for each variant, a message taken in any pieces gives the standard's digest and end state, and so does the whole-message operation.
-- Assumes nothing.
use mathlib.Core.Path.{◌≡◌, refl, sym, ap, ◌∙◌, subst}
use mathlib.Core.Bool.{Bool, true, false}
use mathlib.Core.List.{List, [], ◌∷◌, ◌++◌, flat_map, append_assoc, append-nil}
use mathlib.Core.Logic.{⊎_elim}
use Prim.Native.Nat.{ℕ, zero, suc, ◌+◌, ◌%◌, ◌≤◌, ◌<◌, zero-le}
use native.Mathlib.Nat.{le_trans}
use native.Mathlib.Omega.{arith}
use lib.ListN.{length, take, length-append}
use borrow.Author.Tests.{eqb-true, eq-eqb}
use Rattle.standard.specs.Bits.{high_first, bits_in}
use Rattle.standard.specs.Families.{Variant}
use Rattle.standard.specs.Chain.{end_state, digest_of}
use Rattle.standard.specs.Messages.{byte_bits, Given, bytes, given_bits}
use Rattle.standard.specs.Variants.{variant, known}
use Rattle.standard.proofs.BitLaws.{length-bits_in, bits_in-append}
use Rattle.standard.proofs.Tests.{lt-or-le, either}
use Rattle.answers.specs.declared.Refusal.{Refusal}
use Rattle.answers.specs.declared.Refusal.TheVariants.{UnknownVariant, TooLong}
use Rattle.answers.specs.Refusals.{Status, Done, Refused}
use Rattle.answers.specs.Outputs.{when_done, written, max_bits}
use Rattle.answers.proofs.Statuses.{not_done, kept}
use Rattle.answers.proofs.Rows.{refused-first}
use Rattle.chain.specs.Messages.{Fits, message_checks}
use Rattle.chain.proofs.MessageLaws.{message-long}
use Rattle.hasher.specs.declared.Hasher.{Hasher}
use Rattle.hasher.specs.declared.Advanced.{Advanced}
use Rattle.standard.specs.declared.Wanted.{Wanted}
use Rattle.standard.specs.declared.Wanted.TheVariants.{Digest}
use Rattle.hasher.specs.Running.{variant_of, whole_so_far, blank, fresh, grown, ended, started, updated, finished}
use Rattle.hasher.specs.ForCode.{Open}
use Rattle.hasher.specs.Reading.{result_of, room_checks, read_status, read_into, hash_status, hash_into}
use Rattle.hasher.specs.Pieces.{joined_bits, Cut, plain, joined, and_then, all_updated, hashed, then_status, then_into, hashed_status, hashed_into, Reads, Hashes}
use Rattle.hasher.specs.Promises.{Demand2, Demand2Bytes, WholeIsPieces, WholeIsPiecesBytes, WholeDigest}
use Rattle.hasher.specs.Sized.{Sized}
use Rattle.hasher.proofs.WellFormed.{facts}
use Rattle.hasher.proofs.Next.{grown-total, grown-sized, grown-open, grown-append, grown-none}
use Rattle.hasher.proofs.Calls.{done, refused, start-unknown, start-done, finish-done, update-long, update-done}
use Rattle.hasher.proofs.Message.{reached, fresh-sized, fresh-open, fresh-whole, fresh_kept, none_kept, reached-open, end_reads, end-status, end-into, whole-done}

-- ---- pieces

-- the first piece's number fits, and the pieces after it may be taken too
cut-head : (H : Variant) (g : Given) (pieces : List Given) → Cut H (g ∷ pieces) → Fits g
cut-head H g [] c = c
cut-head H g (next ∷ pieces) c = c.0

cut-tail : (H : Variant) (g : Given) (pieces : List Given) → Cut H (g ∷ pieces) → Cut H pieces
cut-tail H g [] c = tt
cut-tail H g (next ∷ pieces) c = c.2

cut-take : (H : Variant) (k : ℕ) (pieces : List Given) → Cut H pieces → Cut H (take k pieces)
cut-take H zero pieces c = tt
cut-take H (suc k) [] c = tt
cut-take H (suc zero) (g ∷ pieces) c = cut-head H g pieces c
cut-take H (suc (suc k)) (g ∷ []) c = c
cut-take H (suc (suc k)) (g ∷ next ∷ pieces) c = (c.0, c.1, cut-take H (suc k) (next ∷ pieces) c.2)

joined-take : (H : Variant) (k : ℕ) (pieces : List Given) → length (joined_bits H (take k pieces)) ≤ length (joined_bits H pieces)
unfolding joined_bits flat_map
joined-take H zero pieces = zero-le
joined-take H (suc k) [] = zero-le
joined-take H (suc k) (g ∷ pieces) =
    omega (arith, joined-take H k pieces, length-append (given_bits H g) (joined_bits H (take k pieces)), length-append (given_bits H g) (joined_bits H pieces))

-- pieces all of whose bits count are cut between bytes, and make the bytes together
pub plain-cut : (H : Variant) (pieces : List (List ℕ)) → Cut H (plain pieces)
plain-cut H [] = tt
plain-cut H (p ∷ []) = refl
plain-cut H (p ∷ q ∷ pieces) = (refl, omega (arith, length-bits_in high_first p), plain-cut H (q ∷ pieces))

pub plain-joined : (H : Variant) (pieces : List (List ℕ)) → joined_bits H (plain pieces) ≡ byte_bits (joined pieces)
unfolding joined_bits joined flat_map bits_in
plain-joined H [] = refl
plain-joined H (p ∷ pieces) = ap (λ (m : List Bool). byte_bits p ++ m) (plain-joined H pieces) ∙ sym (bits_in-append high_first p (joined pieces))

-- a refusal stays, whatever is called after it
refusal-stays : (a : Advanced) → (a.status ≡ Done → ⊥) → (pieces : List Given) → all_updated a pieces ≡ a
unfolding all_updated
refusal-stays a n [] = refl
refusal-stays a n (g ∷ pieces) = ap (λ (b : Advanced). all_updated b pieces) (kept a.status (updated a.hasher g) a n) ∙ refusal-stays a n pieces

-- ---- every piece in turn

-- a running hash that may take the first of the pieces
abbrev Ready : Hasher → List Given → Type 0
Ready h [] = Unit {0}
Ready h (g ∷ pieces) = whole_so_far h ≡ true

module _ (h : Hasher) (g : Given) where
  abbrev m : List Bool
  m = given_bits (variant_of h) g

  -- and after it those that follow
  ready-next : (pieces : List Given) → Cut (variant_of h) (g ∷ pieces) → whole_so_far h ≡ true → Ready (grown h (given_bits (variant_of h) g)) pieces
  ready-next [] c w = tt
  ready-next (next ∷ pieces) c w = eq-eqb ((grown h m).total % 8) 0 (omega (arith, grown-total h m, eqb-true (h.total % 8) 0 w, c.1))

-- within the limit: from a running hash that has gone on with m
all-onward : (h : Hasher) → Sized h → Open h → (pieces : List Given) (m : List Bool) → Ready (grown h m) pieces → Cut (variant_of h) pieces
    → h.total + length (m ++ joined_bits (variant_of h) pieces) ≤ max_bits → all_updated (done (grown h m)) pieces ≡ done (grown h (m ++ joined_bits (variant_of h) pieces))
unfolding all_updated joined_bits flat_map grown
all-onward h z o [] m r c few = ap (λ (l : List Bool). done (grown h l)) (sym (append-nil m))
all-onward h z o (g ∷ pieces) m r c few =
    let H : Variant = variant_of h in
    let p : List Bool = given_bits H g in
    let assoc : (m ++ p) ++ joined_bits H pieces ≡ m ++ (p ++ joined_bits H pieces) = append_assoc m p (joined_bits H pieces) in
    let size : length (m ++ (p ++ joined_bits H pieces)) ≡ length m + (length p + length (joined_bits H pieces)) =
    length-append m (p ++ joined_bits H pieces) ∙ ap (λ (n : ℕ). length m + n) (length-append p (joined_bits H pieces)) in
    let o' : Open (grown h m) = grown-open h z o m (omega arith) in
    let both : grown (grown h m) p ≡ grown h (m ++ p) = grown-append h z o m p in
    ap (λ (a : Advanced). all_updated a pieces) (update-done (grown h m) g o' (cut-head H g pieces c) r (omega (arith, grown-total h m, size)) ∙ ap done both)
    ∙ all-onward h z o pieces (m ++ p) (subst (λ (k : Hasher). Ready k pieces) both (ready-next (grown h m) g pieces c r)) (cut-tail H g pieces c)
    (subst (λ (l : List Bool). h.total + length l ≤ max_bits) (sym assoc) few)
    ∙ ap (λ (l : List Bool). done (grown h l)) assoc

-- past the limit: the piece that passes it is refused
all-long : (pieces : List Given) (h : Hasher) → Sized h → Open h → Ready h pieces → Cut (variant_of h) pieces
    → max_bits < h.total + length (joined_bits (variant_of h) pieces) → (all_updated (done h) pieces).status ≡ Refused TooLong
unfolding all_updated joined_bits flat_map grown
all-long [] h z o r c l = absurd (omega (arith, (facts h o.0).few))
all-long (g ∷ pieces) h z o r c l =
    let H : Variant = variant_of h in
    let p : List Bool = given_bits H g in
    ⊎_elim
    (λ over.
    ap (λ (a : Advanced). (all_updated a pieces).status) (update-long h g o (cut-head H g pieces c) r over)
    ∙ ap (λ (a : Advanced). a.status) (refusal-stays (refused TooLong h) (not_done TooLong) pieces))
    (λ within.
    ap (λ (a : Advanced). (all_updated a pieces).status) (update-done h g o (cut-head H g pieces c) r within)
    ∙ all-long pieces (grown h p) (grown-sized h z o p) (grown-open h z o p within) (ready-next h g pieces c r) (cut-tail H g pieces c)
    (omega (arith, grown-total h p, length-append p (joined_bits H pieces))))
    (lt-or-le max_bits (h.total + length p))

-- a running hash of no variant takes none
none-taken : (v : ℕ) → known v ≡ false → (pieces : List Given) → (all_updated (started v) pieces).status ≡ Refused UnknownVariant
none-taken v k pieces =
    ap (λ (a : Advanced). (all_updated a pieces).status) (start-unknown v k)
    ∙ ap (λ (a : Advanced). a.status) (refusal-stays (refused UnknownVariant (blank 0)) (not_done UnknownVariant) pieces)

module _ (v : ℕ) (k : known v ≡ true) where
  abbrev H : Variant
  H = variant v

  start-ready : (pieces : List Given) (h : Hasher) → whole_so_far h ≡ true → Ready h pieces
  start-ready [] h w = tt
  start-ready (g ∷ pieces) h w = w

  -- a start has gone on with nothing
  started_none : started v ≡ done (grown (fresh v) [])
  started_none = start-done v k ∙ ap done (sym (grown-none (fresh v) (fresh-sized v k) (fresh-open v k) (fresh_kept v k) (none_kept v k)))

  none-whole : whole_so_far (grown (fresh v) []) ≡ true
  unfolding grown
  none-whole = refl

  -- the pieces within the limit
  all-taken : (pieces : List Given) → Cut (variant v) pieces → length (joined_bits (variant v) pieces) ≤ max_bits
      → all_updated (started v) pieces ≡ done (reached v (joined_bits (variant v) pieces))
  all-taken pieces c few =
      ap (λ (a : Advanced). all_updated a pieces) started_none
      ∙ all-onward (fresh v) (fresh-sized v k) (fresh-open v k) pieces [] (start-ready pieces (grown (fresh v) []) none-whole) c (omega (arith, few))

  every-taken : (pieces : List Given) → Cut (variant v) pieces → length (joined_bits (variant v) pieces) ≤ max_bits → (i : ℕ) → (all_updated (started v) (take i pieces)).status ≡ Done
  every-taken pieces c few i = ap (λ (a : Advanced). a.status) (all-taken (take i pieces) (cut-take H i pieces c) (le_trans (joined-take H i pieces) few))

  pieces-long : (pieces : List Given) → Cut (variant v) pieces → max_bits < length (joined_bits (variant v) pieces) → (all_updated (started v) pieces).status ≡ Refused TooLong
  pieces-long pieces c l =
      ap (λ (a : Advanced). (all_updated a pieces).status) (start-done v k)
      ∙ all-long pieces (fresh v) (fresh-sized v k) (fresh-open v k) (start-ready pieces (fresh v) (fresh-whole v k)) c (omega (arith, l))

  -- the running hash at the end: closed, with the end state
  pub hashed-is : (pieces : List Given) → Cut (variant v) pieces → length (joined_bits (variant v) pieces) ≤ max_bits
      → hashed v pieces ≡ done (ended (reached v (joined_bits (variant v) pieces)))
  unfolding hashed
  hashed-is pieces c few =
      ap (λ (a : Advanced). and_then a finished) (all-taken pieces c few)
      ∙ finish-done (reached v (joined_bits H pieces)) (reached-open v k (joined_bits H pieces) few)

pub demand-2 : Demand2
demand-2 v k pieces c few =
    let e = hashed-is v k pieces c few in
    let m : List Bool = joined_bits (variant v) pieces in
    record {
      every-update = every-taken v k pieces c few;
      finish = ap (λ (a : Advanced). a.status) e;
      read = subst (λ (a : Advanced). Reads v a.hasher m) (sym e) (end_reads v k m few);
    }

pub demand-2-bytes : Demand2Bytes
demand-2-bytes v k pieces few =
    let e : joined_bits (variant v) (plain pieces) ≡ byte_bits (joined pieces) = plain-joined (variant v) pieces in
    subst (Hashes v (plain pieces)) e
    (demand-2 v k (plain pieces) (plain-cut (variant v) pieces) (omega (arith, ap length e, length-bits_in high_first (joined pieces))))

-- ---- the whole message in one call

-- where a call before the end is refused, and the call for the whole message as it is
same-refused : (a : Advanced) (r : Refusal) (t : Status) (result out : List ℕ) (wanted : Wanted) → a.status ≡ Refused r → t ≡ Refused r
    → (t ≡ then_status (and_then a finished) wanted (length out)) × (written t result out ≡ then_into (and_then a finished) wanted out)
same-refused a r t result out wanted e et =
    let no : a.status ≡ Done → ⊥ = λ d. not_done r (sym e ∙ d) in
    let b : Advanced = and_then a finished in
    let status : b.status ≡ Refused r = ap (λ (c : Advanced). c.status) (kept a.status (finished a.hasher) a no) ∙ e in (
      et ∙ sym (ap (λ (s : Status). when_done s (read_status b.hasher wanted (length out)) s) status),
      ap (λ (s : Status). written s result out) et ∙ sym (ap (λ (s : Status). when_done s (read_into b.hasher wanted out) out) status),
    )

pub whole-is-pieces : WholeIsPieces
unfolding hashed_status hashed_into hashed hash_status hash_into
whole-is-pieces v pieces g c f same wanted out =
    let H : Variant = variant v in
    let result : List ℕ = result_of H wanted (end_state H (given_bits H g)) in
    let a : Advanced = all_updated (started v) pieces in
    ⊎_elim
    (λ k. ⊎_elim
    (λ l. same-refused a TooLong _ result out wanted (pieces-long v k pieces c (omega (arith, ap length same)))
    (sym (refused-first (message_checks v g) (room_checks H wanted (length out)) _ TooLong refl (message-long v g k f l)) ∙ message-long v g k f l))
    (λ l.
    let e = hashed-is v k pieces c (omega (arith, ap length same)) ∙ ap (λ (m : List Bool). done (ended (reached v m))) same in (
      sym (ap (λ (b : Advanced). then_status b wanted (length out)) e ∙ end-status v k g f l wanted (length out)),
      sym (ap (λ (b : Advanced). then_into b wanted out) e ∙ end-into v k g f l wanted out),
    ))
    (lt-or-le max_bits (length (given_bits H g))))
    (λ k. same-refused a UnknownVariant _ result out wanted (none-taken v k pieces) (rw k))
    (either (known v))

pub whole-is-pieces-bytes : WholeIsPiecesBytes
whole-is-pieces-bytes v pieces = whole-is-pieces v (plain pieces) (bytes (joined pieces)) (plain-cut (variant v) pieces) refl (plain-joined (variant v) pieces)

pub whole-digest : WholeDigest
unfolding digest_of
whole-digest v k g f few out l = (whole-done v k g f few Digest out l).1
