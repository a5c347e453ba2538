-- The digest over a list: what each way through its checks comes to, and that only the message counts.
-- Assumes nothing.
use mathlib.Core.Path.{◌≡◌, refl, sym, ap, ap₂, ◌∙◌, subst}
use mathlib.Core.Bool.{Bool, true, cond}
use mathlib.Core.List.{List, [], ◌∷◌, ◌++◌, flat_map}
use Prim.Native.Nat.{ℕ, ◌+◌, ◌*◌, ◌≤◌, ◌<◌}
use lib.Dec.{ltb}
use lib.ListN.{length, length-append}
use native.Mathlib.Numerals.{add-one}
use native.Mathlib.Omega.{arith}
use Rattle.answers.specs.declared.Refusal.{Refusal}
use Rattle.answers.specs.declared.Refusal.TheVariants.{UnknownVariant, TooLong, BadList}
use Rattle.answers.specs.Refusals.{Status, Done, Refused}
use Rattle.answers.specs.Checks.{Check, unless, when, first_refusal}
use Rattle.octets.specs.Numbers.{in_bytes}
use Rattle.answers.specs.Outputs.{written, max_bytes, max_bits}
use Rattle.answers.proofs.Statuses.{not_done}
use Rattle.answers.proofs.Rows.{passed-all, passing-says, row_first, row-second, row-both}
use Rattle.standard.specs.Chain.{end_state}
use Rattle.standard.specs.Messages.{byte_bits, bytes}
use Rattle.standard.specs.Variants.{variant, known}
use Rattle.hasher.specs.declared.Hasher.{Hasher}
use Rattle.hasher.specs.declared.Advanced.{Advanced}
use Rattle.standard.specs.declared.Wanted.{Wanted}
use Rattle.hasher.specs.Sized.{Sized}
use Rattle.hasher.specs.Running.{whole_so_far, started, updated, finished, state_of}
use Rattle.hasher.specs.ForCode.{Open}
use Rattle.hasher.specs.Reading.{result_of, room_checks, read_status, read_into, hash_status, hash_into}
use Rattle.hasher.proofs.Calls.{start-done, Hashable, whole_says, update-done}
use Rattle.hasher.proofs.Message.{fresh-sized, fresh-open, fresh-whole, calls-read}
use Rattle.hasher.proofs.UpdateAppend.{update_twice}
use Rattle.standard.specs.Bits.{high_first, bits_in}
use Rattle.standard.proofs.BitLaws.{length-bits_in}
use Rattle.chain.specs.declared.message.Ending.TheVariants.{Whole}
use Rattle.chain.proofs.MessageLaws.{given-limit}
use Rattle.hasher.proofs.Owned.{Owned}
use Rattle.hasher.proofs.WellFormed.{facts, state-kept, held_kept}
use Rattle.hasher.proofs.Next.{onward-none, onward, onward-total, onward-whole, onward-open, onward-append}
use Rattle.segments.specs.Entries.{is_list, entries_checks, entries_status, segments_of, header_of, message_of, count, segment_in, segment_of}
use Rattle.segments.specs.Digests.{list_status, list_into}
use Rattle.segments.specs.Cuts.{total_of}
use Rattle.segments.specs.Promises.{SameMessage}
use Rattle.segments.proofs.ListLaws.{segments-length, message-length, segments_up_to, segments-suc, segments-up-to-within, segment-there}

module _ (h : Hasher) (w : Owned h) (o : Open h) (list buffer : List ℕ) (whole : is_list list ≡ true) (all_fit : entries_status list (length buffer) ≡ Done)
    (ends : whole_so_far h ≡ true) (few : h.total + 8 * length (segments_of list buffer) ≤ max_bits) where
  -- the running hash after the first k segments
  abbrev pub after : ℕ → Hasher
  after k = onward h (segments_up_to list buffer k)

  pub no-segment : h ≡ after 0
  unfolding flat_map bits_in state_of
  no-segment = sym (onward-none h w.sized o (state-kept h (facts h o.0) w) (held_kept h (facts h o.0) w))

  -- an update with the next segment
  pub next-segment : (k : ℕ) → k < count list → (g : Hasher) (s : List ℕ) → g ≡ after k → s ≡ segment_of list buffer k → (updated g (bytes s)).hasher ≡ after (k + 1)
  next-segment k l g s eg es =
      let m : List ℕ = segments_up_to list buffer k in
      let t : List ℕ = segment_in list buffer k in
      let j : segments_up_to list buffer (k + 1) ≡ m ++ t = ap (segments_up_to list buffer) (add-one k) ∙ segments-suc list buffer k in
      let room : h.total + 8 * (length m + length t) ≤ max_bits = omega (arith, length-append m t, ap length j, segments-up-to-within list buffer (k + 1) (omega arith)) in
      ap (λ (a : Advanced). a.hasher)
      (ap₂ (λ (x : Hasher) (y : List ℕ). updated x (bytes y)) eg (es ∙ segment-there list buffer whole all_fit k l)
      ∙ update-done (after k) (bytes t) (onward-open h w.sized o m (omega arith)) refl (onward-whole h ends m) (omega (arith, onward-total h m, length-bits_in high_first t)))
      ∙ onward-append h w.sized o m t
      ∙ ap (onward h) (sym j)

  pub every-segment : after (count list) ≡ (updated h (bytes (segments_of list buffer))).hasher
  unfolding segments_of
  every-segment = sym (ap (λ (a : Advanced). a.hasher) (update-done h (bytes (segments_of list buffer)) o refl ends (omega (arith, few, length-bits_in high_first (segments_of list buffer)))))

-- ---- the checks in order

-- those before the checks of the entries, and those behind them
abbrev before : ℕ → List ℕ → List Check
before v list = unless (known v) UnknownVariant ∷ unless (is_list list) BadList ∷ []

abbrev behind : ℕ → List ℕ → Wanted → ℕ → List Check
behind v m wanted n = when (ltb max_bytes (length m)) TooLong ∷ room_checks (variant v) wanted n

module _ (v : ℕ) (list buffer : List ℕ) (wanted : Wanted) (n : ℕ) where
  -- the first refusal of an entry is the list's
  pub list-entry : known v ≡ true → is_list list ≡ true → (r : Refusal) → entries_status list (length buffer) ≡ Refused r → list_status v list buffer wanted n ≡ Refused r
  unfolding list_status
  list-entry k l r e =
      let rest = behind v (message_of list buffer) wanted n in
      row-second (before v list) (entries_checks list (length buffer) ++ rest) (passed-all (before v list) (k, (l, tt)))
      ∙ row_first (entries_checks list (length buffer)) rest (λ d. not_done r (sym e ∙ d))
      ∙ e

-- ---- only the message counts

module _ (v : ℕ) (list buffer : List ℕ) (wanted : Wanted) (l : is_list list ≡ true) (e : entries_status list (length buffer) ≡ Done) where
  -- A list whose entries pass is refused as the whole message that it makes is, or neither is refused.
  pub list-whole-status : (n : ℕ) → list_status v list buffer wanted n ≡ hash_status v (bytes (message_of list buffer)) wanted n
  unfolding list_status hash_status
  list-whole-status n =
      ap₂ (λ (b : Bool) (s : Status). cond (known v) (cond b s (Refused BadList)) (Refused UnknownVariant)) l
      (row-second (entries_checks list (length buffer)) (behind v (message_of list buffer) wanted n) e
      ∙ ap (λ (b : Bool). first_refusal (when b TooLong ∷ room_checks (variant v) wanted n)) (sym (given-limit (variant v) (message_of list buffer) Whole refl)))

  -- the answers behind those of the entries, for a message of as many bytes as the header has and the entries name together
  pub list-message : known v ≡ true → (n t : ℕ) → t ≡ length (header_of list) + total_of list → (long : Bool) → ltb max_bytes t ≡ long
      → first_refusal (when long TooLong ∷ room_checks (variant v) wanted n) ≡ list_status v list buffer wanted n
  unfolding list_status
  list-message k n t et long el =
      ap (λ (b : Bool). first_refusal (when b TooLong ∷ room_checks (variant v) wanted n)) (sym el ∙ ap (ltb max_bytes) (et ∙ sym (message-length list buffer e)))
      ∙ sym (row-second (before v list) (entries_checks list (length buffer) ++ behind v (message_of list buffer) wanted n) (passed-all (before v list) (k, (l, tt)))
      ∙ row-second (entries_checks list (length buffer)) (behind v (message_of list buffer) wanted n) e)

  -- And the output is that of the whole message.
  pub list-whole-into : (out : List ℕ) → list_into v list buffer wanted out ≡ hash_into v (bytes (message_of list buffer)) wanted out
  unfolding list_into hash_into
  list-whole-into out =
      ap (λ (s : Status). written s (result_of (variant v) wanted (end_state (variant v) (byte_bits (message_of list buffer)))) out) (list-whole-status (length out))

pub same-message : SameMessage
same-message v list buffer list' buffer' wanted out a a' same = (
  list-whole-status v list buffer wanted a.0 a.1 (length out)
      ∙ ap (λ (x : List ℕ). hash_status v (bytes x) wanted (length out)) same
      ∙ sym (list-whole-status v list' buffer' wanted a'.0 a'.1 (length out)),
  list-whole-into v list buffer wanted a.0 a.1 out
      ∙ ap (λ (x : List ℕ). hash_into v (bytes x) wanted out) same
      ∙ sym (list-whole-into v list' buffer' wanted a'.0 a'.1 out),
)

-- ---- the calls of the code

module _ (v : ℕ) (list buffer : List ℕ) (wanted : Wanted) (n : ℕ) where
  -- what Done says
  pub record Accepted : Type 0 where
    pub whole : is_list list ≡ true
    pub all_fit : entries_status list (length buffer) ≡ Done
    pub message : Hashable v (bytes (message_of list buffer)) wanted n

  pub accepted : (s : Status) → s ≡ list_status v list buffer wanted n → s ≡ Done → Accepted
  unfolding list_status hash_status
  accepted s es d =
      let e : list_status v list buffer wanted n ≡ Done = sym es ∙ d in
      let m = message_of list buffer in
      let a = row-both (before v list) (entries_checks list (length buffer) ++ behind v m wanted n) e in
      let l = (passing-says (before v list) a.0).1.0 in
      let f = (row-both (entries_checks list (length buffer)) (behind v m wanted n) a.1).0 in
      record { whole = l; all_fit = f; message = whole_says v (bytes m) wanted n (sym (list-whole-status v list buffer wanted l f n) ∙ e) }

-- ---- from start to read

-- a running hash that takes a message
abbrev Ready : Hasher → Type 0
Ready h = Sized h × Open h × (whole_so_far h ≡ true) × (h.total ≡ 0)

-- a start
start-ready : (v : ℕ) → known v ≡ true → (s : Advanced) → s ≡ started v → Ready s.hasher
start-ready v k s e = subst Ready (sym (ap (λ (a : Advanced). a.hasher) (e ∙ start-done v k))) (fresh-sized v k, fresh-open v k, fresh-whole v k, refl)

-- the number of entries and then the list
pub header-taken : (h : Hasher) → Sized h → Open h → (list : List ℕ) → (whole_so_far h ≡ true) × (h.total + 8 * length (header_of list) ≤ max_bits)
    → (two : List ℕ) (counted listed : Advanced) → two ≡ in_bytes 2 (count list) → counted ≡ updated h (bytes two) → listed ≡ updated counted.hasher (bytes list)
    → listed.hasher ≡ (updated h (bytes (header_of list))).hasher
unfolding header_of
header-taken h z o list few two counted listed eb ec el =
    ap (λ (a : Advanced). a.hasher) (el ∙ ap (λ (a : Advanced). updated a.hasher (bytes list)) (ec ∙ ap (λ (x : List ℕ). updated h (bytes x)) eb))
    ∙ update_twice h z (in_bytes 2 (count list)) list o few.0 few.1

module _ (v : ℕ) (list buffer : List ℕ) (wanted : Wanted) (n : ℕ) (a : Accepted v list buffer wanted n) (begun : Advanced) (eb : begun ≡ started v) where
  ready : Ready begun.hasher
  ready = start-ready v a.message.asked.named begun eb

  few : length (header_of list) + length (segments_of list buffer) ≤ max_bytes
  few = omega (arith, a.message.asked.few, length-bits_in high_first (message_of list buffer), message-length list buffer a.all_fit, segments-length list buffer a.all_fit)

  -- the header fits
  pub header-fits : Open begun.hasher × ((is_list list ≡ true) × ((whole_so_far begun.hasher ≡ true) × (begun.hasher.total + 8 * length (header_of list) ≤ max_bits)))
  header-fits = (ready.1, (a.whole, (ready.2, omega (arith, ready.3, few))))

  -- and the segments behind it
  pub segments-fit : (led : Hasher) → led ≡ (updated begun.hasher (bytes (header_of list))).hasher
      → Open led × (((is_list list ≡ true) × (entries_status list (length buffer) ≡ Done)) × ((whole_so_far led ≡ true) × (led.total + 8 * length (segments_of list buffer) ≤ max_bits)))
  segments-fit led e =
      let h : Hasher = begun.hasher in
      let m : List ℕ = header_of list in
      let on : onward h m ≡ led = sym (e ∙ ap (λ (u : Advanced). u.hasher) (update-done h (bytes m) ready.1 refl ready.2 (omega (arith, header-fits.1.1.1, length-bits_in high_first m)))) in (
        subst Open on (onward-open h ready.0 ready.1 m header-fits.1.1.1),
        (
          (a.whole, a.all_fit),
          (
            subst (λ (g : Hasher). whole_so_far g ≡ true) on (onward-whole h ready.2 m),
            omega (arith, ap (λ (g : Hasher). g.total) on, onward-total h m, ready.3, few),
          ),
        ),
      )

  -- the running hash after both is that after the message
  pub message-taken : (led h : Hasher) → led ≡ (updated begun.hasher (bytes (header_of list))).hasher → h ≡ (updated led (bytes (segments_of list buffer))).hasher
      → h ≡ (updated begun.hasher (bytes (message_of list buffer))).hasher
  unfolding message_of
  message-taken led h e eh =
      let room : begun.hasher.total + 8 * length (header_of list ++ segments_of list buffer) ≤ max_bits = omega (arith, ready.3, few, length-append (header_of list) (segments_of list buffer)) in
      eh ∙ ap (λ (g : Hasher). (updated g (bytes (segments_of list buffer))).hasher) e ∙ update_twice begun.hasher ready.0 (header_of list) (segments_of list buffer) ready.1 ready.2 room

module _ (v : ℕ) (list buffer : List ℕ) (wanted : Wanted) (out : List ℕ) where
  -- status and output after a call
  abbrev pub Left : Status → List ℕ → Type 0
  Left s after = (s ≡ list_status v list buffer wanted (length out)) × (after ≡ list_into v list buffer wanted out)

  pub left-hashed : Accepted v list buffer wanted (length out) → (begun : Advanced) (h : Hasher) (last : Advanced)
      → begun ≡ started v → h ≡ (updated begun.hasher (bytes (message_of list buffer))).hasher → last ≡ finished h
      → (s : Status) (after : List ℕ) → (s ≡ read_status last.hasher wanted (length out)) × (after ≡ read_into last.hasher wanted out) → Left s after
  left-hashed a begun h last eb eh el s after er =
      let m : List ℕ = message_of list buffer in
      let few : length m ≤ max_bytes = omega (arith, a.message.asked.few, length-bits_in high_first m) in
      let r = calls-read v a.message.asked.named m few wanted out begun (updated begun.hasher (bytes m)) last s after eb refl (el ∙ ap finished eh) er in
      (r.0 ∙ sym (list-whole-status v list buffer wanted a.whole a.all_fit (length out)), r.1 ∙ sym (list-whole-into v list buffer wanted a.whole a.all_fit out))
