-- What each answer of start, update, finish, read and a whole message says, and what it comes to.
-- Assumes nothing.
use mathlib.Core.Path.{◌≡◌, sym, ap, ◌∙◌, ap₂, subst}
use mathlib.Core.Bool.{true, false, Bool}
use mathlib.Core.List.{List, ◌++◌}
use mathlib.Core.Logic.{⊎_elim}
use Prim.Native.Nat.{ℕ, ◌+◌, ◌*◌, ◌≤◌, ◌<◌, ◌/◌, ◌%◌}
use lib.Dec.{ltb}
use lib.ListN.{length, take, drop}
use borrow.Author.Tests.{ltb-false, not-true, lt-ltb, le-ltb, eqb-true}
use native.Mathlib.Omega.{arith}
use Rattle.standard.specs.Chain.{end_state, given_out}
use Rattle.standard.specs.Messages.{Given, given_bits}
use Rattle.standard.specs.Variants.{known, variant}
use Rattle.answers.specs.declared.Refusal.{Refusal}
use Rattle.answers.specs.declared.Refusal.TheVariants.{UnknownVariant, TooLong, InsideByte}
use Rattle.answers.specs.Refusals.{Status, Done, Refused}
use Rattle.answers.specs.Checks.{first_refusal}
use Rattle.answers.specs.Outputs.{max_bits, when_done, written}
use Rattle.answers.proofs.Rows.{passing-says, row-second, row-both}
use Rattle.standard.specs.Bits.{high_first, pack}
use Rattle.standard.specs.Families.{Variant, is_sponge, order, image_size, image_of}
use Rattle.standard.proofs.BitLaws.{length-pack, take-pack}
use Rattle.standard.proofs.Tests.{lt-or-le, either}
use Rattle.standard.proofs.Variants.{Bounds, bounds, not-sponge}
use Rattle.chain.proofs.Outcomes.{either_way}
use Rattle.standard.specs.Layout.{state_room, packed_state}
use Rattle.chain.specs.Outcomes.{outcome}
use Rattle.chain.specs.declared.message.Ending.{Ending}
use Rattle.chain.specs.Messages.{number_checks, Fits, message_checks}
use Rattle.chain.specs.MessageBytes.{given}
use Rattle.chain.proofs.MessageLaws.{given-most, given-least, Asked, message-passed}
use Rattle.hasher.specs.declared.Hasher.{Hasher}
use Rattle.hasher.specs.declared.Advanced.{Advanced}
use Rattle.hasher.specs.Running.{closed, blank, fresh, grown, ended, whole_so_far, open_checks, follow_checks, update_checks, started_over, started, updated, finished, variant_of, well_formed}
use Rattle.hasher.specs.ForCode.{Open}
use Rattle.standard.specs.declared.Wanted.{Wanted}
use Rattle.standard.specs.declared.Wanted.TheVariants.{Digest, EndState}
use Rattle.hasher.specs.Reading.{result_of, result_size, room_checks, read_checks, read_status, hash_status}

abbrev pub done : Hasher → Advanced
done h = record { status = Done; hasher = h }

abbrev pub refused : Refusal → Hasher → Advanced
refused r h = record { status = Refused r; hasher = h }

-- ---- start

pub start-unknown : (v : ℕ) → known v ≡ false → started v ≡ refused UnknownVariant (blank 0)
unfolding started started_over
start-unknown v e = rw e

pub start-done : (v : ℕ) → known v ≡ true → started v ≡ done (fresh v)
unfolding started started_over
start-done v e = rw e

-- ---- finish and update

module _ (h : Hasher) where
  pub open-says : first_refusal (open_checks h) ≡ Done → Open h
  open-says e =
      let p = passing-says (open_checks h) e in
      (p.0, not-true (closed h) p.1.0)

  pub finish-done : Open h → finished h ≡ done (ended h)
  unfolding finished
  finish-done o = rw (o.0, o.1)

  -- n bits may follow
  pub record Followed (n : ℕ) : Type 0 where
    pub opened : Open h
    pub whole : whole_so_far h ≡ true
    pub few : h.total + n ≤ max_bits

  module _ (n : ℕ) where
    pub follow-says : Open h → first_refusal (follow_checks h n) ≡ Done → Followed n
    follow-says o e =
        let p = passing-says (follow_checks h n) e in
        record { opened = o; whole = p.0; few = ltb-false max_bits (h.total + n) (not-true (ltb max_bits (h.total + n)) p.1.0) }

    pub follows : whole_so_far h ≡ true → h.total + n ≤ max_bits → first_refusal (follow_checks h n) ≡ Done
    follows w l = rw (w, le-ltb max_bits (h.total + n) l)

    pub inside : whole_so_far h ≡ false → first_refusal (follow_checks h n) ≡ Refused InsideByte
    inside w = rw w

    pub too_long : whole_so_far h ≡ true → max_bits < h.total + n → first_refusal (follow_checks h n) ≡ Refused TooLong
    too_long w l = rw (w, lt-ltb max_bits (h.total + n) l)

  open-passes : Open h → first_refusal (open_checks h) ≡ Done
  open-passes o = rw (o.0, o.1)

  -- ---- a piece

  module _ (g : Given) where
    abbrev added : List Bool
    added = given_bits (variant_of h) g

    -- what passing the checks says
    pub record Takes : Type 0 where
      pub fits : Fits g
      pub follow : Followed (length (given_bits (variant_of h) g))

    pub update-says : first_refusal (update_checks h g) ≡ Done → Takes
    update-says e =
        let p = row-both (open_checks h) (number_checks g ++ follow_checks h (length added)) e in
        let q = row-both (number_checks g) (follow_checks h (length added)) p.1 in
        record { fits = q.0; follow = follow-says (length added) (open-says p.0) q.1 }

    module _ (o : Open h) (f : Fits g) where
      -- what follows decides
      pub update-answer : first_refusal (update_checks h g) ≡ first_refusal (follow_checks h (length (given_bits (variant_of h) g)))
      update-answer =
          row-second (open_checks h) (number_checks g ++ follow_checks h (length added)) (open-passes o)
          ∙ row-second (number_checks g) (follow_checks h (length added)) f

      update-status : {s : Status} → first_refusal (follow_checks h (length added)) ≡ s → updated h g ≡ record { status = s; hasher = when_done s (grown h added) h }
      unfolding updated
      update-status e = ap (λ (s : Status). record { status = s; hasher = when_done s (grown h added) h }) (update-answer ∙ e)

      pub update-long : whole_so_far h ≡ true → max_bits < h.total + length (given_bits (variant_of h) g) → updated h g ≡ refused TooLong h
      update-long w l = update-status (too_long (length added) w l)

      pub update-done : whole_so_far h ≡ true → h.total + length (given_bits (variant_of h) g) ≤ max_bits → updated h g ≡ done (grown h (given_bits (variant_of h) g))
      update-done w l = update-status (follows (length added) w l)

  -- a byte of which some bits count takes as much of what is left as a whole one
  pub same-room : (piece : List ℕ) (e : Ending) → Fits (given piece e)
      → first_refusal (follow_checks h (8 * length piece)) ≡ first_refusal (follow_checks h (length (given_bits (variant_of h) (given piece e))))
  same-room piece e f =
      let bits : ℕ = length (given_bits (variant_of h) (given piece e)) in
      let least = given-least (variant_of h) piece e f in
      let most = given-most (variant_of h) piece e f in
      ⊎_elim
      (λ w. ⊎_elim
      (λ l. too_long (8 * length piece) w l ∙ sym (too_long bits w (omega (arith, least, eqb-true (h.total % 8) 0 w))))
      (λ l. follows (8 * length piece) w l ∙ sym (follows bits w (omega (arith, most))))
      (lt-or-le max_bits (h.total + 8 * length piece)))
      (λ w. inside (8 * length piece) w ∙ sym (inside bits w))
      (either (whole_so_far h))

pub result-length : (H : Variant) (wanted : Wanted) (s : List Bool) → length (result_of H wanted s) ≡ result_size H wanted
unfolding image_of
result-length H Digest s = length-pack high_first (H.n / 8) (given_out H.family H s)
result-length H EndState s = length-pack (order H) (image_size H) s

-- ---- the first n bytes of what the code holds are the result

module _ (v : ℕ) (k : known v ≡ true) (wanted : Wanted) (n : ℕ) (en : n ≡ result_size (variant v) wanted) where
  abbrev H : Variant
  H = variant v

  b : Bounds H
  b = bounds v k

  -- there is room for either
  pub result_fits : n ≤ state_room
  result_fits = omega (arith, en, most-of wanted)
    where
      most-of : (w : Wanted) → result_size H w ≤ state_room
      most-of Digest = omega (arith, b.digest-most)
      most-of EndState = b.image-most

  -- the first bytes of an outcome of a row of blocks
  pub outcome-front : (s : List Bool) (bytes : List ℕ) → bytes ≡ outcome (variant v) wanted s → take (result_size (variant v) wanted) bytes ≡ result_of (variant v) wanted s
  unfolding image_of
  outcome-front s bytes eb = go wanted eb
    where
      go : (w : Wanted) → bytes ≡ outcome H w s → take (result_size H w) bytes ≡ result_of H w s
      go Digest e = ap (take (H.n / 8)) e ∙ take-pack high_first (H.n / 8) state_room (given_out H.family H s) (omega (arith, b.digest-most))
      go EndState e = ap (take (image_size H)) e ∙ take-pack (order H) (image_size H) state_room s b.image-most

  -- what is no sponge gives its state out as it is
  pub other-front : is_sponge (variant v) ≡ false → (s : List Bool) (bytes : List ℕ) → bytes ≡ packed_state (variant v) s → take (result_size (variant v) wanted) bytes ≡ result_of (variant v) wanted s
  other-front q s bytes eb =
      outcome-front s bytes
      (subst (λ (m : ℕ). bytes ≡ packed_state (variant m) s → bytes ≡ outcome (variant m) wanted s) (sym (not-sponge v k q)) (either_way wanted s bytes) eb)

  module _ (s : List Bool) (bytes out after : List ℕ) (ea : after ≡ take n bytes ++ drop n out) where
    pub fronted : take n bytes ≡ result_of H wanted s → after ≡ written Done (result_of H wanted s) out
    fronted er = ea ∙ ap₂ (λ (x y : List ℕ). x ++ y) er (ap (λ (i : ℕ). drop i out) (en ∙ sym (result-length H wanted s)))

    pub digest-front : wanted ≡ Digest → bytes ≡ pack high_first state_room (given_out (variant v).family (variant v) s) → after ≡ written Done (result_of (variant v) wanted s) out
    digest-front e eb =
        fronted
        (ap₂ take (en ∙ ap (result_size H) e) eb
        ∙ take-pack high_first (H.n / 8) state_room (given_out H.family H s) (omega (arith, b.digest-most))
        ∙ ap (λ (w : Wanted). result_of H w s) (sym e))

    pub image-front : wanted ≡ EndState → bytes ≡ packed_state (variant v) s → after ≡ written Done (result_of (variant v) wanted s) out
    unfolding image_of
    image-front e eb =
        fronted
        (ap₂ take (en ∙ ap (result_size H) e) eb
        ∙ take-pack (order H) (image_size H) state_room s b.image-most
        ∙ ap (λ (w : Wanted). result_of H w s) (sym e))

    -- all of a message, read of what is at the front of its outcome, where a call's answer is Done
    pub whole-read : (m : List Bool) (t : Status) → s ≡ end_state (variant v) m → t ≡ Done
        → take (result_size (variant v) wanted) bytes ≡ result_of (variant v) wanted s
        → (Done ≡ t) × (after ≡ written t (result_of (variant v) wanted (end_state (variant v) m)) out)
    whole-read m t es done er = (
      sym done,
      fronted (ap (λ (i : ℕ). take i bytes) en ∙ er) ∙ ap₂ (λ (t : Status) (x : List Bool). written t (result_of H wanted x) out) (sym done) es,
    )

-- ---- a read

module _ (h : Hasher) (wanted : Wanted) (n : ℕ) where
  -- a result may be read into n bytes
  pub record Readable : Type 0 where
    pub whole : well_formed h ≡ true
    pub shut : closed h ≡ true
    pub room : result_size (variant_of h) wanted ≤ n

  pub read-says : read_status h wanted n ≡ Done → Readable
  unfolding read_status
  read-says e =
      let p = passing-says (read_checks h wanted n) e in
      record { whole = p.0; shut = p.1.0; room = ltb-false n _ (not-true _ p.1.1.0) }

-- ---- a whole message

-- the result has room
room_says : (H : Variant) (wanted : Wanted) (size : ℕ) → first_refusal (room_checks H wanted size) ≡ Done → result_size H wanted ≤ size
room_says H wanted size e = ltb-false size _ (not-true _ (passing-says (room_checks H wanted size) e).0)

module _ (v : ℕ) (g : Given) (wanted : Wanted) (size : ℕ) where
  -- a message may be hashed into so many bytes
  pub record Hashable : Type 0 where
    pub asked : Asked v g
    pub room : result_size (variant v) wanted ≤ size

  pub whole_says : hash_status v g wanted size ≡ Done → Hashable
  unfolding hash_status
  whole_says e =
      let p = row-both (message_checks v g) (room_checks (variant v) wanted size) e in
      record { asked = message-passed v g p.0; room = room_says (variant v) wanted size p.1 }
