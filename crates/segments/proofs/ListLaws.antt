-- The check of a whole list against that of its entries, its joined segments, and the length of its message.
-- Assumes nothing.
use mathlib.Core.Path.{◌≡◌, refl, sym, ap, ap₂, ◌∙◌, subst}
use mathlib.Core.Bool.{true}
use mathlib.Core.List.{List, [], ◌∷◌, ◌++◌, flat_map, sum, sum-append}
use mathlib.Core.Logic.{⊎_elim}
use Prim.Native.Nat.{ℕ, zero, suc, ◌+◌, ◌-◌, ◌≤◌, ◌<◌}
use native.Mathlib.Nat.{add_assoc, zero-add, add-zero, le_of_suc-le-suc, eq-or-lt_of_le}
use native.Mathlib.Numerals.{add-one}
use native.Mathlib.Omega.{arith}
use Rattle.std.proofs.lemmas.List.{flat_map_more}
use lib.ListN.{length, length-append, length-take, length-drop}
use Rattle.answers.specs.declared.Refusal.{Refusal}
use Rattle.answers.specs.Refusals.{Status, Done, Refused, entry}
use Rattle.answers.specs.Checks.{first_refusal}
use Rattle.octets.specs.Numbers.{in_bytes}
use Rattle.answers.specs.Outputs.{when_done}
use Rattle.octets.proofs.NumberLaws.{length-in_bytes}
use Rattle.answers.proofs.Statuses.{not_done}
use Rattle.answers.proofs.Rows.{by-ways, each-done, done-each, each_first, First, first_of}
use Rattle.standard.specs.Grid.{tab}
use Rattle.standard.proofs.Tab.{tab-snoc}
use Rattle.segments.specs.Entries.{length_of, end_of, former_end, is_list, count, segment_in, entry_checks, segment_of, entries_status, segments_of, header_of, message_of}
use Rattle.segments.specs.Cuts.{StopsAt, total_up_to, total_of}
use Rattle.segments.specs.Promises.{PassedEntries, EntriesPassed, RefusedEntry, EntryRefused, SegmentsLength, SegmentsWithin}
use Rattle.segments.proofs.EntryLaws.{Fits, entry-fits, segment-checked, segment-entry}

-- ---- joined segments, and the sum of their lengths

-- the first k of them
abbrev pub segments_up_to : List ℕ → List ℕ → ℕ → List ℕ
segments_up_to list buffer k = flat_map (λ s. s) (tab k (segment_in list buffer))

pub segments-suc : (list buffer : List ℕ) (k : ℕ) → segments_up_to list buffer (suc k) ≡ segments_up_to list buffer k ++ segment_in list buffer k
unfolding flat_map
segments-suc list buffer k = ap (flat_map (λ s. s)) (tab-snoc k (segment_in list buffer)) ∙ sym (flat_map_more (λ s. s) [] (tab k (segment_in list buffer)) (segment_in list buffer k))

total-suc : (list : List ℕ) (k : ℕ) → total_up_to list (suc k) ≡ total_up_to list k + length_of list k
unfolding sum
total-suc list k =
    ap (sum ◌+◌ 0) (tab-snoc k (length_of list))
    ∙ sum-append ◌+◌ 0 zero-add add_assoc (tab k (length_of list)) (length_of list k ∷ [])
    ∙ ap (λ (n : ℕ). total_up_to list k + n) (add-zero (length_of list k))

pub total-next : (list : List ℕ) (k : ℕ) → total_up_to list (k + 1) ≡ total_up_to list k + length_of list k
total-next list k = ap (total_up_to list) (add-one k) ∙ total-suc list k

pub segment-length : (list buffer : List ℕ) (k : ℕ) → end_of list k ≤ length buffer → length (segment_in list buffer k) ≡ length_of list k
unfolding segment_in
segment-length list buffer k h = simp (length-take, length-drop) (omega arith)

-- the first k segments are no longer than those of more entries
segments-more : (list buffer : List ℕ) (k d : ℕ) → length (segments_up_to list buffer k) ≤ length (segments_up_to list buffer (k + d))
segments-more list buffer k zero = let e : k + 0 ≡ k = omega arith in rw e (omega arith)
segments-more list buffer k (suc d) =
    let e : k + suc d ≡ suc (k + d) = omega arith in
    rw e (omega (arith, segments-more list buffer k d, ap length (segments-suc list buffer (k + d)), length-append (segments_up_to list buffer (k + d)) (segment_in list buffer (k + d))))

pub segments-up-to-within : (list buffer : List ℕ) (k : ℕ) → k ≤ count list → length (segments_up_to list buffer k) ≤ length (segments_of list buffer)
unfolding segments_of
segments-up-to-within list buffer k h =
    let e : k + (count list - k) ≡ count list = omega arith in
    rw e at (segments-more list buffer k (count list - k))

module _ (list buffer : List ℕ) where
  -- the first k entries pass
  abbrev Passed : ℕ → Type 0
  Passed k = (j : ℕ) → j < k → first_refusal (entry_checks list (length buffer) j) ≡ Done

  fewer : (k : ℕ) → Passed (suc k) → Passed k
  fewer k p j h = p j (omega arith)

  fits : (k : ℕ) → Passed (suc k) → Fits list (length buffer) k
  fits k p = entry-fits list (length buffer) k (p k (omega arith))

  segments-up-to-length : (k : ℕ) → Passed k → length (segments_up_to list buffer k) ≡ total_up_to list k
  unfolding flat_map sum
  segments-up-to-length zero p = refl
  segments-up-to-length (suc k) p =
      ap length (segments-suc list buffer k)
      ∙ length-append (segments_up_to list buffer k) (segment_in list buffer k)
      ∙ ap₂ (λ (a b : ℕ). a + b) (segments-up-to-length k (fewer k p)) (segment-length list buffer k (fits k p).within)
      ∙ sym (total-suc list k)

  former-within : (k : ℕ) → Passed k → former_end list k ≤ length buffer
  unfolding former_end
  former-within zero p = omega arith
  former-within (suc k) p = (fits k p).within

  total-former : (k : ℕ) → Passed k → total_up_to list k ≤ former_end list k
  unfolding former_end sum
  total-former zero p = omega arith
  total-former (suc k) p = omega (arith, total-suc list k, total-former k (fewer k p), (fits k p).ordered)

  all-passed : entries_status list (length buffer) ≡ Done → Passed (count list)
  all-passed e = done-each (count list) (entry_checks list (length buffer)) e

  -- the first k segments of a list that passes have as many bytes as its first k entries name together
  pub passed-up-to-length : entries_status list (length buffer) ≡ Done → (k : ℕ) → k ≤ count list → length (segments_up_to list buffer k) ≡ total_up_to list k
  passed-up-to-length e k h = segments-up-to-length k (λ j l. all-passed e j (omega arith))

pub segments-length : SegmentsLength
unfolding segments_of total_of
segments-length list buffer e = segments-up-to-length list buffer (count list) (all-passed list buffer e)

pub segments-within : SegmentsWithin
unfolding total_of
segments-within list buffer e =
    let p = all-passed list buffer e in
    omega (arith, segments-length list buffer e, total-former list buffer (count list) p, former-within list buffer (count list) p)

module _ (list buffer : List ℕ) (e : entries_status list (length buffer) ≡ Done) where
  -- The message has those of its header more.
  pub message-length : length (message_of list buffer) ≡ length (header_of list) + total_of list
  unfolding message_of
  message-length = simp length-append (omega (arith, segments-length list buffer e))

  pub message-within : length (message_of list buffer) ≤ length (header_of list) + length buffer
  message-within = omega (arith, message-length, segments-length list buffer e, segments-within list buffer e)

pub header-length : (list : List ℕ) → length (header_of list) ≡ 2 + length list
unfolding header_of
header-length list = length-append (in_bytes 2 (count list)) list ∙ ap (λ (n : ℕ). n + length list) (length-in_bytes 2 (count list))

-- ---- lists that name the same

-- The joined segments of two lists agree up to a, and so do those from a on: they agree up to b.
pub same-up-to : (list x list' y : List ℕ) (a b : ℕ) → a ≤ b → segments_up_to list x a ≡ segments_up_to list' y a
    → ((j : ℕ) → a ≤ j → j < b → segment_in list x j ≡ segment_in list' y j) → segments_up_to list x b ≡ segments_up_to list' y b
same-up-to list x list' y a zero h e s =
    let none : a ≡ 0 = omega arith in
    subst (λ (i : ℕ). segments_up_to list x i ≡ segments_up_to list' y i) none e
same-up-to list x list' y a (suc b) h e s =
    ⊎_elim (λ here. subst (λ (i : ℕ). segments_up_to list x i ≡ segments_up_to list' y i) here e)
    (λ l.
    segments-suc list x b
    ∙ ap₂ (λ (p q : List ℕ). p ++ q) (same-up-to list x list' y a b (le_of_suc-le-suc l) e (λ j m n. s j m (omega arith))) (s b (le_of_suc-le-suc l) (omega arith))
    ∙ sym (segments-suc list' y b))
    (eq-or-lt_of_le h)

-- ---- the list's check and that of its entries

-- the entry that an answer names
abbrev named : Status → ℕ
named Done = 0
named (Refused r) = entry r

module _ (list : List ℕ) (n : ℕ) where
  -- a refusal names the entry that it is of
  entry_named : (k : ℕ) (r : Refusal) → first_refusal (entry_checks list n k) ≡ Refused r → entry r ≡ k
  unfolding entry_checks
  entry_named k =
      by-ways (λ (s : Status). (r : Refusal) → s ≡ Refused r → entry r ≡ k) (entry_checks list n k)
      (λ e r q. sym (ap named q), λ e. (λ e r q. sym (ap named q), λ e r q. absurd (not_done r (sym q))))

pub passed-entries : PassedEntries
passed-entries list n whole e k h = segment-entry list n k whole h ∙ done-each (count list) (entry_checks list n) e k h

pub entries-passed : EntriesPassed
entries-passed list n whole h = each-done (count list) (entry_checks list n) (λ k l. (segment-checked list n k (h k l)).entry)

pub refused-entry : RefusedEntry
refused-entry list n whole r e =
    subst (λ (k : ℕ). StopsAt list n k (Refused r)) (sym (entry_named list n w.place r (w.same ∙ e)))
    (record {
      there = w.there;
      earlier = λ j h. segment-entry list n j whole (omega (arith, w.there)) ∙ w.earlier j h;
      refused = segment-entry list n w.place whole w.there ∙ w.same ∙ e;
    })
  where
    w : First (count list) (entry_checks list n)
    w = first_of (count list) (entry_checks list n) (λ d. not_done r (sym e ∙ d))

pub entry-refused : EntryRefused
entry-refused list n whole k r w =
    each_first (count list) (entry_checks list n) k w.there (λ j l. (segment-checked list n j (w.earlier j l)).entry) (λ d. not_done r (sym here ∙ d)) ∙ here
  where
    here : first_refusal (entry_checks list n k) ≡ Refused r
    here = sym (segment-entry list n k whole w.there) ∙ w.refused

-- The segment of an entry of a list that passes is there.
pub segment-there : (list buffer : List ℕ) → is_list list ≡ true → entries_status list (length buffer) ≡ Done → (k : ℕ) → k < count list → segment_of list buffer k ≡ segment_in list buffer k
unfolding segment_of
segment-there list buffer whole e k l = ap (λ (s : Status). when_done s (segment_in list buffer k) []) (passed-entries list (length buffer) whole e k l)
