-- The verdict on a listed table: a running hash that took its contents byte by byte matches the record of its axis
-- exactly when the table is what that record expects.
-- Assumes nothing.
use mathlib.Core.Path.{◌≡◌, refl, sym, ap, ap₂, ◌∙◌}
use mathlib.Core.Bool.{Bool, true, false, ◌&&◌}
use mathlib.Core.List.{List, [], ◌∷◌, ◌++◌, foldl}
use mathlib.Core.Logic.{⊎_elim}
use Prim.Native.Nat.{ℕ, ◌-◌, ◌≤◌, ◌<◌}
use native.Mathlib.Omega.{arith}
use lib.ListN.{length, drop, replicate, length-drop, take-append-drop}
use lib.Seq.{length-take-le}
use borrow.Author.Tests.{le-leb, lt-leb, ltb-true}
use Rattle.standard.specs.Chain.{digest_of, end_state}
use Rattle.standard.specs.Messages.{byte_bits, bytes}
use Rattle.standard.specs.Variants.{variant, known}
use Rattle.standard.proofs.Tests.{lt-or-le}
use Rattle.standard.proofs.Variants.{bounds}
use Rattle.answers.specs.Refusals.{Status, Done}
use Rattle.answers.specs.Outputs.{when_done, max_bytes}
use Rattle.hasher.specs.declared.Hasher.{Hasher}
use Rattle.hasher.specs.declared.Advanced.{Advanced}
use Rattle.standard.specs.declared.Wanted.TheVariants.{Digest}
use Rattle.hasher.specs.Running.{well_formed, blank, fresh, ended, started, updated, finished}
use Rattle.hasher.specs.Reading.{read_status, read_into}
use Rattle.hasher.specs.Pieces.{with_byte}
use Rattle.hasher.proofs.ByteByByte.{byte-by-byte}
use Rattle.hasher.proofs.Next.{onward-none}
use Rattle.hasher.proofs.Calls.{start-unknown, start-done, update-done, finish-done, result-length}
use Rattle.hasher.proofs.Message.{taken, fresh-sized, fresh-open, fresh-whole, fresh_kept, none_kept, few_bits, reached-open, end-status, end-into, whole-done}
use Rattle.hasher.proofs.Demand2.{whole-digest}
use Rattle.octets.specs.Slices.{same}
use Rattle.manifest.specs.Records.{record_count, variant_at, digest_field_at, digest_bytes, digest_at, filler_at, manifest_status}
use Rattle.octets.proofs.CompareLaws.{same-append, zeros-same, zeros-drop}
use Rattle.manifest.specs.Installations.{expected_at}
use Rattle.manifest.specs.Counts.{is_expected}
use Rattle.manifest.specs.Lookups.{record_for, is_listed}
use Rattle.manifest.specs.Progress.{variant_for, matches}
use Rattle.manifest.proofs.Counting.{and_yes}
use Rattle.manifest.proofs.RecordLaws.{filled-length}
use Rattle.manifest.proofs.OrderLaws.{passed-record}

-- ---- a running hash that takes bytes one by one

module _ (v : ℕ) (k : known v ≡ true) where
  -- from its start, within the limit
  contents-taken : (m : List ℕ) → length m ≤ max_bytes → foldl with_byte (started v).hasher m ≡ taken v m
  contents-taken [] few =
      ap (λ (u : Advanced). u.hasher) (start-done v k)
      ∙ sym (onward-none (fresh v) (fresh-sized v k) (fresh-open v k) (fresh_kept v k) (none_kept v k))
  contents-taken (b ∷ m) few =
      ap (λ (u : Advanced). foldl with_byte u.hasher (b ∷ m)) (start-done v k)
      ∙ byte-by-byte (fresh v) (fresh-sized v k) b m (λ _. omega (arith, few))
      ∙ ap (λ (u : Advanced). u.hasher) (update-done (fresh v) (bytes (b ∷ m)) (fresh-open v k) refl (fresh-whole v k) (omega (arith, few_bits (b ∷ m) few)))

-- one of variant 0 takes nothing
blank-stays : (m : List ℕ) → foldl with_byte (blank 0) m ≡ blank 0
unfolding updated well_formed
blank-stays [] = refl
blank-stays (b ∷ m) = blank-stays m

none-taken : (m : List ℕ) → foldl with_byte (started 0).hasher m ≡ blank 0
none-taken m = ap (λ (u : Advanced). foldl with_byte u.hasher m) (start-unknown 0 refl) ∙ blank-stays m

-- and matches no record
none-matches : (manifest : List ℕ) (k : ℕ) → matches manifest k (blank 0) ≡ false
unfolding matches finished read_status well_formed
none-matches manifest k = refl

-- ---- a record of a manifest that passes

module _ (manifest : List ℕ) (passes : manifest_status manifest ≡ Done) (k : ℕ) (here : k < record_count manifest) where
  -- its variant
  abbrev v : ℕ
  v = variant_at manifest k

  named : known v ≡ true
  named = (passed-record manifest passes k here).named

  -- the digest fits into the 32 bytes
  room : digest_bytes v ≤ 32
  room = omega (arith, (bounds v named).digest-most)

  -- bytes with zeros after them are the record's 32 exactly when they are its digest
  digest-alone : (d : List ℕ) → length d ≡ digest_bytes v → same (d ++ drop (digest_bytes v) (replicate 32 0)) (digest_field_at manifest k) ≡ same d (digest_at manifest k)
  unfolding digest_at filler_at
  digest-alone d l =
      let filled : List ℕ = digest_field_at manifest k in
      let long : length filled ≡ 32 = filled-length manifest k here in
      let rest : same (drop (digest_bytes v) (replicate 32 0)) (filler_at manifest k) ≡ true =
      zeros-same (drop (digest_bytes v) (replicate 32 0)) (filler_at manifest k)
      (length-drop (digest_bytes v) (replicate 32 0) ∙ sym (length-drop (digest_bytes v) filled ∙ ap (λ (n : ℕ). n - digest_bytes v) long))
      (zeros-drop (digest_bytes v) (replicate 32 0) refl) (passed-record manifest passes k here).filled in
      ap (same (d ++ drop (digest_bytes v) (replicate 32 0))) (sym (take-append-drop (digest_bytes v) filled))
      ∙ same-append d _ (digest_at manifest k) (filler_at manifest k) (l ∙ sym (length-take-le (digest_bytes v) filled (omega (arith, room))))
      ∙ ap (λ (t : Bool). same d (digest_at manifest k) && t) rest
      ∙ and_yes (same d (digest_at manifest k))

  -- a running hash of the whole contents
  hashed-matches : (m : List ℕ) → length m ≤ max_bytes → matches manifest k (taken v m) ≡ same (digest_of (variant v) (byte_bits m)) (digest_at manifest k)
  unfolding matches digest_of
  hashed-matches m few =
      let end : (finished (taken v m)).hasher ≡ ended (taken v m) = ap (λ (a : Advanced). a.hasher) (finish-done (taken v m) (reached-open v named (byte_bits m) (few_bits m few))) in
      ap (λ (h : Hasher). when_done (read_status h Digest 32) (same (read_into h Digest (replicate 32 0)) (digest_field_at manifest k)) false) end
      ∙ ap₂ (λ (s : Status) (x : List ℕ). when_done s (same x (digest_field_at manifest k)) false)
      (end-status v named (bytes m) refl (few_bits m few) Digest 32 ∙ (whole-done v named (bytes m) refl (few_bits m few) Digest (replicate 32 0) room).0)
      (end-into v named (bytes m) refl (few_bits m few) Digest (replicate 32 0) ∙ whole-digest v named (bytes m) refl (few_bits m few) (replicate 32 0) room)
      ∙ digest-alone (digest_of (variant v) (byte_bits m)) (result-length (variant v) Digest (end_state (variant v) (byte_bits m)))

-- ---- a listed table

module _ (manifest : List ℕ) (passes : manifest_status manifest ≡ Done) (axis : ℕ) (is : is_listed manifest axis ≡ true) (m : List ℕ) where
  abbrev k : ℕ
  k = record_for manifest axis

  here : record_for manifest axis < record_count manifest
  unfolding is_listed
  here = ltb-true (record_for manifest axis) (record_count manifest) is

  -- The running hash under the variant of the axis's record, after every byte of the contents, matches that record
  -- exactly when the table is what it expects; past the limit neither.
  pub verdict : matches manifest (record_for manifest axis) (foldl with_byte (started (variant_for manifest axis (length m))).hasher m)
      ≡ is_expected (expected_at manifest (record_for manifest axis)) m
  unfolding variant_for is_expected
  verdict =
      let n = named manifest passes k here in
      ⊎_elim
      (λ l. rw (lt-leb (length m) max_bytes l, is, n, none-taken m) (none-matches manifest k))
      (λ l. rw (le-leb (length m) max_bytes l, is, n, contents-taken (variant_at manifest k) n m l) (hashed-matches manifest passes k here m l))
      (lt-or-le max_bytes (length m))
