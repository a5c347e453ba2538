-- The records of a manifest as chunks of its bytes, and what a binary search among them finds.
-- Assumes nothing.
use mathlib.Core.Path.{◌≡◌, refl, sym, ap, ◌∙◌}
use mathlib.Core.List.{List, []}
use mathlib.Core.Logic.{⊎_elim}
use Prim.Native.Nat.{ℕ, zero, suc, ◌+◌, ◌*◌, ◌≤◌, ◌<◌}
use native.Mathlib.Nat.{eq-or-lt_of_le}
use native.Mathlib.Omega.{arith}
use lib.ListN.{length, get_or, take, drop}
use Rattle.std.proofs.Common.{Result, Ok, Err}
use Rattle.std.specs.Result.{result_ok}
use Rattle.std.specs.Simd.{first_chunks}
use Rattle.std.specs.Ordering.{nat_cmp, ordering_index}
use Rattle.std.specs.List.Sorted.{IsSearchInRange, IsBinarySearchResult, IsNonDecreasingBy}
use Rattle.std.proofs.lemmas.Cmp.{ranked}
use Rattle.std.proofs.lemmas.List.{take-take, drop-drop}
use Rattle.std.proofs.lemmas.List.Sorted.{IsNonDecreasingBy-from_default}
use Rattle.std.proofs.lemmas.Bool.Decides.{nat_tests}
use Rattle.octets.specs.Numbers.{big_endian}
use Rattle.standard.proofs.Tests.{lt-or-le}
use Rattle.manifest.specs.Records.{record_count, axis_at}
use Rattle.manifest.specs.Lookups.{record_for, found_record}
use Rattle.manifest.proofs.RecordLaws.{found-listed, none-listed}
use Rattle.manifest.proofs.OrderLaws.{Rising, record-only, record-none}

-- chunk k of n stands where record k does
chunk_at : (n : ℕ) (bytes : List ℕ) (k : ℕ) → k < n → get_or (first_chunks 35 n bytes) k [] ≡ take 35 (drop (35 * k) bytes)
chunk_at zero bytes k h = absurd (omega arith)
chunk_at (suc n) bytes zero h = refl
chunk_at (suc n) bytes (suc k) h =
    let e : 35 + 35 * k ≡ 35 * suc k = omega arith in
    chunk_at n (drop 35 bytes) k (omega arith) ∙ ap (take 35) (drop-drop (35 * k) 35 bytes ∙ ap (λ (i : ℕ). drop i bytes) e)

chunks_long : (n : ℕ) (bytes : List ℕ) → length (first_chunks 35 n bytes) ≡ n
chunks_long zero bytes = refl
chunks_long (suc n) bytes = ap suc (chunks_long n (drop 35 bytes))

module _ (manifest : List ℕ) where
  abbrev chunks : List (List ℕ)
  chunks = first_chunks 35 (record_count manifest) manifest

  -- and has its axis number
  chunk-axis : (k : ℕ) → k < record_count manifest → axis_at (get_or (first_chunks 35 (record_count manifest) manifest) k []) 0 ≡ axis_at manifest k
  chunk-axis k h = rw (chunk_at (record_count manifest) manifest k h) (ap big_endian (take-take 2 35 (drop (35 * k) manifest) (omega arith)))

  module _ (rising : Rising manifest) (axis : ℕ) where
    long : length (first_chunks 35 (record_count manifest) manifest) ≡ record_count manifest
    long = chunks_long (record_count manifest) manifest

    -- the comparisons with an axis rise along the records, as a binary search asks
    comparisons_rise : IsNonDecreasingBy (λ (c : List ℕ). ordering_index (nat_cmp (axis_at c 0) axis)) (first_chunks 35 (record_count manifest) manifest)
    comparisons_rise =
        IsNonDecreasingBy-from_default (λ (c : List ℕ). ordering_index (nat_cmp (axis_at c 0) axis)) chunks []
        (λ i j le in_range.
        let few : j < record_count manifest = omega (arith, long) in
        let a : axis_at (get_or (first_chunks 35 (record_count manifest) manifest) i []) 0 ≡ axis_at manifest i = chunk-axis i (omega arith) in
        let b : axis_at (get_or (first_chunks 35 (record_count manifest) manifest) j []) 0 ≡ axis_at manifest j = chunk-axis j few in
        let rise : axis_at manifest i ≤ axis_at manifest j =
        ⊎_elim (λ (e : i ≡ j). rw e (omega arith)) (λ (l : i < j). omega (arith, rising i j l few)) (eq-or-lt_of_le le)
        in
        rw (a, b) (grind (arith, nat_tests)))

    -- such a search finds the record of the axis, or that there is none
    pub search-finds : (r : Result ℕ ℕ) → IsSearchInRange r (length (first_chunks 35 (record_count manifest) manifest))
        → IsBinarySearchResult (λ (c : List ℕ). nat_cmp (axis_at c 0) axis) (first_chunks 35 (record_count manifest) manifest) r
        → result_ok r ≡ found_record manifest axis
    unfolding found_record
    search-finds (Ok k) in_range equal =
        let here : k < record_count manifest = omega (arith, long) in
        let same : axis_at (get_or (first_chunks 35 (record_count manifest) manifest) k []) 0 ≡ axis = ranked _ axis _ (sym (equal [])) in
        let is : k ≡ record_for manifest axis = record-only manifest axis rising k here (sym (chunk-axis k here) ∙ same) in
        rw (found-listed manifest axis k is here, ← is)
    search-finds (Err i) in_range parted =
        let other : (k : ℕ) → k < record_count manifest → axis_at manifest k ≡ axis → ⊥ =
        λ k h e. ⊎_elim
        (λ (l : k < i). let low : axis_at (get_or (first_chunks 35 (record_count manifest) manifest) k []) 0 < axis = ranked _ axis _ (sym ((parted comparisons_rise).0 k [] (omega arith) l)) in omega (arith, chunk-axis k h))
        (λ (l : i ≤ k). let high : axis < axis_at (get_or (first_chunks 35 (record_count manifest) manifest) k []) 0 = ranked _ axis _ (sym ((parted comparisons_rise).1 k [] l (omega (arith, long)))) in omega (arith, chunk-axis k h))
        (lt-or-le k i)
        in
        let none : record_for manifest axis ≡ record_count manifest = record-none manifest axis other in
        rw (none-listed manifest axis (record_count manifest) (sym none) (omega arith))
