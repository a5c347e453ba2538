-- For every manifest that passes and every cutting of a stream into pieces, the counts of the report are those of the
-- installation that the manifest holds and of the stream's bytes.
-- Assumes nothing.
use mathlib.Core.Path.{◌≡◌, refl, sym, ap, ◌∙◌}
use mathlib.Core.Bool.{Bool, true, false, cond, ◌&&◌}
use mathlib.Core.List.{List, [], ◌∷◌, ◌++◌, foldl, foldl-append, append_assoc, append-nil}
use mathlib.Core.Logic.{⊎_elim}
use Prim.Native.Nat.{ℕ, zero, suc, ◌+◌, ◌≤◌, ◌<◌}
use native.Mathlib.Omega.{arith}
use lib.Dec.{ltb}
use lib.ListN.{length, take, drop, length-append}
use lib.Seq.{take-take}
use borrow.Author.Tests.{lt-ltb}
use Rattle.answers.specs.Refusals.{Done}
use Rattle.octets.specs.Numbers.{big_endian}
use Rattle.answers.proofs.Statuses.{kept}
use Rattle.standard.specs.Grid.{tab}
use Rattle.standard.proofs.Tab.{length-tab}
use Rattle.standard.proofs.Tests.{either}
use Rattle.hasher.specs.Pieces.{joined, with_byte}
use Rattle.hasher.specs.Running.{started}
use Rattle.manifest.specs.declared.tally.Tally.{Tally}
use Rattle.manifest.specs.declared.report.Report.{Report}
use Rattle.manifest.specs.declared.report.Summary.{Summary}
use Rattle.manifest.specs.Records.{record_count, manifest_status}
use Rattle.manifest.specs.Installations.{expected_at, held}
use Rattle.manifest.specs.Tables.{Table, axis_in, span_of, is_whole, first_table, tables_up_to, max_tables, tables_in}
use Rattle.manifest.specs.Counts.{is_expected, counts_of}
use Rattle.manifest.specs.Lookups.{is_ordered, record_for, is_listed}
use Rattle.manifest.specs.Progress.{unread, variant_for, table_byte, is_complete, tallied, matches, with_table, settled, byte_taken, piece_taken, fresh_report, empty_report, begun, counts_so_far}
use Rattle.manifest.specs.Promises.{reported, counts_over, ReportCounts, CutAnywhere, CountsInPieces, BegunStatus, NothingCounted}
use Rattle.manifest.proofs.Counting.{count_below, count_most}
use Rattle.manifest.proofs.AxisLaws.{listed-records, untold-records}
use Rattle.manifest.proofs.OrderLaws.{Rising, passing-rises, passing-ordered}
use Rattle.manifest.proofs.Sums.{each-counts-once, few-tables}
use Rattle.manifest.proofs.StrideLaws.{report_with, full-stays}
use Rattle.manifest.proofs.TableLaws.{nothing-whole, none-whole, contents-left, tables_after, ends-exactly}
use Rattle.manifest.proofs.ReadSoFar.{reading, past_header, complete-is-whole, whole-read}
use Rattle.manifest.proofs.RecordLaws.{manifest-few, passing-manifest}
use Rattle.manifest.proofs.Verdicts.{verdict}
use Rattle.manifest.proofs.TallyOf.{awaits, tally_of, tallied-all, unlisted-told, listed-told, none_told}

-- the report of a row of tables, and of a next one of which these bytes were read
abbrev report_of : List ℕ → List Table → List ℕ → Report
report_of manifest ts s = report_with true (tally_of manifest ts) (reading manifest s)

-- the counts of a tally
abbrev counts_in : Tally → Summary
counts_in y =
    record {
      listed = y.listed;
      tables = tallied y;
      equal = y.equal;
      unequal = y.unequal;
      untold = y.untold;
      unlisted = y.unlisted;
    }

-- no more records await a table than there are
fewer-await : (manifest : List ℕ) (ts : List Table) → count_below (awaits manifest ts) (record_count manifest) ≤ record_count manifest
fewer-await manifest ts =
    let n : ℕ = record_count manifest in
    omega (arith, count_most (awaits manifest ts) (tab n (λ k. k)), length-tab n (λ k. k))

-- the axis that a header names
header-axis : (s : List ℕ) → axis_in (take 6 s) ≡ axis_in s
unfolding axis_in
header-axis s = ap big_endian (take-take 2 6 s (omega arith))

-- a report of nothing takes nothing
nothing-taken : (manifest p : List ℕ) → piece_taken manifest empty_report p ≡ empty_report
unfolding piece_taken
nothing-taken manifest p = refl

-- a byte leaves it so that the next is read
passed-byte : (manifest : List ℕ) (r : Report) (b : ℕ) → r.passed ≡ true → (byte_taken manifest r b).passed ≡ true
unfolding byte_taken settled
passed-byte manifest r b e = by (ltb (tallied r.tally) max_tables) (is_complete (table_byte manifest r.current b))
  where
    by : (t c : Bool) → (cond t
        (cond c (report_with true (with_table manifest r.tally (table_byte manifest r.current b)) unread) (report_with true r.tally (table_byte manifest r.current b))) r).passed
        ≡ true
    by true true = refl
    by true false = refl
    by false c = e

module _ (manifest : List ℕ) (passes : manifest_status manifest ≡ Done) where
  rising : Rising manifest
  rising = passing-rises manifest passes

  -- ---- a table's last byte

  module _ (ts : List Table) (s : List ℕ) (whole : is_whole s ≡ true) (ends : length s ≡ span_of s) where
    -- the running hash gives the verdict on the table
    judged : is_listed manifest (axis_in s) ≡ true
        → matches manifest (record_for manifest (axis_in s)) (past_header manifest s).hasher
        ≡ is_expected (expected_at manifest (record_for manifest (axis_in s))) (first_table s).contents
    judged is =
        let c = contents-left s ends in
        ap (λ (n : ℕ). matches manifest (record_for manifest (axis_in s)) (foldl with_byte (started (variant_for manifest (axis_in s) n)).hasher (drop 6 s))) (sym c.0)
        ∙ verdict manifest passes (axis_in s) is (drop 6 s)
        ∙ ap (is_expected (expected_at manifest (record_for manifest (axis_in s)))) (sym c.1)

    -- the table goes into the tally
    table-told : with_table manifest (tally_of manifest ts) (reading manifest s) ≡ tally_of manifest (ts ++ first_table s ∷ [])
    unfolding with_table first_table
    table-told =
        ap (with_table manifest (tally_of manifest ts)) (whole-read manifest s whole)
        ∙ ⊎_elim
        (λ (is : is_listed manifest (axis_in s) ≡ true). rw (header-axis s, is, judged is) (listed-told manifest rising ts (first_table s) is (manifest-few manifest (passing-manifest manifest passes))))
        (λ (is : is_listed manifest (axis_in s) ≡ false). rw (header-axis s, is) (unlisted-told manifest rising ts (first_table s) is))
        (either (is_listed manifest (axis_in s)))

  -- ---- a byte

  module _ (ts : List Table) (s : List ℕ) (b : ℕ) (h : length ts < max_tables) where
    -- it is looked at
    looked-at : byte_taken manifest (report_of manifest ts s) b ≡ settled manifest (tally_of manifest ts) (reading manifest (s ++ b ∷ []))
    unfolding byte_taken
    looked-at = rw (tallied-all manifest ts, lt-ltb (length ts) max_tables h, foldl-append (table_byte manifest) unread s (b ∷ []))

    -- a byte that ends the table
    last_byte : is_whole s ≡ false → is_whole (s ++ b ∷ []) ≡ true → byte_taken manifest (report_of manifest ts s) b ≡ report_of manifest (ts ++ first_table (s ++ b ∷ []) ∷ []) []
    unfolding settled
    last_byte short whole =
        looked-at
        ∙ rw (complete-is-whole manifest (s ++ b ∷ []), whole, table-told ts (s ++ b ∷ []) whole (ends-exactly s b short whole))

    -- and one that does not
    inner-byte : is_whole (s ++ b ∷ []) ≡ false → byte_taken manifest (report_of manifest ts s) b ≡ report_of manifest ts (s ++ b ∷ [])
    unfolding settled
    inner-byte short = looked-at ∙ rw (complete-is-whole manifest (s ++ b ∷ []), short)

  -- ---- the rest of the stream

  -- n tables more are looked at
  read-on : (x : List ℕ) (n : ℕ) (ts : List Table) (s : List ℕ) → n + length ts ≡ max_tables → is_whole s ≡ false
      → (foldl (byte_taken manifest) (report_of manifest ts s) x).tally ≡ tally_of manifest (ts ++ tables_up_to n (s ++ x))
  read-on [] n ts s e short = rw (append-nil s, none-whole n s short, append-nil ts)
  read-on (b ∷ x) zero ts s e short =
      ap (λ (r : Report). r.tally) (full-stays manifest (report_of manifest ts s) (omega (arith, tallied-all manifest ts)) (b ∷ x)) ∙ rw (append-nil ts)
  read-on (b ∷ x) (suc n) ts s e short =
      let next : List ℕ = s ++ b ∷ [] in
      let assoc : next ++ x ≡ s ++ b ∷ x = append_assoc s (b ∷ []) x in
      ⊎_elim
      (λ (whole : is_whole (s ++ b ∷ []) ≡ true).
      ap (λ (r : Report). (foldl (byte_taken manifest) r x).tally) (last_byte ts s b (omega arith) short whole)
      ∙ read-on x n (ts ++ first_table next ∷ []) [] (omega (arith, length-append ts (first_table next ∷ []))) nothing-whole
      ∙ ap (tally_of manifest)
      (append_assoc ts (first_table next ∷ []) (tables_up_to n x)
      ∙ ap (λ (us : List Table). ts ++ us) (sym (tables_after next x n whole (ends-exactly s b short whole)) ∙ ap (tables_up_to (suc n)) assoc)))
      (λ (inner : is_whole (s ++ b ∷ []) ≡ false).
      ap (λ (r : Report). (foldl (byte_taken manifest) r x).tally) (inner-byte ts s b (omega arith) inner)
      ∙ read-on x (suc n) ts next e inner
      ∙ ap (λ (y : List ℕ). tally_of manifest (ts ++ tables_up_to (suc n) y)) assoc)
      (either (is_whole (s ++ b ∷ [])))

  -- ---- pieces

  -- a report goes on after each byte
  passed_on : (x : List ℕ) (r : Report) → r.passed ≡ true → (foldl (byte_taken manifest) r x).passed ≡ true
  passed_on [] r e = e
  passed_on (b ∷ x) r e = passed_on x (byte_taken manifest r b) (passed-byte manifest r b e)

  -- each byte of each piece in turn is each byte of the stream
  joined_bytes : (pieces : List (List ℕ)) (r : Report) → r.passed ≡ true → foldl (piece_taken manifest) r pieces ≡ foldl (byte_taken manifest) r (joined pieces)
  unfolding piece_taken joined
  joined_bytes [] r e = refl
  joined_bytes (p ∷ ps) r e =
      ap (λ (t : Bool). foldl (piece_taken manifest) (cond t (foldl (byte_taken manifest) r p) r) ps) {x = r.passed && is_ordered manifest} {y = true} (rw e (passing-ordered manifest passes))
      ∙ joined_bytes ps (foldl (byte_taken manifest) r p) (passed_on p r e)
      ∙ sym (foldl-append (byte_taken manifest) r p (joined ps))

  -- the beginning is the report of no tables
  from-the-start : (begun manifest).report ≡ report_of manifest [] []
  unfolding begun fresh_report
  from-the-start = rw passes (ap (λ (y : Tally). report_with true y unread) (none_told manifest))

  -- the tally that the pieces lead to
  reported-tally : (pieces : List (List ℕ)) → (reported manifest pieces).tally ≡ tally_of manifest (tables_in (joined pieces))
  unfolding reported tables_in
  reported-tally pieces =
      ap (λ (r : Report). (foldl (piece_taken manifest) r pieces).tally) from-the-start
      ∙ ap (λ (r : Report). r.tally) (joined_bytes pieces (report_of manifest [] []) refl)
      ∙ read-on (joined pieces) max_tables [] [] (omega arith) nothing-whole

  -- and the counts, from that tally
  counts-tally : (pieces : List (List ℕ)) → counts_over manifest pieces ≡ counts_in (tally_of manifest (tables_in (joined pieces)))
  unfolding counts_over counts_so_far
  counts-tally pieces = ap counts_in (reported-tally pieces)

-- A report in pieces comes to the counts of the installation that the manifest holds and of the stream.
pub in_pieces : ReportCounts
unfolding counts_of tally_of
in_pieces manifest hb passes pieces =
    let ts = tables_in (joined pieces) in
    let r = rising manifest passes in
    counts-tally manifest passes pieces
    ∙ rw (each-counts-once (held manifest) ts, listed-records manifest r hb, untold-records manifest r hb ts)

-- What the counts that a caller finds say of one another.
pub counts-in-pieces : CountsInPieces
unfolding tally_of
counts-in-pieces manifest passes pieces =
    let ts = tables_in (joined pieces) in
    rw (counts-tally manifest passes pieces)
    (refl, omega (arith, tallied-all manifest ts, few-tables (joined pieces)), fewer-await manifest ts)

-- Where the stream is cut makes no difference.
pub cut-anywhere : CutAnywhere
cut-anywhere manifest passes xs ys e =
    counts-tally manifest passes xs
    ∙ ap (λ (stream : List ℕ). counts_in (tally_of manifest (tables_in stream))) e
    ∙ sym (counts-tally manifest passes ys)

-- After a beginning that was refused the report stays that of nothing.
pub nothing_read : (manifest : List ℕ) → (manifest_status manifest ≡ Done → ⊥) → (pieces : List (List ℕ)) → reported manifest pieces ≡ empty_report
unfolding reported begun
nothing_read manifest n pieces =
    ap (λ (r : Report). foldl (piece_taken manifest) r pieces) (kept (manifest_status manifest) (fresh_report manifest) empty_report n) ∙ stays pieces
  where
    stays : (ps : List (List ℕ)) → foldl (piece_taken manifest) empty_report ps ≡ empty_report
    stays [] = refl
    stays (p ∷ ps) = ap (λ (r : Report). foldl (piece_taken manifest) r ps) (nothing-taken manifest p) ∙ stays ps

-- So nothing is counted.
pub nothing-counted : NothingCounted
unfolding counts_over counts_so_far
nothing-counted manifest n pieces = ap counts_so_far (nothing_read manifest n pieces)

-- A report can be begun with exactly the manifests that pass.
pub begun-status : BegunStatus
unfolding begun
begun-status manifest = refl
