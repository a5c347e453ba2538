-- What is promised of manifests and reports (document 02, Q-1 and Q-5). Each promise is a type; the theorem that its
-- comment names, in proofs/, has that type.
-- Assumes nothing.
use Rattle.std.specs.Prelude.{◌≡◌, ◌↔◌, ℕ, ◌+◌, ◌≤◌, ◌<◌}
use mathlib.Core.List.{List, foldl}
use Rattle.std.proofs.Math.Option.{none, some}
use Rattle.answers.specs.Refusals.{Done}
use Rattle.octets.specs.Numbers.{Bytes}
use Rattle.hasher.specs.Pieces.{joined}
use Rattle.manifest.specs.declared.report.Report.{Report}
use Rattle.manifest.specs.declared.report.Summary.{Summary}
use Rattle.manifest.specs.Records.{record_count, axis_at, manifest_status}
use Rattle.manifest.specs.Installations.{Axes, IsInstallation, list_of, expected_at, held}
use Rattle.manifest.specs.Tables.{max_tables}
use Rattle.manifest.specs.Counts.{counts_of}
use Rattle.manifest.specs.Progress.{begun, piece_taken, counts_so_far}

-- ---- a report counts what is there

-- the calls of a report in a row: it is begun with a manifest and takes each piece of a stream in turn
unfoldable pub reported : List ℕ → List (List ℕ) → Report
reported manifest pieces = foldl (piece_taken manifest) (begun manifest).report pieces

-- the counts that it has come to
unfoldable pub counts_over : List ℕ → List (List ℕ) → Summary
counts_over manifest pieces = counts_so_far (reported manifest pieces)

-- in-pieces. For every manifest that passes and every stream, cut into pieces anywhere: a report that is begun with the
-- manifest and takes each piece in turn comes to the counts that are defined from the installation that the manifest
-- holds and the bytes of the stream.
abbrev pub ReportCounts : Type 0
ReportCounts =
    (manifest : List ℕ) → Bytes manifest → manifest_status manifest ≡ Done → (pieces : List (List ℕ))
    → counts_over manifest pieces ≡ counts_of (held manifest) (joined pieces)

-- cut-anywhere. The places at which the stream is cut make no difference.
abbrev pub CutAnywhere : Type 0
CutAnywhere =
    (manifest : List ℕ) → manifest_status manifest ≡ Done → (xs ys : List (List ℕ)) → joined xs ≡ joined ys
    → counts_over manifest xs ≡ counts_over manifest ys

-- begun-status. A report can be begun with exactly the manifests that pass.
abbrev pub BegunStatus : Type 0
BegunStatus = (manifest : List ℕ) → (begun manifest).status ≡ manifest_status manifest

-- nothing-counted. After a beginning that was refused nothing is ever counted.
abbrev pub NothingCounted : Type 0
NothingCounted =
    (manifest : List ℕ) → (manifest_status manifest ≡ Done → ⊥) → (pieces : List (List ℕ))
    → counts_over manifest pieces ≡ record { listed = 0; tables = 0; equal = 0; unequal = 0; untold = 0; unlisted = 0 }

-- ---- what the counts say of one another

-- equal, unequal and unlisted tables are all the tables
abbrev pub AddsUp : Summary → Type 0
AddsUp s = s.equal + s.unequal + s.unlisted ≡ s.tables

-- told-add-up. For every map from axis numbers and every stream the tables add up.
abbrev pub ToldAddUp : Type 0
ToldAddUp = (axes : Axes) (stream : List ℕ) → AddsUp (counts_of axes stream)

-- untold-at-most. No more axes are untold than are listed.
abbrev pub UntoldAtMost : Type 0
UntoldAtMost = (axes : Axes) (stream : List ℕ) → (counts_of axes stream).untold ≤ (counts_of axes stream).listed

-- tables-at-most. No more tables count than a report looks at: 65,535.
abbrev pub TablesAtMost : Type 0
TablesAtMost = (axes : Axes) (stream : List ℕ) → (counts_of axes stream).tables ≤ max_tables

-- counts-in-pieces. So it is with the counts that a caller finds, after any pieces.
abbrev pub CountsInPieces : Type 0
CountsInPieces =
    (manifest : List ℕ) → manifest_status manifest ≡ Done → (pieces : List (List ℕ))
    → AddsUp (counts_over manifest pieces)
    × ((counts_over manifest pieces).tables ≤ max_tables)
    × ((counts_over manifest pieces).untold ≤ (counts_over manifest pieces).listed)

-- ---- one list for one installation

-- passes-exactly. A list of bytes passes exactly when it is the list of the installation that it holds.
abbrev pub PassesExactly : Type 0
PassesExactly =
    (manifest : List ℕ) → Bytes manifest
    → (manifest_status manifest ≡ Done) ↔ (IsInstallation (held manifest) × (list_of (held manifest) ≡ manifest))

-- one-list. Two lists that pass and hold the same are the same bytes.
abbrev pub OneList : Type 0
OneList =
    (x y : List ℕ) → Bytes x → Bytes y → manifest_status x ≡ Done → manifest_status y ≡ Done → held x ≡ held y → x ≡ y

-- only-list. A map has one list at most: any that passes and holds it is this one.
abbrev pub OnlyList : Type 0
OnlyList =
    (axes : Axes) (manifest : List ℕ) → Bytes manifest → manifest_status manifest ≡ Done → held manifest ≡ axes
    → manifest ≡ list_of axes

-- list-of-bytes, list-of-passes, list-of-holds. Every installation has a list, which is of bytes, passes, and holds the
-- installation.
abbrev pub ListOfBytes : Type 0
ListOfBytes = (axes : Axes) → IsInstallation axes → Bytes (list_of axes)

abbrev pub ListOfPasses : Type 0
ListOfPasses = (axes : Axes) → IsInstallation axes → manifest_status (list_of axes) ≡ Done

abbrev pub ListOfHolds : Type 0
ListOfHolds = (axes : Axes) → IsInstallation axes → held (list_of axes) ≡ axes

-- held-record, held-nothing. A list that passes holds of the axis of each record what that record says; and no list
-- holds anything of an axis that none of its records has.
abbrev pub HeldRecord : Type 0
HeldRecord =
    (manifest : List ℕ) → manifest_status manifest ≡ Done → (k : ℕ) → k < record_count manifest
    → held manifest (axis_at manifest k) ≡ some (expected_at manifest k)

abbrev pub HeldNothing : Type 0
HeldNothing =
    (manifest : List ℕ) (axis : ℕ) → ((k : ℕ) → k < record_count manifest → axis_at manifest k ≡ axis → ⊥)
    → held manifest axis ≡ none
