-- What the counts of a report say of one another, for every map from axis numbers and every stream.
-- Assumes nothing.
use mathlib.Core.Path.{◌≡◌, refl}
use mathlib.Core.Bool.{Bool, true, false, cond}
use mathlib.Core.List.{List, [], ◌∷◌}
use Prim.Native.Nat.{ℕ, zero, suc, ◌+◌, ◌≤◌}
use native.Mathlib.Omega.{arith}
use lib.ListN.{length, drop}
use Rattle.standard.specs.Bits.{digit}
use Rattle.standard.specs.Variants.{known}
use Rattle.manifest.specs.Installations.{Expected, Axes, is_there, all_axes, axis_count}
use Rattle.manifest.specs.Tables.{Table, is_whole, first_table, span_of, tables_up_to, max_tables, tables_in}
use Rattle.manifest.specs.Counts.{Verdict, equal, unequal, unlisted, is_expected, verdict_of, same_verdict, judged, is_told, untold, counts_of}
use Rattle.manifest.specs.Promises.{ToldAddUp, UntoldAtMost, TablesAtMost}
use Rattle.manifest.proofs.Counting.{count-three, count-part}

-- ---- the tables that are told

-- a verdict is one of three
one_of_three : (v : Verdict) → digit (same_verdict equal v) + digit (same_verdict unequal v) + digit (same_verdict unlisted v) ≡ 1
one_of_three equal = refl
one_of_three unequal = refl
one_of_three unlisted = refl

-- every table counts once
pub each-counts-once : (axes : Axes) (ts : List Table)
    → judged equal axes ts + judged unequal axes ts + judged unlisted axes ts ≡ length ts
unfolding judged
each-counts-once axes =
    count-three (has equal) (has unequal) (has unlisted) (λ t. one_of_three (verdict_of axes t))
  where
    has : Verdict → Table → Bool
    has v t = same_verdict v (verdict_of axes t)

-- No table is what is expected under a variant that is not known.
pub unknown-expects-none : (e : Expected) (contents : List ℕ) → known e.variant ≡ false → is_expected e contents ≡ false
unfolding is_expected
unknown-expects-none e contents u = rw u

-- Equal, unequal and unlisted tables are all the tables.
pub told-add-up : ToldAddUp
unfolding counts_of
told-add-up axes stream = each-counts-once axes (tables_in stream)

one_more : (b : Bool) (t : Table) (ts : List Table) (n : ℕ) → length ts ≤ n → length (cond b (t ∷ ts) []) ≤ suc n
one_more true t ts n h = omega arith
one_more false t ts n h = omega arith

up_to : (n : ℕ) (stream : List ℕ) → length (tables_up_to n stream) ≤ n
up_to zero stream = omega arith
up_to (suc n) stream = one_more (is_whole stream) (first_table stream) (tables_up_to n (drop (span_of stream) stream)) n (up_to n (drop (span_of stream) stream))

-- No more tables count than a report looks at.
pub few-tables : (stream : List ℕ) → length (tables_in stream) ≤ max_tables
unfolding tables_in
few-tables stream = up_to max_tables stream

pub tables-at-most : TablesAtMost
unfolding counts_of
tables-at-most axes stream = few-tables stream

-- No more axes are untold than are listed.
pub untold-at-most : UntoldAtMost
unfolding counts_of untold axis_count
untold-at-most axes stream = count-part (λ axis. is_there (axes axis)) (is_told (tables_in stream)) all_axes
