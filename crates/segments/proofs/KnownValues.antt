-- Every known value of the papers is what the definitions give: one statement for the one list.
-- Assumes nothing.
use mathlib.Core.Path.{refl}
use mathlib.Core.List.{◌++◌, flat_map}
use native.Mathlib.Omega.{arith}
use Rattle.octets.specs.Numbers.{big_endian, in_bytes}
use Rattle.standard.specs.KnownValues as standard
use Rattle.standard.specs.KnownValues.{AllHold}
use Rattle.standard.proofs.KnownValues as proved
use Rattle.standard.proofs.KnownValues.{holds-append}
use Rattle.segments.specs.Entries.{former_end, is_list, segment_in, entry_checks, segment_checks, segment_of, segments_of, header_of, message_of}
use Rattle.segments.specs.Cuts.{Passes, BorderMoved}
use Rattle.segments.specs.Promises.{AllValuesHold, BorderExample}
use Rattle.segments.specs.KnownValues.{small_entry, six_bytes, list_values}
use Rattle.segments.proofs.EqualMessages.{border-shows}

-- the rows for lists compute
list-values : AllHold list_values
unfolding flat_map big_endian in_bytes former_end is_list segment_in entry_checks segment_checks segment_of segments_of header_of message_of
list-values = refl

pub known_values : AllValuesHold
known_values = holds-append standard.known_rows list_values proved.known_values list-values

-- ---- a border that is moved, and shows

border-moved : BorderMoved 0 (small_entry 0 2 ++ small_entry 2 2) (small_entry 0 3 ++ small_entry 3 1)
unfolding big_endian
border-moved =
    record {
      counts = refl;
      there = omega arith;
      begins = refl;
      touch = refl;
      touch' = refl;
      moved = omega arith;
      ends = refl;
      elsewhere = λ j h n m. absurd (omega (arith, h, n, m));
    }

pub border-example : BorderExample
unfolding big_endian former_end is_list entry_checks
border-example =
    let a : Passes (small_entry 0 2 ++ small_entry 2 2) six_bytes = (refl, refl) in
    let b : Passes (small_entry 0 3 ++ small_entry 3 1) six_bytes = (refl, refl) in
    (border-moved, a, b, border-shows 0 (small_entry 0 2 ++ small_entry 2 2) (small_entry 0 3 ++ small_entry 3 1) border-moved six_bytes six_bytes a b)
