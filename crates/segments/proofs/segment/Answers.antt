-- `segments::segment` meets its contract: the bytes from the offset to the end of the entry, none where the check refuses. Assumes nothing.
use mathlib.Core.Path.{sym, ◌∙◌}
use native.Mathlib.Omega.{arith}
use Rattle.segments.specs.Entries.{segment_of, segment_at}
use Rattle.segments.proofs.EntryLaws.{segment-checked, entry-fits, segment-taken}
use Rattle.segments.proofs.segment.Goals as goal

pub offset_at-begin-requires : goal.offset_at-begin-requires
offset_at-begin-requires c = (segment-checked _ _ _ (sym c.check_entry.ensures ∙ c.in-Ok.is)).there

pub end_at-end-requires : goal.end_at-end-requires
end_at-end-requires c = (segment-checked _ _ _ (sym c.check_entry.ensures ∙ c.in-Ok.is)).there

pub slice_bounds-result-end : goal.slice_bounds-result-end
slice_bounds-result-end c =
    let d = sym c.check_entry.ensures ∙ c.in-Ok.is in
    omega (arith, (entry-fits _ _ _ (segment-checked _ _ _ d).entry).within, c.end_at-end.ensures)

pub returns-in-Ok : goal.returns-in-Ok
returns-in-Ok c = segment-taken _ _ _ _ (sym c.check_entry.ensures ∙ c.in-Ok.is) _ _ c.offset_at-begin.ensures c.end_at-end.ensures

pub returns-in-Err : goal.returns-in-Err
unfolding segment_of segment_at
returns-in-Err c =
    let e = sym c.check_entry.ensures ∙ c.in-Err.is in
    (rw e, rw e)
