-- `manifest::current::variant_for` meets its contract. Assumes nothing.
use mathlib.Core.Path.{sym, ◌∙◌}
use borrow.Author.Tests.{le-leb, lt-leb}
use Rattle.manifest.specs.Progress.{variant_for}
use Rattle.manifest.proofs.RecordLaws.{found-some, found-none}
use Rattle.manifest.proofs.current.variant_for.Goals as goal

pub returns-in_default : goal.returns-in_default
unfolding variant_for
returns-in_default c = rw (found-none _ _ (sym c.record_for.ensures.found ∙ c.in_default.is))

pub returns-then-n-gt-MAX_MESSAGE_BYTES : goal.returns-then-n-gt-MAX_MESSAGE_BYTES
unfolding variant_for
returns-then-n-gt-MAX_MESSAGE_BYTES c =
    let found = found-some _ _ _ (sym c.record_for.ensures.found ∙ c.in-Some.is) in
    rw (found.0, lt-leb _ _ c.if-n-gt-MAX_MESSAGE_BYTES.true)

pub variant_at-requires : goal.variant_at-requires
variant_at-requires c =
    let found = found-some _ _ _ (sym c.record_for.ensures.found ∙ c.in-Some.is) in
    rw c.bytes.ensures found.2

pub returns : goal.returns
unfolding variant_for
returns c =
    let found = found-some _ _ _ (sym c.record_for.ensures.found ∙ c.in-Some.is) in
    rw (found.0, le-leb _ _ c.if-n-gt-MAX_MESSAGE_BYTES.false, ← found.1) (c.from.ensures ∙ rw (← c.bytes.ensures) c.variant_at.ensures)
