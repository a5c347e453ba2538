-- `manifest::current::is_complete` meets its contract. Assumes nothing.
use borrow.Author.Tests.{le-leb, lt-leb}
use Rattle.manifest.specs.Progress.{is_complete}
use Rattle.manifest.proofs.current.is_complete.Goals as goal

pub returns-then-from-ge-HEADER_BYTES : goal.returns-then-from-ge-HEADER_BYTES
unfolding is_complete
returns-then-from-ge-HEADER_BYTES c = rw (← c.from.ensures, le-leb 6 _ c.if-from-ge-HEADER_BYTES.true)

pub returns-else-from-ge-HEADER_BYTES : goal.returns-else-from-ge-HEADER_BYTES
unfolding is_complete
returns-else-from-ge-HEADER_BYTES c = rw (← c.from.ensures, lt-leb 6 _ c.if-from-ge-HEADER_BYTES.false)
