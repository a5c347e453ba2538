-- `manifest::current::advance` meets its contract: a byte of the header, or bytes of the contents at once. Assumes
-- nothing.
use mathlib.Core.Path.{sym, ◌∙◌}
use native.Mathlib.Omega.{arith}
use Rattle.manifest.proofs.StrideLaws.{advance-header, advance-bytes}
use Rattle.manifest.proofs.current.advance.Goals as goal

pub returns-then-from-lt-HEADER_BYTES : goal.returns-then-from-lt-HEADER_BYTES
returns-then-from-lt-HEADER_BYTES c = c.header_byte.ensures ∙ sym (advance-header c.args.manifest.now c.args.c c.args.part.now c.requires (omega arith))

pub returns : goal.returns
returns c = rw (c.saturating_sub.ensures, c.with_bytes.ensures)
    (sym (advance-bytes c.args.manifest.now c.args.part.now c.args.c (omega arith)))
