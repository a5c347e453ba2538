-- `manifest::current::header_byte` meets its contract. Assumes nothing.
use mathlib.Core.Path.{◌≡◌}
use mathlib.Core.Bool.{true, false}
use Prim.Native.Nat.{◌+◌}
use native.Mathlib.Omega.{arith}
use lib.Dec.{ltb}
use borrow.Author.Tests.{lt-ltb, le-ltb}
use Rattle.manifest.specs.Progress.{header_byte}
use Rattle.manifest.proofs.current.header_byte.Goals as goal

pub returns-then-from-lt-HEADER_BYTES : goal.returns-then-from-lt-HEADER_BYTES
unfolding header_byte
returns-then-from-lt-HEADER_BYTES c =
    let more : ltb (c.args.c.got + 1) 6 ≡ true = lt-ltb _ 6 (omega arith) in
    rw (c.from.ensures, more)

pub returns : goal.returns
unfolding header_byte
returns c =
    let last : ltb (c.args.c.got + 1) 6 ≡ false = le-ltb _ 6 (omega arith) in
    rw (last, ← c.from.ensures) c.open_table.ensures
