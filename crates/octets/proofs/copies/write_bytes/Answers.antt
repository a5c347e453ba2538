-- `octets::copies::write_bytes` meets its contract: the part from a place on is replaced. Assumes nothing.
use mathlib.Core.Path.{◌≡◌}
use mathlib.Core.List.{append_assoc}
use Prim.Native.Nat.{◌+◌, ◌-◌}
use native.Mathlib.Omega.{arith}
use lib.ListN.{length}
use lib.Seq.{drop-drop}
use Rattle.octets.specs.Slices.{written_at}
use Rattle.octets.proofs.copies.write_bytes.Goals as goal

pub returns-clause-out_after : goal.returns-clause-out_after
unfolding written_at
returns-clause-out_after c =
    let a = c.args in
    let n : a.at + length a.bytes.now - a.at ≡ length a.bytes.now = omega arith in
    rw (c.copy_from_slice.ensures.after, n, drop-drop, append_assoc)
