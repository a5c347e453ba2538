-- `segments::message_length` meets its contract: the sum is that of the header and the first k lengths. Assumes nothing.
use mathlib.Core.List.{sum}
use mathlib.Core.Path.{◌≡◌, ap, ◌∙◌}
use Prim.Native.Nat.{◌+◌}
use native.Mathlib.Omega.{arith}
use lib.ListN.{length}
use Rattle.segments.specs.Entries.{count, header_of}
use Rattle.segments.specs.Cuts.{total_up_to, total_of}
use Rattle.segments.proofs.ListLaws.{header-length, total-next}
use Rattle.segments.proofs.EntryLaws.{list-short}
use Rattle.segments.proofs.message_length.Goals as goal

pub loop-k-init : goal.loop-k-init
unfolding sum
loop-k-init c = (omega (arith, header-length c.args.list.now), omega (arith, list-short _ c.requires))

pub overflow_add-sum-in-loop-k : goal.overflow_add-sum-in-loop-k
overflow_add-sum-in-loop-k c = omega (arith, list-short _ c.requires)

pub loop-k-preserved : goal.loop-k-preserved
loop-k-preserved c = (omega (arith, total-next c.args.list.now c.loop-k.k), omega arith)

pub returns : goal.returns
unfolding total_of
returns c =
    let list = c.args.list.now in
    let e : c.loop-k.k ≡ count list = omega arith in
    c.loop-k.invariant.0 ∙ ap (λ i. length (header_of list) + total_up_to list i) e
