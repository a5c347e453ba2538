-- `segments::update_all` meets its contract: the running hash has taken the first k segments. Assumes nothing.
use mathlib.Core.Path.{◌≡◌}
use Rattle.hasher.proofs.Next.{onward}
use Rattle.segments.proofs.ListLaws.{segments_up_to}
use Rattle.segments.proofs.update_all.Given as goal

abbrev pub invariant-loop-k : goal.invariant-loop-k
invariant-loop-k l = l.g ≡ onward l.initial.g (segments_up_to l.list l.buffer l.k)
