-- `segments::check_all` meets its contract: the entries passed so far are Done. Assumes nothing.
use mathlib.Core.Path.{◌≡◌}
use Prim.Native.Nat.{ℕ, ◌<◌}
use lib.ListN.{length}
use Rattle.answers.specs.Refusals.{Done}
use Rattle.answers.specs.Checks.{first_refusal}
use Rattle.segments.specs.Entries.{entry_checks}
use Rattle.segments.proofs.check_all.Given as goal

abbrev pub invariant-loop-k : goal.invariant-loop-k
invariant-loop-k l = (j : ℕ) → j < l.k → first_refusal (entry_checks l.list (length l.buffer) j) ≡ Done
