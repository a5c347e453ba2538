-- `manifest::records::check` meets its contract: the records passed so far are Done. Assumes nothing.
use mathlib.Core.Path.{◌≡◌}
use Prim.Native.Nat.{ℕ, ◌<◌}
use Rattle.answers.specs.Refusals.{Done}
use Rattle.answers.specs.Checks.{first_refusal}
use Rattle.manifest.specs.Records.{record_checks}
use Rattle.manifest.proofs.records.check.Given as goal

abbrev pub invariant-loop-k : goal.invariant-loop-k
invariant-loop-k l = (j : ℕ) → j < l.k → first_refusal (record_checks l.manifest j) ≡ Done
