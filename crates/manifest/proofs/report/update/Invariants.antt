-- `manifest::report::update` meets its contract: what is left of the piece leads from here to the same report. Assumes
-- nothing.
use mathlib.Core.Path.{◌≡◌}
use mathlib.Core.List.{foldl}
use lib.ListN.{length}
use Rattle.manifest.specs.Progress.{byte_taken}
use Rattle.manifest.proofs.report.update.Given as goal

abbrev pub invariant-loop-ordered : goal.invariant-loop-ordered
invariant-loop-ordered l = foldl (byte_taken l.manifest) l.initial.latest l.piece ≡ foldl (byte_taken l.manifest) l.latest l.rest

abbrev pub decreases-loop-ordered : goal.decreases-loop-ordered
decreases-loop-ordered l = length l.rest
