-- For the code: that reading ends.
-- Assumes nothing.
use Rattle.std.specs.Prelude.{Bool, true, false, ◌≤◌, ◌<◌}
use Rattle.answers.specs.Outputs.{max_bits}
use Rattle.hasher.specs.declared.Hasher.{Hasher}
use Rattle.hasher.specs.declared.Advanced.{Advanced}
use Rattle.reads.specs.declared.Fed.{Fed}
use Rattle.reads.specs.declared.Fed.TheVariants.{More, Ended, Failed}

-- a further read follows
abbrev pub has_more : Fed Advanced → Bool
has_more (More answer) = true
has_more (Ended answer) = false
has_more Failed = false

-- a read that is followed by a further one made the message longer, and not past the limit
abbrev pub Longer : Hasher → Fed Advanced → Type 0
Longer h (More next) = (h.total < next.hasher.total) × (next.hasher.total ≤ max_bits)
Longer h (Ended next) = Unit {0}
Longer h Failed = Unit {0}
