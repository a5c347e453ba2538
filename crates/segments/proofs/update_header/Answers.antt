-- `segments::update_header` meets its contract: the number of entries, then the list. Assumes nothing.
use mathlib.Core.Path.{ap, ◌∙◌}
use native.Mathlib.Omega.{arith}
use Rattle.octets.specs.Numbers.{in_bytes}
use Rattle.hasher.proofs.Owned.{owned}
use Rattle.segments.proofs.EntryLaws.{list-short}
use Rattle.segments.proofs.DigestLaws.{header-taken}
use Rattle.segments.proofs.update_header.Goals as goal

pub overflow_cast-count : goal.overflow_cast-count
overflow_cast-count c = omega (arith, list-short _ c.requires.list_value)

pub returns : goal.returns
returns c = header-taken c.args.h (owned _ _ c.well_formed.0).sized c.requires.fact c.args.list.now c.requires.h_value _ _ _ (c.u16_bytes-front.ensures ∙ ap (in_bytes 2) c.count.ensures) c.update-counted.ensures c.update-listed.ensures
