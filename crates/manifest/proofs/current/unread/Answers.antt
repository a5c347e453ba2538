-- `manifest::current::unread` meets its contract: a refused start yields the running hash of no variant. Assumes
-- nothing.
use mathlib.Core.Path.{refl}
use Rattle.hasher.proofs.Calls.{start-unknown}
use Rattle.manifest.proofs.current.unread.Goals as goal

pub returns : goal.returns
returns c = rw (c.start.ensures, start-unknown 0 refl)
