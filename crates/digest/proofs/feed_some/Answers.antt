-- `digest::feed_some` meets its contract, whatever the read brought. Assumes nothing.
use Rattle.digest.proofs.ReadLaws.{longer}
use Rattle.digest.proofs.feed_some.Goals as goal

pub returns : goal.returns
returns g c = rw c.after_piece.ensures (longer c.args.h c.read-read.new.buf c.read-read.result c.read-read.ensures.bound)
