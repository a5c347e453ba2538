-- `digest::feed_all` ends, and no earlier than there is no more to read. Assumes nothing.
use Rattle.digest.proofs.ReadLaws.{left_of}
use Rattle.digest.proofs.feed_all.Given as goal

abbrev pub decreases-loop-fed : goal.decreases-loop-fed
decreases-loop-fed g l = left_of l.fed
