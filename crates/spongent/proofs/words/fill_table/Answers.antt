-- `fill_table` makes the table. `SPREAD` is held to its rule by one test, computed at each entry.
-- Assumes nothing.
use Rattle.standard.specs.Spongent.{nibbles}
use Rattle.spongent.specs.Pairs.{plane_pair}
use Rattle.spongent.specs.Words.{s_box_byte, spread_of}
use Rattle.spongent.proofs.TableLaws.{spread-table}
use borrow.Author.Rules.{rules}
use Rattle.spongent.proofs.words.fill_table.Goals as goal

pub put_copies-requires : goal.put_copies-requires
unfolding s_box_byte spread_of plane_pair
put_copies-requires c = (search rules, spread-table nibbles)
