-- `chain::outcome::Row::with_table` meets its contract: what `fill` leaves is the table. Assumes nothing.
use Rattle.chain.proofs.outcome.Row.with_table.Goals as goal

pub with-requires-clause-table_of : goal.with-requires-clause-table_of
with-requires-clause-table_of g c = c.requires.fills _ _ c.fill.ensures
