use Rattle.tup_table.proofs.Appends.{closed_store, opened_store}
use Rattle.tup_table.proofs.Stores.{entries_push}
use Rattle.tup_table.proofs.laws.written_is_read.Goals as goal

pub returns-clause-closed : goal.returns-clause-closed
returns-clause-closed c = closed_store

pub returns-clause-opened : goal.returns-clause-opened
returns-clause-opened c = opened_store

pub returns-clause-entries : goal.returns-clause-entries
returns-clause-entries c = entries_push
