use Rattle.tup_table.proofs.Keys.{after_put, after_delete, after_others, commits_ascending}
use Rattle.tup_table.proofs.laws.last_change_stands.Goals as goal

pub returns-clause-put : goal.returns-clause-put
returns-clause-put c = after_put

pub returns-clause-deleted : goal.returns-clause-deleted
returns-clause-deleted c = after_delete

pub returns-clause-others : goal.returns-clause-others
returns-clause-others c = after_others

pub returns-clause-ascending : goal.returns-clause-ascending
returns-clause-ascending c = commits_ascending
