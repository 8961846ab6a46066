use Rattle.tup_graph.proofs.Rows.{begin_leaves, finish_leaves, doom_leaves, forget_leaves, flag_leaves}
use Rattle.tup_graph.proofs.laws.transactions_leave.Goals as goal

pub returns-clause-begin : goal.returns-clause-begin
returns-clause-begin c = begin_leaves

pub returns-clause-finish : goal.returns-clause-finish
returns-clause-finish c = finish_leaves

pub returns-clause-doom : goal.returns-clause-doom
returns-clause-doom c = doom_leaves

pub returns-clause-forget : goal.returns-clause-forget
returns-clause-forget c = forget_leaves

pub returns-clause-flag : goal.returns-clause-flag
returns-clause-flag c = flag_leaves
