use Rattle.tup_graph.proofs.Committing.{begin_commits, finish_commits, doom_commits, forget_commits, flag_commits}
use Rattle.tup_graph.proofs.laws.transactions_are_read.Goals as goal

pub returns-clause-begin : goal.returns-clause-begin
returns-clause-begin c = λ entries g origin rule up is named spelled. begin_commits entries g origin up is rule named spelled

pub returns-clause-finish : goal.returns-clause-finish
returns-clause-finish c = λ entries g origin rule run up is named spelled. finish_commits entries g origin up is rule run named spelled

pub returns-clause-doom : goal.returns-clause-doom
returns-clause-doom c = λ entries g origin paths up is spelled. doom_commits entries g origin up is paths spelled

pub returns-clause-forget : goal.returns-clause-forget
returns-clause-forget c = λ entries g origin paths up is spelled. forget_commits entries g origin up is paths spelled

pub returns-clause-flag : goal.returns-clause-flag
returns-clause-flag c = λ entries g origin rules up is named spelled. flag_commits entries g origin up is rules named spelled
