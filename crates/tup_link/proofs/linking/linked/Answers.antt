use Rattle.tup_link.proofs.Together.{tells_behind}
use Rattle.tup_link.proofs.linking.linked.Goals as goal

pub returns-clause-fault : goal.returns-clause-fault
returns-clause-fault c = tells_behind c.grouped.result _ _ c.in_ok-few_commands.ensures c.grouped.ensures.fault
