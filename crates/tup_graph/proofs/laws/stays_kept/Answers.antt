use Rattle.tup_graph.proofs.Keeping.{begin_keeps, doom_keeps, forget_keeps}
use Rattle.tup_graph.proofs.Finishing.{finish_keeps}
use Rattle.tup_graph.proofs.Flagging.{flag_keeps}
use Rattle.tup_graph.proofs.laws.stays_kept.Goals as goal

pub returns-clause-begin : goal.returns-clause-begin
returns-clause-begin c = begin_keeps

pub returns-clause-finish : goal.returns-clause-finish
returns-clause-finish c = λ next language known g number rule run kept ends. finish_keeps next language known g kept number rule run ends

pub returns-clause-doom : goal.returns-clause-doom
returns-clause-doom c = doom_keeps

pub returns-clause-forget : goal.returns-clause-forget
returns-clause-forget c = λ next language known g paths kept unmade unread. forget_keeps next language known g paths kept unmade unread

pub returns-clause-flag : goal.returns-clause-flag
returns-clause-flag c = λ next language known g rules kept closed. flag_keeps next language known g rules kept closed
