-- A ground may go to another thread where its site may. No proof of that is made by itself, as a ground keeps a snapshot.
use denote.RattleType.{RattleType}
use denote.Param.Send.{IsSend, sendable}
use Rattle.std.proofs.Crossing.{crosses}
use Rattle.tup_stored_graph.proofs.graph.Graph.TheSendSync as graph
use Rattle.tup_rule_outputs.specs.contracts.ground.Ground as Ground

pub ground_send : (S : RattleType) → IsSend S → IsSend (Ground.the_row S)
ground_send S s = search (sendable, crosses, graph.the_send) depth 40
