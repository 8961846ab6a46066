use Rattle.std.proofs.lemmas.Result.{on_ok_weaker}
use Rattle.tup_graph.proofs.Printed.{held_printed}
use Rattle.tup_graph.proofs.nodes.Nodes.hold_printed.Goals as goal

pub returns-clause-prints : goal.returns-clause-prints
returns-clause-prints c =
    on_ok_weaker c.hold.result
    (λ held. held_printed c.args.self.now c.hold.new.self c.args.found c.args.late.now c.hold.new.late c.take_in.new.self held c.in_ok-take_in.ensures) c.hold.ensures.ok
