use Rattle.std.proofs.Common.{refl}
use Rattle.std.proofs.lemmas.Result.{on_ok_weaker}
use Rattle.tup_graph.specs.declared.prints.Prints.{Prints}
use Rattle.tup_graph.proofs.Printed.{other_printed, rule_printed, run_printed}
use Rattle.tup_graph.proofs.prints.Prints.take_in.Goals as goal

pub returns-in_ok-next_number-in-Rule : goal.returns-in_ok-next_number-in-Rule
returns-in_ok-next_number-in-Rule c =
    let next : Prints = record { named = c.add_rule.new.self; recorded = c.args.self.now.recorded } in
    rw c.in-Rule.is
    (on_ok_weaker c.add_rule.result
    (λ adds. rule_printed c.args.nodes.now c.args.self.now next c.requires c.in-Rule.place c.in_ok-next_number-in-Rule.field-0 c.in-Rule.rule c.in-Rule.number c.in_ok-next_number-in-Rule.ensures adds refl)
    c.add_rule.ensures)

pub returns-in-Run : goal.returns-in-Run
returns-in-Run c =
    let next : Prints = record { named = c.args.self.now.named; recorded = c.add_run.new.self } in
    rw c.in-Run.is (on_ok_weaker c.add_run.result (λ adds. run_printed c.args.nodes.now c.args.self.now next c.requires c.in-Run.number c.in-Run.run' adds refl) c.add_run.ensures)

pub returns-in_default : goal.returns-in_default
returns-in_default c = other_printed c.args.nodes.now c.args.self.now c.args.found.now c.in_default.not-Rule c.in_default.not-Run c.requires
