use Rattle.std.proofs.Common.{◌≡◌, rules, sym, subst}
use Rattle.tup_graph.specs.Edits.{edited}
use Rattle.tup_graph.specs.Graph.{GraphState}
use Rattle.tup_graph.specs.Prints.{HasPrints}
use Rattle.tup_readers.specs.Suspects.{AreSuspects}
use Rattle.tup_readers.proofs.indexed.take_in.Goals as goal

pub returns-clause-prints : goal.returns-clause-prints
returns-clause-prints c =
    let now : c.edit_all.new.self ≡ edited c.args.nodes.now c.args.edit = search rules in
    subst (λ (g : GraphState). HasPrints g c.edit-2.new.self) (sym now) c.in_ok-edit-2.ensures

pub returns-clause-suspects : goal.returns-clause-suspects
returns-clause-suspects c =
    let now : c.edit_all.new.self ≡ edited c.args.nodes.now c.args.edit = search rules in
    subst (λ (g : GraphState). AreSuspects g.seen g.runs c.edit.new.self) (sym now) c.in_ok-edit.ensures
