use Rattle.std.proofs.Common.{◌≡◌, rules, sym, subst}
use Rattle.std.specs.FinMap as finite
use Rattle.tup_graph.specs.Graph.{GraphState, empty_graph}
use Rattle.tup_graph.specs.Prints.{HasPrints}
use Rattle.tup_readers.specs.Suspects.{AreSuspects}
use Rattle.tup_readers.proofs.Suspecting.{nobody_runs}
use Rattle.tup_readers.proofs.Using.{none_printed}
use Rattle.tup_readers.proofs.indexed.Indexed.edit_all.Goals as goal

pub invariant_of-self : goal.invariant_of-self
invariant_of-self c =
    let none : c.replace-before.new.dest ≡ empty_graph = search rules in (
      subst (λ (g : GraphState). HasPrints g c.take_all_in.new.prints) (sym none) (none_printed c.take_all_in.new.prints),
      subst (λ (g : GraphState). AreSuspects g.seen g.runs c.take_all_in.new.suspects) (sym none) (nobody_runs finite.empty c.take_all_in.new.suspects.numbers),
    )
