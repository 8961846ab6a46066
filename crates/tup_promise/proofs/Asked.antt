-- The rules that the sources of a world ask for are one list.
use Rattle.std.proofs.Common.{◌≡◌, List, Ok, subst}
use Rattle.tup_site.specs.World.{World}
use Rattle.tup_rule.specs.declared.rule.Rule.{Rule}
use Rattle.tup_project.specs.Project.{ComeTo}
use Rattle.tup_project.proofs.Alike.{projects_alike}
use Rattle.tup_graph.specs.Graph.{GraphState}
use Rattle.tup_ledger.specs.Sources.{sources_of}
use Rattle.tup_law_site.proofs.Stores.{one_in_bytes}
use Rattle.tup_promise.specs.Kept.{AsksFor}

pub one_asked : (w : World) (rules others : List Rule) → AsksFor w rules → AsksFor w others → rules ≡ others
one_asked w rules others (g, mine, come) (h, theirs, came) =
    projects_alike (sources_of g w.tree) (Ok rules) (Ok others) come (subst (λ (k : GraphState). ComeTo (sources_of k w.tree) (Ok others)) (one_in_bytes w.store h g theirs mine) came)
