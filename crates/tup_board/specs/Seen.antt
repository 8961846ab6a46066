-- What the graph of a board has seen (own).
use Rattle.std.specs.Prelude.{◌≡◌, Option}
use Rattle.std.specs.FinMap as finite
use Rattle.tup_path.specs.Name.{Names}
use Rattle.tup_graph.specs.Graph.{GraphState}
use Rattle.tup_rule_outputs.specs.Lost.{HasNodes, Lost}
use Rattle.tup_schedule.specs.Course.{CourseState, now}

-- a graph has seen the core's files, with the stamps that they have there, as long as it has its nodes
pub record HasFiles (lost : Option Lost) (g : GraphState) (course : CourseState) : Type 0 where
  pub stamps : HasNodes lost → (path : Names) → finite.get g.seen path ≡ (now course).files path
