-- What a graph keeps, as the core of an update has it (own).
use Rattle.std.specs.FinMap as finite
use Rattle.std.specs.Option.{option_map}
use Rattle.tup_graph.specs.Graph.{GraphState, is_flagged}
use Rattle.tup_graph.specs.declared.owned.Owned.{Owned}
use Rattle.tup_core.specs.Kept.{Kept, Owner}

-- who makes a path, and what is known of its file
abbrev pub owner_of : Owned → Owner
owner_of owned = record { maker = owned.maker; state = owned.state }

-- the rules, their records and flags, the stamps that were seen and the owned paths of a graph
abbrev pub kept_of : GraphState → Kept
kept_of g = record {
  seen = λ path. finite.get g.seen path;
  rules = g.rules;
  record_of = λ number. finite.get g.runs number;
  flagged = λ number. is_flagged g number;
  owner = λ path. option_map owner_of (finite.get g.owned path);
}
