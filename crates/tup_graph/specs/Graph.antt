-- The graph: what the store keeps of a project between two updates, as a value (own).
use Rattle.std.specs.Prelude.{ℕ, Bool, List, [], length, Option, None, nat_lt, if◌then◌else◌, option_map, unwrap_or, slice_get}
use Rattle.std.specs.FinMap as finite
use Rattle.tup_path.specs.Name.{Names}
use Rattle.tup_stamp.specs.declared.Stamp.{Stamp}
use Rattle.tup_rule.specs.declared.rule.Rule.{Rule}
use Rattle.tup_graph.specs.declared.nodes.Nodes.{Nodes}

-- a graph: files as they were last seen, what the readings of Tupfiles left, rules in their order with their places among
-- those of their folder, good runs by the numbers of their rules, owned paths, folders to be read and rules to be run; the
-- number of a rule is its place in the list
abbrev pub GraphState : Type 0
GraphState = Nodes

-- the graph of a new store
abbrev pub empty_graph : GraphState
empty_graph = record {
  seen = finite.empty;
  readings = finite.empty;
  rules = [];
  places = [];
  runs = finite.empty;
  owned = finite.empty;
  created = finite.empty;
  flags = finite.empty;
}

-- whether a number is that of a rule
abbrev pub is_rule : GraphState → ℕ → Bool
is_rule g number = nat_lt number (length g.rules)

-- whether a rule is to be run
abbrev pub is_flagged : GraphState → ℕ → Bool
is_flagged g number = finite.contains_key g.flags number

-- whether a folder is to be read
abbrev pub is_created : GraphState → Names → Bool
is_created g dir = finite.contains_key g.created dir

-- whether a path is owned: whatever stands there is generated, and no source
abbrev pub is_owned : GraphState → Names → Bool
is_owned g path = finite.contains_key g.owned path

-- the stamp of the source that was last seen at a path
abbrev pub source : GraphState → Names → Option Stamp
source g path = if is_owned g path then None else finite.get g.seen path

-- the outputs of the rule of a number
abbrev pub outputs_of : GraphState → ℕ → List Names
outputs_of g number = unwrap_or (option_map (λ (rule : Rule). rule.outputs) (slice_get g.rules number)) []
