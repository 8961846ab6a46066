-- What a graph says is to be done: which files are to be removed, and which rules are to be run (own).
use Rattle.std.specs.Prelude.{◌&&◌, ℕ, Bool, List, [], ◌∷◌, filter, map, Some, None, is_some, slice_get}
use Rattle.std.specs.FinMap as finite
use Rattle.std.specs.List.{flat_map}
use Rattle.tup_path.specs.Name.{Names}
use Rattle.tup_rule.specs.Rule.{name_of, label_of}
use Rattle.tup_rule.specs.declared.rule.Rule.{Rule}
use Rattle.tup_graph.specs.Graph.{GraphState}
use Rattle.tup_graph.specs.declared.owned.Owned.{Owned}
use Rattle.tup_stale.specs.Unmade.{lacks_maker}
use Rattle.tup_todo.specs.declared.listing.DueRule.{DueRule}

-- whether an owned path has lost its rule, and a file was seen there
abbrev pub is_vanished : GraphState → Names × Owned → Bool
is_vanished g entry = lacks_maker entry && is_some (finite.get g.seen entry.0)

-- the owned paths that no rule makes any more and at which the graph has seen a file, in their order
abbrev pub vanished : GraphState → List Names
vanished g = map (λ (entry : Names × Owned). entry.0) (filter (is_vanished g) (finite.entries g.owned))

-- a rule as one that is to be run: its name, and what is printed for it
abbrev pub due_of : Rule → DueRule
due_of rule = record { rule = name_of rule; label = label_of rule }

-- the rule with a number, where there is one
abbrev pub due_at : List Rule → ℕ → List DueRule
due_at rules number = elim (slice_get rules number) [ Some rule ↦ due_of rule ∷ [] | None ↦ [] ]

-- the flagged rules, in their order
abbrev pub due_rules : GraphState → List DueRule
due_rules g = flat_map (λ entry. due_at g.rules entry.0) (finite.entries g.flags)
