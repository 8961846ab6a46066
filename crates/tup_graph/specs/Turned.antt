-- Folders that come and go (own): where a path becomes a folder of sources, or ceases to be one, a run that was told that no
-- file stands there is due. Folders of outputs alone don't count: a run that was begun and killed may make or lose one.
use Rattle.std.specs.Prelude.{◌≡◌, ◌⊎◌, ℕ, Option, None, Some}
use Rattle.std.specs.FinMap as finite
use Rattle.tup_path.specs.Name.{Names}
use Rattle.tup_rule.specs.declared.rule.Rule.{Rule}
use Rattle.tup_record.specs.declared.run.RunRecord.{RunRecord}
use Rattle.tup_graph.specs.Answers.{Sources, HasSourceBelow}
use Rattle.tup_graph.specs.Graph.{GraphState, source}
use Rattle.tup_graph.specs.Kept.{IsRuleAt, Asked}

-- a path becomes a folder of sources, or ceases to be one
abbrev pub IsTurned : Sources → Sources → Names → Type 0
IsTurned old new path =
    (HasSourceBelow new path × (HasSourceBelow old path → ⊥)) ⊎ (HasSourceBelow old path × (HasSourceBelow new path → ⊥))

-- the run of a rule was told that no file stands at such a path, own outputs aside
abbrev pub AskedTurned : Sources → Sources → Rule → RunRecord → Type 0
AskedTurned old new rule run = (path : Names) × Asked rule run path None × IsTurned old new path

-- the rule of a number has such a run, where a graph comes from another one
abbrev pub IsTurnedRun : GraphState → GraphState → ℕ → Type 0
IsTurnedRun old new number =
    (rule : Rule) × (run : RunRecord) × IsRuleAt new number rule × (finite.get new.runs number ≡ Some run)
    × AskedTurned (source old) (source new) rule run
