-- Which rules a change reaches: those that are new, unfinished or whose files changed, and those that read what one of
-- them makes. From Mike Shal, "Build System Rules and Algorithms" (2009): the partial graph above the changed files.
use Rattle.std.specs.Prelude.{◌≡◌, ◌≢◌, ◌⊎◌, ℕ, zero, suc, true, List, Option, None, Some, Contains, if◌then◌else◌, slice_get}
use Rattle.std.specs.FinMap as finite
use Rattle.std.specs.Option.{option_map}
use Rattle.tup_path.specs.Name.{Names}
use Rattle.tup_path.specs.Tree.{Tree}
use Rattle.tup_stamp.specs.declared.Stamp.{Stamp}
use Rattle.tup_stamp.specs.Stamp.{stamp}
use Rattle.tup_rule.specs.Rule.{writes}
use Rattle.tup_rule.specs.declared.rule.Rule.{Rule}
use Rattle.tup_record.specs.declared.run.RunRecord.{RunRecord}
use Rattle.tup_graph.specs.Answers.{Sources}
use Rattle.tup_graph.specs.Graph.{GraphState, is_flagged, is_owned, source}
use Rattle.tup_graph.specs.Kept.{IsRuleAt, Asked}
use Rattle.tup_graph.specs.Turned.{AskedTurned}

-- the stamp of the file at a path, absence counting as a stamp
abbrev pub stamp_in : Tree → Names → Option Stamp
stamp_in tree path = option_map stamp (finite.get tree path)

-- the stamp of the source at each path: of the file there, where the graph doesn't own it
abbrev pub source_in : GraphState → Tree → Sources
source_in g tree path = if is_owned g path then None else stamp_in tree path

-- the graph has the same rule under this number, with this record
pub record HasRecord (g : GraphState) (rule : Rule) (number : ℕ) (run : RunRecord) : Type 0 where
  pub same : IsRuleAt g number rule
  pub run_of : finite.get g.runs number ≡ Some run

-- a file that a record asked, own outputs aside, or wrote has another stamp now
abbrev pub IsChanged : Tree → Rule → RunRecord → Type 0
IsChanged tree rule run =
    ((path : Names) × (given : Option Stamp) × Asked rule run path given × (given ≢ stamp_in tree path))
    ⊎ ((path : Names) × (given : Stamp) × Contains run.writes (path, given) × (Some given ≢ stamp_in tree path))

-- a rule is a root: the graph hasn't the same rule, or has it flagged, without a record, with one that changed, or with one
-- that was told of a folder that came or went
abbrev pub IsReachRoot : GraphState → Tree → Rule → Type 0
IsReachRoot g tree rule =
    ((number : ℕ) → IsRuleAt g number rule → ⊥)
    ⊎ ((number : ℕ) × IsRuleAt g number rule × ((is_flagged g number ≡ true) ⊎ (finite.get g.runs number ≡ None)))
    ⊎ ((number : ℕ) × (run : RunRecord) × HasRecord g rule number run × (IsChanged tree rule run ⊎ AskedTurned (source g) (source_in g tree) rule run))

-- the rule at a place is reached from a root over so many recorded reads
abbrev pub ReachedOver : ℕ → GraphState → Tree → List Rule → ℕ → Type 0
ReachedOver zero g tree rules at = (rule : Rule) × (slice_get rules at ≡ Some rule) × IsReachRoot g tree rule
ReachedOver (suc reads) g tree rules at =
    (rule : Rule) × (before : ℕ) × (maker : Rule) × (number : ℕ) × (run : RunRecord) × (path : Names) × (given : Option Stamp)
    × (slice_get rules at ≡ Some rule) × HasRecord g rule number run × Contains run.asks (path, given)
    × (slice_get rules before ≡ Some maker) × (writes maker path ≡ true) × ReachedOver reads g tree rules before

-- the rules that are reached, as the smallest set with the roots that is closed under recorded reads
abbrev pub IsReached : GraphState → Tree → List Rule → ℕ → Type 0
IsReached g tree rules at = (reads : ℕ) × ReachedOver reads g tree rules at
