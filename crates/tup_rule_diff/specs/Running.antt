-- What rules keep by the numbers that they had, and who reads what new ones make (own).
use Rattle.std.specs.Prelude.{◌≡◌, ℕ, Bool, true, false, List, [], ◌∷◌, Option, None, Some, Contains, is_none, is_some, option_map, option_to_list, unwrap_or, slice_get, if◌then◌else◌}
use Rattle.std.specs.BTreeSet.{BTreeSet, contains}
use Rattle.std.specs.FinMap as finite
use Rattle.std.specs.List.{list_any}
use Rattle.tup_path.specs.Name.{Names}
use Rattle.tup_path.specs.Order.{by_names}
use Rattle.tup_rule.specs.declared.rule.Rule.{Rule}
use Rattle.tup_record.specs.declared.run.RunRecord.{RunRecord}
use Rattle.tup_graph.specs.Graph.{GraphState, is_flagged}
use Rattle.tup_closure.specs.Readers.{HasAskedOneOf}
use Rattle.tup_scan_diff.specs.Sets.{Has}

-- the record of a rule of this number, by the number that it had
abbrev pub run_at : GraphState → ℕ → Option ℕ → List (ℕ × RunRecord)
run_at g number None = []
run_at g number (Some before) = option_to_list (option_map (λ (run : RunRecord). (number, run)) (finite.get g.runs before))

-- whether a rule that had this number has a record
abbrev pub had_run : GraphState → Option ℕ → Bool
had_run g None = false
had_run g (Some before) = is_some (finite.get g.runs before)

-- whether the rule of a number keeps a record
abbrev pub keeps_run : GraphState → List (Option ℕ) → ℕ → Bool
keeps_run g befores number = had_run g (unwrap_or (slice_get befores number) None)

-- whether a rule that had this number is new, or was flagged
abbrev pub was_flagged : GraphState → Option ℕ → Bool
was_flagged g None = true
was_flagged g (Some before) = is_flagged g before

-- the number of a rule, if it is so
abbrev pub flag_at : GraphState → ℕ → Option ℕ → List ℕ
flag_at g number before = if was_flagged g before then number ∷ [] else []

-- whether the rule of a number is new
abbrev pub is_new_at : List (Option ℕ) → ℕ → Bool
is_new_at befores number = unwrap_or (option_map is_none (slice_get befores number)) false

-- the record of a rule asks an output of the rule at a place, if that is new
abbrev pub ReadsIfNew : GraphState → List (Option ℕ) → ℕ → Rule → ℕ → Type 0
ReadsIfNew led befores at rule number = (is_new_at befores at ≡ true) × HasAskedOneOf led rule.outputs number

-- the record of a rule asks an output of a new rule
abbrev pub ReadsOneNew : GraphState → List (Option ℕ) → ℕ → Type 0
ReadsOneNew led befores number = (at : ℕ) × (rule : Rule) × (slice_get led.rules at ≡ Some rule) × ReadsIfNew led befores at rule number

-- no record asks an output of a new rule
abbrev pub NoneReadsNew : GraphState → List (Option ℕ) → Type 0
NoneReadsNew led befores = (number : ℕ) → ReadsOneNew led befores number → ⊥

-- the rule at a place is new, and has a path as an output
abbrev pub IsNewWith : List (Option ℕ) → ℕ → Rule → Names → Type 0
IsNewWith befores at rule path = (is_new_at befores at ≡ true) × Contains rule.outputs path

-- a set has the outputs of the new rules
abbrev pub HasNewOutputs : List Rule → List (Option ℕ) → BTreeSet Names → Type 0
HasNewOutputs rules befores set = (at : ℕ) (rule : Rule) (path : Names) → slice_get rules at ≡ Some rule → IsNewWith befores at rule path → Has by_names set path

-- whether a record asks a path of a set
abbrev pub asks_in : BTreeSet Names → RunRecord → Bool
asks_in set run = list_any (λ ask. contains by_names set ask.0) run.asks

-- whether the record of a rule does
abbrev pub run_asks_in : BTreeSet Names → ℕ × RunRecord → Bool
run_asks_in set run = asks_in set run.1
