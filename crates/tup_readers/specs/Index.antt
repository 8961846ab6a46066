-- Who asked what, by the records of a graph (own).
use Rattle.std.specs.Prelude.{◌≡◌, ◌⊎◌, ℕ, Some, Contains, slice_get}
use Rattle.std.specs.FinMap as finite
use Rattle.tup_path.specs.Name.{Names}
use Rattle.tup_stamp.specs.declared.Stamp.{Stamp}
use Rattle.tup_rule.specs.declared.question.Noted.{Noted}
use Rattle.tup_rule.specs.declared.question.Question.{Question}
use Rattle.tup_rule.specs.declared.question.Reading.{Reading}
use Rattle.tup_graph.specs.Lists.{IsNamedBy}
use Rattle.tup_rule.specs.declared.rule.Rule.{Rule}
use Rattle.tup_record.specs.declared.run.RunRecord.{RunRecord}
use Rattle.tup_graph.specs.Above.{HasAsked}
use Rattle.tup_graph.specs.Graph.{GraphState}

-- the reading of a folder asked a question
abbrev pub HasQuestioned : GraphState → Names → Question → Type 0
HasQuestioned g dir question = (reading : Reading) × (told : Noted) × (finite.get g.readings dir ≡ Some reading) × Contains reading.asked (question, told)

-- the record of a rule wrote a path
abbrev pub HasWritten : GraphState → ℕ → Names → Type 0
HasWritten g number path = (run : RunRecord) × (given : Stamp) × (finite.get g.runs number ≡ Some run) × Contains run.writes (path, given)

-- a rule declares a path, or makes it
abbrev pub HasNamed : GraphState → ℕ → Names → Type 0
HasNamed g number path = (rule : Rule) × (slice_get g.rules number ≡ Some rule) × IsNamedBy rule path

-- the record of a rule asks a path, or wrote it
abbrev pub IsUserIn : GraphState → Names → ℕ → Type 0
IsUserIn g path number = HasAsked g number path ⊎ HasWritten g number path
