-- Rules to begin with after a scan (own).
use Rattle.std.specs.Prelude.{◌≡◌, ◌≢◌, ◌⊎◌, ℕ, true, false, List, Option, None, Some, Contains}
use Rattle.std.specs.FinMap as finite
use Rattle.tup_path.specs.Name.{Names}
use Rattle.tup_stamp.specs.declared.Stamp.{Stamp}
use Rattle.tup_rule.specs.Rule.{writes}
use Rattle.tup_rule.specs.declared.rule.Rule.{Rule}
use Rattle.tup_record.specs.declared.record.Record.{Record}
use Rattle.tup_record.specs.declared.record.Record.TheVariants as records
use Rattle.tup_graph.specs.Above.{HasAsked}
use Rattle.tup_graph.specs.Graph.{GraphState, is_rule}
use Rattle.tup_graph.specs.Scan.{BeginsAt}
use Rattle.tup_graph.specs.declared.edit.Edit.{Edit}
use Rattle.tup_graph.specs.declared.edit.Edit.TheVariants.{Put, Remove}
use Rattle.tup_readers.specs.Index.{HasWritten}
use Rattle.tup_closure.specs.Grows.{Grows}
use Rattle.tup_scan_diff.specs.Present.{graph_of}
use Rattle.tup_scan_diff.specs.declared.present.Present.{Present}

-- one of some asks, outputs of the rule aside, was told another stamp
abbrev pub AsksOther : GraphState → Rule → List (Names × Option Stamp) → Type 0
AsksOther g rule asks =
    (path : Names) × (given : Option Stamp) × (Contains asks (path, given) × (writes rule path ≡ false)) × (given ≢ finite.get g.seen path)

-- one of some files was written with another stamp
abbrev pub WroteOther : GraphState → List (Names × Stamp) → Type 0
WroteOther g files = (path : Names) × (given : Stamp) × Contains files (path, given) × (Some given ≢ finite.get g.seen path)

-- a rule with which a scan begins: it is flagged, its run is touched, or that was told of a folder that came or went
abbrev pub IsScanRoot : GraphState → GraphState → ℕ → Type 0
IsScanRoot old new number = (is_rule new number ≡ true) × BeginsAt old new number

-- such a rule of what a scan found
abbrev pub IsRootIn : Present → ℕ → Type 0
IsRootIn present = IsScanRoot present.nodes.now (graph_of present)

-- the record of a rule asks a path, or wrote it
abbrev pub IsUserOf : GraphState → Names → ℕ → Type 0
IsUserOf g path number = HasAsked g number path ⊎ HasWritten g number path

-- the record of an edit, and the path of a record of a file that is seen
abbrev pub record_of : Edit → Record
record_of (Put r) = r
record_of (Remove r) = r

-- the path of a record of a file that is seen
abbrev pub file_of : Record → Option Names
file_of (records.Seen path stamp) = Some path
file_of r = None

-- an edit changes the stamp that is seen at a path
abbrev pub SeesOtherwise : Edit → Names → Type 0
SeesOtherwise edit path = file_of (record_of edit) ≡ Some path

-- the record of a rule asks or wrote a path where one of some edits does
abbrev pub UsesOneOf : GraphState → List Edit → ℕ → Type 0
UsesOneOf g edits number = (edit : Edit) × Contains edits edit × (path : Names) × SeesOtherwise edit path × IsUserOf g path number

-- the record of a rule asks one of some paths
abbrev pub AsksOneOf : GraphState → List Names → ℕ → Type 0
AsksOneOf g paths number = (path : Names) × Contains paths path × HasAsked g number path

-- rules with those added, among these that were looked at, with which a scan begins
abbrev pub FindsRoots : Present → (ℕ → Type 0) → List ℕ → List ℕ → Type 0
FindsRoots present Looked old new = Grows (λ number. Looked number × IsRootIn present number) (Contains old) (Contains new)
