-- What taking note of a scan does to the graph (own): files are seen as they stand now, and what that touches is flagged.
use Rattle.std.specs.Prelude.{◌≡◌, ◌≢◌, ◌⊎◌, ◌↔◌, ℕ, true, List, Option, None, Some, Contains, option_to_list}
use Rattle.std.specs.FinMap as finite
use Rattle.tup_path.specs.Name.{Names, Content}
use Rattle.tup_stamp.specs.declared.Stamp.{Stamp}
use Rattle.tup_rule.specs.declared.question.Noted.{Noted}
use Rattle.tup_rule.specs.declared.question.Question.{Question}
use Rattle.tup_rule.specs.declared.question.Reading.{Reading}
use Rattle.tup_rule.specs.declared.rule.Rule.{Rule}
use Rattle.tup_record.specs.declared.run.RunRecord.{RunRecord}
use Rattle.tup_graph.specs.Above.{IsAbove}
use Rattle.tup_graph.specs.Answers.{tupfile, IsSource, IsAnswer}
use Rattle.tup_graph.specs.Graph.{GraphState, is_flagged, is_created, source}
use Rattle.tup_graph.specs.Kept.{IsRuleAt, Asked}
use Rattle.tup_graph.specs.Turned.{IsTurnedRun}

-- a path that the run of a rule asked, own outputs aside, or wrote has another stamp
abbrev pub IsTouched : GraphState → ℕ → Type 0
IsTouched g number =
    (rule : Rule) × (run : RunRecord) × IsRuleAt g number rule × (finite.get g.runs number ≡ Some run)
    × (((path : Names) × (given : Option Stamp) × Asked rule run path given × (given ≢ finite.get g.seen path))
    ⊎ ((path : Names) × (given : Stamp) × Contains run.writes (path, given) × (Some given ≢ finite.get g.seen path)))

-- a folder that is to be read again: it has a Tupfile and no reading, or a reading and no Tupfile, or was told what isn't
-- so any more; what tup.config sets is read in the one that was scanned
abbrev pub IsStale : GraphState → Option Content → Names → Type 0
IsStale g config dir =
    (IsSource (source g) (tupfile dir) × (finite.get g.readings dir ≡ None))
    ⊎ ((reading : Reading) × (finite.get g.readings dir ≡ Some reading)
    × ((IsSource (source g) (tupfile dir) → ⊥)
    ⊎ ((question : Question) × (told : Noted) × Contains reading.asked (question, told) × (IsAnswer (option_to_list config) (source g) g.readings dir question told → ⊥))))

-- a rule with which a scan begins: it was flagged, its run is touched, or that was told of a folder that came or went
abbrev pub BeginsAt : GraphState → GraphState → ℕ → Type 0
BeginsAt old new root = (is_flagged old root ≡ true) ⊎ IsTouched new root ⊎ IsTurnedRun old new root

-- the graph after a scan that found these files, and this in tup.config
pub record IsScanned (old : GraphState) (files : List (Names × Stamp)) (config : Option Content) (new : GraphState) : Type 0 where
  pub seen : new.seen ≡ finite.from_entries files
  pub readings : new.readings ≡ old.readings
  pub rules : new.rules ≡ old.rules
  pub places : new.places ≡ old.places
  pub runs : new.runs ≡ old.runs
  pub owned : new.owned ≡ old.owned
  pub created : (dir : Names) → (is_created new dir ≡ true) ↔ ((is_created old dir ≡ true) ⊎ IsStale new config dir)
  pub flags : (number : ℕ) → (is_flagged new number ≡ true) ↔ IsAbove new (BeginsAt old new) number
