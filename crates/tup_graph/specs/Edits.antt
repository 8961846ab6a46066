-- Edits of a graph: records that are put, and records that go (own).
use Rattle.std.specs.Prelude.{◌≡◌, ◌⊎◌, ℕ, suc, true, List, [], ◌∷◌, fold, length, take}
use Rattle.std.specs.FinMap as finite
use Rattle.tup_rule.specs.declared.rule.Rule.{Rule}
use Rattle.tup_record.specs.declared.record.Record.{Record}
use Rattle.tup_record.specs.declared.record.Record.TheVariants as records
use Rattle.tup_record.specs.Spelling.{Fits, key_of, value_of, IsLong, IsWritable}
use Rattle.tup_table.specs.declared.change.Change.{Change}
use Rattle.tup_table.specs.declared.change.Change.TheVariants as changes
use Rattle.tup_graph.specs.declared.edit.Edit.{Edit}
use Rattle.tup_graph.specs.declared.edit.Edit.TheVariants.{Put, Remove}
use Rattle.tup_graph.specs.Graph.{GraphState}
use Rattle.tup_graph.specs.Opening.{put, fits}

-- a graph with so many of its first rules
abbrev pub with_first : GraphState → ℕ → GraphState
with_first g count = record g { rules = take count g.rules; places = take count g.places }

-- a graph without a record, whichever it has under this key; with a rule go those behind it
abbrev pub without : GraphState → Record → GraphState
without g (records.Seen path stamp) = record g { seen = finite.remove g.seen path }
without g (records.Reading dir reading) = record g { readings = finite.remove g.readings dir }
without g (records.Rule number place rule) = with_first g number
without g (records.Run number run) = record g { runs = finite.remove g.runs number }
without g (records.Owned path maker state) = record g { owned = finite.remove g.owned path }
without g (records.Create dir) = record g { created = finite.remove g.created dir }
without g (records.Modify number) = record g { flags = finite.remove g.flags number }

-- what an edit leaves of a graph
abbrev pub edited : GraphState → Edit → GraphState
edited g (Put r) = put g r
edited g (Remove r) = without g r

-- what edits leave, one after another
abbrev pub edited_by : GraphState → List Edit → GraphState
edited_by g edits = fold edited g edits

-- the change of a table that an edit is
abbrev pub change_of : Edit → Change
change_of (Put r) = changes.Put (key_of r) (value_of r)
change_of (Remove r) = changes.Delete (key_of r)

-- a record of another kind than that of rules, which stand in a row
abbrev pub IsBesideRules : Record → Type 0
IsBesideRules (records.Rule number place rule) = ⊥
IsBesideRules (records.Seen path stamp) = Unit {0}
IsBesideRules (records.Reading dir reading) = Unit {0}
IsBesideRules (records.Run number run) = Unit {0}
IsBesideRules (records.Owned path maker state) = Unit {0}
IsBesideRules (records.Create dir) = Unit {0}
IsBesideRules (records.Modify number) = Unit {0}

-- an edit that a graph takes: what it puts has a spelling and fits, and no rule is touched
abbrev pub IsTaken : GraphState → Edit → Type 0
IsTaken g (Put r) = IsBesideRules r × Fits r × (fits g r ≡ true)
IsTaken g (Remove r) = IsBesideRules r × Fits r

-- the record of an edit has a spelling
abbrev pub HasSpelling : Edit → Type 0
HasSpelling (Put r) = Fits r
HasSpelling (Remove r) = Fits r

-- the record of an edit isn't refused for a length
abbrev pub IsEditWritable : Edit → Type 0
IsEditWritable (Put r) = IsWritable r
IsEditWritable (Remove r) = IsWritable r

-- the record of an edit has a value of 2^32 bytes or more
abbrev pub IsEditLong : Edit → Type 0
IsEditLong (Put r) = IsLong r
IsEditLong (Remove r) = IsLong r

-- a graph of files, readings and rules alone: nothing names a rule
pub record IsBare (g : GraphState) : Type 0 where
  pub runs : g.runs ≡ finite.empty
  pub owned : g.owned ≡ finite.empty
  pub created : g.created ≡ finite.empty
  pub flags : g.flags ≡ finite.empty

-- an edit of a rule that such a graph takes: the last one goes, or one comes that fits behind it
pub record IsRuleTaken (g : GraphState) (edit : Edit) : Type 0 where
  pub number : ℕ
  pub place : ℕ
  pub rule : Rule
  pub bare : IsBare g
  pub spelled : Fits (records.Rule number place rule)
  pub one : ((edit ≡ Remove (records.Rule number place rule)) × (length g.rules ≡ suc number))
      ⊎ ((edit ≡ Put (records.Rule number place rule)) × (fits g (records.Rule number place rule) ≡ true))

-- edits that are taken one after another, each by the graph that those before it leave
abbrev pub AreTakenInTurn : GraphState → List Edit → Type 0
AreTakenInTurn g [] = Unit {0}
AreTakenInTurn g (edit ∷ edits) = (IsTaken g edit ⊎ IsRuleTaken g edit) × AreTakenInTurn (edited g edit) edits
