-- The graph that the entries of a table stand for: one record after another, in the byte order of keys (own).
use Rattle.std.specs.Prelude.{◌≡◌, ◌==◌, ℕ, ◌-◌, Bool, true, ◌&&◌, List, [], ◌∷◌, ◌++◌, length, Option, None, Some, slice_get}
use Rattle.std.specs.Ordering.{nat_cmp, is_lt, ordering_then}
use Rattle.std.specs.FinMap as finite
use Rattle.tup_path.specs.Order.{by_names}
use Rattle.tup_rule.specs.declared.rule.Rule.{Rule}
use Rattle.tup_field.specs.declared.fault.RecordFault.{RecordFault}
use Rattle.tup_field.specs.declared.fault.RecordFault.TheVariants.{Short, BadKind, BadField, Trailing, Memory}
use Rattle.tup_record.specs.declared.record.Record.{Record}
use Rattle.tup_record.specs.declared.record.Record.TheVariants as records
use Rattle.tup_record.specs.Spelling.{IsSpelled}
use Rattle.tup_table.specs.declared.entry.Entry.{Entry}
use Rattle.tup_table.specs.Entries.{Standing}
use Rattle.tup_graph.specs.declared.fault.GraphFault.{GraphFault}
use Rattle.tup_graph.specs.declared.fault.GraphFault.TheVariants.{BadStore, Memory as NoMemory}
use Rattle.tup_graph.specs.Graph.{GraphState, empty_graph, is_rule}

-- the last of a list
abbrev pub last_of : {A : Type 0} → List A → Option A
last_of items = slice_get items (length items - 1)

-- whether a rule with this place comes behind the last one: its folder comes later, or it is the same and the place does
abbrev pub comes_behind : Option Rule → Option ℕ → Rule → ℕ → Bool
comes_behind (Some last) (Some before) rule place = is_lt (ordering_then (by_names last.dir rule.dir) (nat_cmp before place))
comes_behind (Some last) None rule place = true
comes_behind None before rule place = true

-- whether a record fits behind those that made this graph: rules come in the order of their numbers, which are counted
-- from 0, and of their folders and places; what names a number names that of a rule
abbrev pub fits : GraphState → Record → Bool
fits g (records.Rule number place rule) = number == length g.rules && comes_behind (last_of g.rules) (last_of g.places) rule place
fits g (records.Run number run) = is_rule g number
fits g (records.Owned path (Some number) state) = is_rule g number
fits g (records.Owned path None state) = true
fits g (records.Modify number) = is_rule g number
fits g (records.Seen path stamp) = true
fits g (records.Reading dir reading) = true
fits g (records.Create dir) = true

-- a graph with one more record, which takes the place of the one that says the same of the same thing
abbrev pub put : GraphState → Record → GraphState
put g (records.Seen path stamp) = record g { seen = finite.insert g.seen path stamp }
put g (records.Reading dir reading) = record g { readings = finite.insert g.readings dir reading }
put g (records.Rule number place rule) = record g { rules = g.rules ++ rule ∷ []; places = g.places ++ place ∷ [] }
put g (records.Run number run) = record g { runs = finite.insert g.runs number run }
put g (records.Owned path maker state) = record g { owned = finite.insert g.owned path (record { maker = maker; state = state }) }
put g (records.Create dir) = record g { created = finite.insert g.created dir tt }
put g (records.Modify number) = record g { flags = finite.insert g.flags number tt }

-- an entry spells this record, which fits
abbrev pub Takes : GraphState → List ℕ × Entry → Record → Type 0
Takes g entry r = IsSpelled entry.0 entry.1.value r × (fits g r ≡ true)

-- entries, one after another, lead from a graph to another
abbrev pub Leads : GraphState → Standing → GraphState → Type 0
Leads g [] end = end ≡ g
Leads g (entry ∷ entries) end = (r : Record) × Takes g entry r × Leads (put g r) entries end

-- the graph that entries stand for
abbrev pub IsGraphOf : Standing → GraphState → Type 0
IsGraphOf entries g = Leads empty_graph entries g

-- the entries stand for no graph: the first that doesn't spell a record that fits has this origin
pub record IsBroken (entries : Standing) (offset : ℕ) : Type 0 where
  pub front : Standing
  pub entry : List ℕ × Entry
  pub rest : Standing
  pub graph : GraphState
  pub whole : entries ≡ front ++ entry ∷ rest
  pub before : IsGraphOf front graph
  pub refused : (r : Record) → Takes graph entry r → ⊥
  pub origin : offset ≡ entry.1.origin

-- why an entry that doesn't read as a record isn't taken: there was no memory, or the store is damaged there
abbrev pub refusal : RecordFault → ℕ → GraphFault
refusal Memory offset = NoMemory
refusal Short offset = BadStore offset
refusal BadKind offset = BadStore offset
refusal BadField offset = BadStore offset
refusal Trailing offset = BadStore offset
