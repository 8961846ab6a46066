-- Rules that use a path, and rules whose records do (own).
use Rattle.std.specs.Prelude.{◌||◌, ℕ, Bool, false, List, Option, None, Some, slice_get}
use Rattle.std.specs.FinMap as finite
use Rattle.std.specs.List.{list_any}
use Rattle.tup_path.specs.Name.{Names}
use Rattle.tup_path.specs.Order.{same_path}
use Rattle.tup_rule.specs.Rule.{declares, writes}
use Rattle.tup_rule.specs.declared.rule.Rule.{Rule}
use Rattle.tup_record.specs.declared.run.RunRecord.{RunRecord}
use Rattle.tup_graph.specs.Above.{HasAsked}
use Rattle.tup_graph.specs.Graph.{GraphState}
use Rattle.tup_readers.specs.Index.{HasNamed, HasWritten}
use Rattle.tup_readers.specs.declared.users.Way.{Way}
use Rattle.tup_readers.specs.declared.users.Way.TheVariants as ways

-- a rule uses a path in a way
abbrev pub IsUserBy : Way → GraphState → Names → ℕ → Type 0
IsUserBy ways.Asks g path number = HasAsked g number path
IsUserBy ways.Writes g path number = HasWritten g number path
IsUserBy ways.Names g path number = HasNamed g number path

-- whether a path is among those that a record tells of
abbrev pub tells : {T : Type 0} → Names → List (Names × T) → Bool
tells {T} path list = list_any (λ (told : Names × T). same_path path told.0) list

-- whether there is a record, which asks a path
abbrev pub asks_it : Names → Option RunRecord → Bool
asks_it path (Some run) = tells path run.asks
asks_it path None = false

-- whether there is a record, which wrote a path
abbrev pub wrote_it : Names → Option RunRecord → Bool
wrote_it path (Some run) = tells path run.writes
wrote_it path None = false

-- whether there is a rule, which declares a path or makes it
abbrev pub names_it : Names → Option Rule → Bool
names_it path (Some rule) = declares rule path || writes rule path
names_it path None = false

-- whether a rule uses a path in a way
abbrev pub is_user : Way → GraphState → Names → ℕ → Bool
is_user ways.Asks g path number = asks_it path (finite.get g.runs number)
is_user ways.Writes g path number = wrote_it path (finite.get g.runs number)
is_user ways.Names g path number = names_it path (slice_get g.rules number)
