-- The outputs of a rule in a map, each with the content that was written to it last.
use Rattle.std.specs.Prelude.{◌≡◌, ℕ, true, is_some, unwrap_or, List, Option, None, Some, Ok}
use Rattle.std.specs.Borrow.{Bor}
use Rattle.std.specs.Option.{option_map, option_copied}
use Rattle.std.specs.BTreeMap.{BTreeMap, get}
use Rattle.tup_path.specs.Name.{Names, Content}
use Rattle.tup_path.specs.Order.{by_names}
use Rattle.tup_path.specs.Resolve.{resolve}
use Rattle.tup_rule.specs.declared.rule.Rule.{Rule}
use Rattle.tup_rule.specs.Rule.{writes}
use Rattle.tup_access.specs.Judge.{names_output, foreign_write, last_written}

-- such a map
abbrev pub LastWrites : Type 0
LastWrites = BTreeMap Names (Option (Bor Content))

-- the content that the map has for a path, if any
abbrev pub content_in : LastWrites → Names → Option Content
content_in last path = unwrap_or (option_map option_copied (get by_names last path)) None

-- a map that has just the outputs of a rule
pub record HasOutputs (rule : Rule) (last : LastWrites) : Type 0 where
  pub each : (path : Names) → is_some (get by_names last path) ≡ writes rule path

-- with what these writes leave of each
pub record HasLast (rule : Rule) (written : List (List ℕ × Content)) (last : LastWrites) : Type 0 where
  pub outputs : HasOutputs rule last
  pub contents : (path : Names) → writes rule path ≡ true → content_in last path ≡ last_written rule path written

-- and each of the writes names an output
pub record AreAllOwn (rule : Rule) (written : List (List ℕ × Content)) (last : LastWrites) : Type 0 where
  pub own : foreign_write rule written ≡ None
  pub has : HasLast rule written last

-- a text names this output of a rule
pub record IsOutputOf (rule : Rule) (text : List ℕ) (path : Names) : Type 0 where
  pub named : resolve rule.dir text ≡ Ok path
  pub own : names_output rule text ≡ true

-- an output with its last content
pub record IsFileOf (last : LastWrites) (output : Names) (file : Names × Content) : Type 0 where
  pub name : file.0 ≡ output
  pub content : content_in last output ≡ Some file.1
