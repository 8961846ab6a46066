-- What a rule says of paths, and who makes a path. From the manual: a rule's inputs and outputs.
use Rattle.std.specs.Prelude.{ℕ, Bool, ◌||◌, List, Option, position, unwrap_or}
use Rattle.std.specs.List.{list_any}
use Rattle.tup_path.specs.Name.{Names}
use Rattle.tup_path.specs.Order.{same_path}
use Rattle.tup_rule.specs.declared.rule.Rule.{Rule}
use Rattle.tup_rule.specs.declared.rule.RuleName.{RuleName}

-- whether a path is one of these
abbrev pub among : Names → List Names → Bool
among path paths = list_any (same_path path) paths

-- a rule declares its inputs and its order-only inputs
abbrev pub declares : Rule → Names → Bool
declares rule path = among path rule.inputs || among path rule.order

-- a rule writes its outputs
abbrev pub writes : Rule → Names → Bool
writes rule path = among path rule.outputs

-- the place of the rule that makes a path, the first that has it as an output
abbrev pub maker : Names → List Rule → Option ℕ
maker path rules = position (λ rule. writes rule path) rules

-- whether some rule makes a path
abbrev pub is_generated : List Rule → Names → Bool
is_generated rules path = list_any (λ rule. writes rule path) rules

-- what a rule is called by: its folder and its command
abbrev pub name_of : Rule → RuleName
name_of rule = record { dir = rule.dir; text = rule.text }

-- what is printed for a rule: its display text, or its command where there is none
abbrev pub label_of : Rule → List ℕ
label_of rule = unwrap_or rule.display rule.text
