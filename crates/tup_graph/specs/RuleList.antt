-- The rules of a graph as its code keeps them (own).
use Rattle.std.specs.Prelude.{List, Option, unwrap_or}
use Rattle.tup_rule.specs.declared.rule.Rule.{Rule}

-- a list of rules: the one that may be shared, if there is one, or else the own one
abbrev pub rules_in : Option (List Rule) → List Rule → List Rule
rules_in shared own = unwrap_or shared own
