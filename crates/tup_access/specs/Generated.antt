-- The set of the files that rules make, as a loop over a command has it at hand.
use Rattle.std.specs.Prelude.{◌≡◌, List}
use Rattle.std.specs.BTreeSet.{BTreeSet, contains}
use Rattle.tup_path.specs.Name.{Names}
use Rattle.tup_path.specs.Order.{by_names}
use Rattle.tup_rule.specs.declared.rule.Rule.{Rule}
use Rattle.tup_rule.specs.Rule.{is_generated}

-- a set that has just the outputs of these rules
pub record IsGenerated (rules : List Rule) (set : BTreeSet Names) : Type 0 where
  pub each : (path : Names) → contains by_names set path ≡ is_generated rules path
