-- Sets that have just the paths, or the commands, of a list (own).
use Rattle.std.specs.Prelude.{◌≡◌, ℕ, List}
use Rattle.std.specs.BTreeSet.{BTreeSet, contains}
use Rattle.std.specs.List.{list_any}
use Rattle.std.specs.Ordering.{ordering_then}
use Rattle.std.specs.declared.cmp.Ordering.{Ordering}
use Rattle.tup_path.specs.Name.{Names}
use Rattle.tup_path.specs.Order.{by_names, by_bytes}
use Rattle.tup_rule.specs.declared.rule.Rule.{Rule}
use Rattle.tup_rule.specs.Rule.{among}
use Rattle.tup_link.specs.Faults.{same_command}

-- a set that has the paths of a list, and no others
pub record Knows (known : BTreeSet Names) (paths : List Names) : Type 0 where
  pub each : (path : Names) → contains by_names known path ≡ among path paths

-- a command in its folder
abbrev pub Command : Type 0
Command = Names × List ℕ

-- commands in order: by their folders, then by their bytes
abbrev pub by_command : Command → Command → Ordering
by_command one other = ordering_then (by_names one.0 other.0) (by_bytes one.1 other.1)

-- a set that has the commands of the rules of a list, and no others
pub record KnowsCommands (known : BTreeSet Command) (rules : List Rule) : Type 0 where
  pub each : (rule : Rule) → contains by_command known (rule.dir, rule.text) ≡ list_any (same_command rule) rules
