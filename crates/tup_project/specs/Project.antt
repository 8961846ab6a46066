-- What the sources of a project come to: the rules that the readings of all its folders give once they are linked, or the fault
-- that is met first. From the manual: a project is read as one; the faults and their order are own.
use Rattle.std.specs.Prelude.{◌≡◌, ◌⊎◌, List, None, Result, Ok, Err}
use Rattle.tup_path.specs.Name.{Names}
use Rattle.tup_path.specs.Tree.{Tree}
use Rattle.tup_lex.specs.declared.kind.ParseKind.TheVariants.{DuplicateCommand}
use Rattle.tup_rule.specs.declared.question.Reading.{Reading}
use Rattle.tup_rule.specs.declared.rule.Rule.{Rule}
use Rattle.tup_query.specs.declared.fault.ParseFault.{ParseFault}
use Rattle.tup_readings.specs.declared.fault.FoldersFault.TheVariants as folders
use Rattle.tup_readings.specs.Readings.{IsOutcome}
use Rattle.tup_link.specs.declared.fault.LinkFault.{LinkFault}
use Rattle.tup_link.specs.declared.fault.LinkFault.TheVariants as linking
use Rattle.tup_link.specs.Circle.{NoneWaitsForItself}
use Rattle.tup_link.specs.Faults.{HasCause, early_fault}
use Rattle.tup_link.specs.Linked.{rules_of}
use Rattle.tup_project.specs.declared.fault.ProjectFault.{ProjectFault}
use Rattle.tup_project.specs.declared.fault.ProjectFault.TheVariants.{Parse, CircularDirs, CircularCommands, NoSuchGroup, TooMany, Memory}

-- readings come to these rules: linking has no fault, and none of the rules waits for itself
pub record AreLinked (readings : List (Names × Reading)) (rules : List Rule) : Type 0 where
  pub are : rules ≡ rules_of readings
  pub early : early_fault readings ≡ None
  pub order : NoneWaitsForItself rules

-- all folders are read, and linking what they read as has this fault
abbrev pub IsUnlinked : Tree → LinkFault → Type 0
IsUnlinked sources fault = (readings : List (Names × Reading)) × IsOutcome sources (Ok readings) × HasCause readings fault

-- all folders are read, and a command stands twice in one of them, the later time in the line of this fault
abbrev pub StandsTwice : Tree → ParseFault → Type 0
StandsTwice sources fault = (fault.kind ≡ DuplicateCommand) × IsUnlinked sources (linking.DuplicateCommand fault.dir fault.file fault.line)

-- what the sources of a project come to
abbrev pub ComeTo : Tree → Result (List Rule) ProjectFault → Type 0
ComeTo sources (Ok rules) = (readings : List (Names × Reading)) × IsOutcome sources (Ok readings) × AreLinked readings rules
ComeTo sources (Err (Parse fault)) = IsOutcome sources (Err (folders.Parse fault)) ⊎ StandsTwice sources fault
ComeTo sources (Err (CircularDirs dirs)) = IsOutcome sources (Err (folders.Circular dirs))
ComeTo sources (Err (CircularCommands names)) = IsUnlinked sources (linking.CircularCommands names)
ComeTo sources (Err (NoSuchGroup group)) = IsUnlinked sources (linking.NoSuchGroup group)
ComeTo sources (Err (TooMany what number)) = IsUnlinked sources (linking.TooMany what number)
ComeTo sources (Err Memory) = Unit {0}
