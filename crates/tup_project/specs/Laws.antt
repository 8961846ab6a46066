-- What is said of two things to which the sources of one project come.
use Rattle.std.specs.Prelude.{◌≡◌, List, Result, Ok, Err}
use Rattle.tup_rule.specs.declared.rule.Rule.{Rule}
use Rattle.tup_project.specs.declared.fault.ProjectFault.{ProjectFault}
use Rattle.tup_project.specs.declared.fault.ProjectFault.TheVariants.{CircularCommands, Memory}

-- faults are one, but of circles of rules either may be told
abbrev pub IsSameFault : ProjectFault → ProjectFault → Type 0
IsSameFault (CircularCommands names) (CircularCommands others) = Unit {0}
IsSameFault one other = one ≡ other

-- they are the same, but for want of memory
abbrev pub AreAlike : Result (List Rule) ProjectFault → Result (List Rule) ProjectFault → Type 0
AreAlike (Err Memory) other = Unit {0}
AreAlike one (Err Memory) = Unit {0}
AreAlike (Ok rules) (Ok others) = rules ≡ others
AreAlike (Err fault) (Err other) = IsSameFault fault other
AreAlike one other = ⊥
