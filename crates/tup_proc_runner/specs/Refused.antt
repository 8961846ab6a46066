-- Why something of a run wasn't done.
use Rattle.std.specs.Prelude.{◌≡◌, ◌⊎◌}
use Rattle.tup_proc_runner.specs.declared.fault.ProcFault.{ProcFault}
use Rattle.tup_proc_runner.specs.declared.fault.ProcFault.TheVariants.{NotStarted, BadLog, NoStage, Told}
use Rattle.tup_proc_runner.specs.declared.fault.Refused.{Refused}
use Rattle.tup_proc_runner.specs.declared.fault.Refused.TheVariants.{Memory, Fault}

-- want of memory, or this fault
abbrev pub IsMemoryOr : ProcFault → Refused → Type 0
IsMemoryOr fault refused = (refused ≡ Memory) ⊎ (refused ≡ Fault fault)

-- why a program didn't run to its end: want of memory, or it wasn't started, or what it printed wasn't kept
abbrev pub IsOfRun : Refused → Type 0
IsOfRun refused = IsMemoryOr NotStarted refused ⊎ IsMemoryOr NoStage refused

-- why a file that the program leaves in its stage isn't read: want of memory, or it isn't there, or it couldn't be read
abbrev pub IsOfRead : Refused → Type 0
IsOfRead refused = IsMemoryOr BadLog refused ⊎ IsMemoryOr NoStage refused

-- why a log has no lines: it isn't read or doesn't read, or the program has printed why there is none
abbrev pub IsOfLog : Refused → Type 0
IsOfLog refused = IsOfRead refused ⊎ IsMemoryOr Told refused

-- why there are no lines of a log: the program didn't run to its end, or its log has none
abbrev pub IsOfStart : Refused → Type 0
IsOfStart refused = IsOfRun refused ⊎ IsOfLog refused
