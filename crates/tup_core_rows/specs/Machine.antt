-- What holds of a core that stands with its plan and the files of its opening (own).
use Rattle.std.specs.Prelude.{◌≡◌, ℕ, List, length, Option, None, Some, slice_get}
use Rattle.std.specs.FinMap as finite
use Rattle.tup_path.specs.Order.{by_names}
use Rattle.tup_stamp.specs.declared.Stamp.{Stamp}
use Rattle.tup_rule.specs.declared.rule.Rule.{Rule}
use Rattle.tup_access.specs.Access.{access}
use Rattle.tup_access.specs.declared.verdict.Access.{Access}
use Rattle.tup_access.specs.declared.verdict.Access.TheVariants.{Yes, No}
use Rattle.tup_core.specs.declared.plan.Plan.{Plan}
use Rattle.tup_core.specs.declared.running.Running.{Running}
use Rattle.tup_core.specs.Machine.{state_of, IsCore}
use Rattle.tup_core.specs.Step.{Runs}
use Rattle.tup_core_rows.specs.declared.machine.Machine.{Machine}

-- the core is one of the plan, and goes by the files
pub record IsOfPlan (machine : Machine) : Type 0 where
  pub core : IsCore machine.plan machine.core
  pub files : machine.core.files.first.value ≡ machine.files

-- what becomes of an ask of a command that runs
abbrev pub IsToldTo : Plan → Running → List ℕ → Option Access → Type 0
IsToldTo plan running text given = (rule : Rule) → slice_get plan.rules running.rule ≡ Some rule → given ≡ Some (access plan.rules rule (length running.asks) text)

-- what becomes of an ask of the command that a seat runs, if it runs one
abbrev pub IsToldOf : Machine → ℕ → List ℕ → Option Access → Type 0
IsToldOf machine seat text given = (running : Running) (rule : Rule) → Runs machine.plan (state_of machine.core) seat running rule → given ≡ Some (access machine.plan.rules rule (length running.asks) text)

-- the stamp that files have at the path that an ask is granted
abbrev pub stamp_granted : finite.FinMap by_names Stamp → Access → Option Stamp
stamp_granted files (Yes path) = finite.get files path
stamp_granted files (No verdict) = None

-- the same, of an ask by a seat that may run nothing
abbrev pub stamp_told : finite.FinMap by_names Stamp → Option Access → Option Stamp
stamp_told files (Some given) = stamp_granted files given
stamp_told files None = None
