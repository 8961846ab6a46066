-- What the runners and the sink tell of a run of the program, where they tell. Own.
use Rattle.std.specs.Prelude.{◌≡◌, Bool, true, false, ℕ, List, drop, take, Option, None, Some, IsTrue}
use Rattle.tup_path.specs.Name.{Names}
use Rattle.tup_site.specs.World.{World}
use Rattle.tup_site.specs.Memory.{world_in}
use Rattle.tup_site.specs.contracts.memory_calls.MemSiteSite.TheImpl as memory
use Rattle.tup_site.specs.declared.memory.MemSite.{MemSite}
use Rattle.tup_rule.specs.declared.rule.RuleName.{RuleName}
use Rattle.tup_runner.specs.Next.{Next}
use Rattle.tup_promise.specs.BadEnds.{BadEnds, BlamesFirst}
use Rattle.tup_promise.specs.Did.{ReadAndRemoved}
use Rattle.tup_promise.specs.GoodEnds.{GoodEnds}
use Rattle.tup_promise.specs.Kept.{IsKeptBySome}
use Rattle.tup_promise.specs.Ran.{CrewRuns}
use Rattle.tup_promise.specs.declared.log.Log.{Log}
use Rattle.tup_promise.specs.declared.stop.Stop.{Stop}
use Rattle.tup_top.specs.Crew.{CrewCompares}
use Rattle.tup_top.specs.Order.{Wanted, HasCommandsRun, used}
use Rattle.tup_top.specs.Printed.{Printed, SaysWhyOf, hears_none}
use Rattle.tup_top.specs.Promise.{ForUpdate, ForVerify}
use Rattle.tup_top.specs.declared.status.Status.{Status}
use Rattle.tup_history.specs.Kept.{IsKept}

-- what is told, where it is
abbrev pub told_by : {A : Type 0} → Bool → A → Option A
told_by true value = Some value
told_by false value = None

-- What the runners of a crew of so many had run before and have run now: those that an update uses shared the commands of the rules that
-- it began; of a comparison the first ran the commands; all others are as before, and so are all where no commands were to be run.
pub record HasRun (tells : Bool) (next : Next) (wanted : Wanted) (many : ℕ) (old : World) (before now : List (List (Names × List ℕ))) (status : Status) (ran : List RuleName) : Type 0 where
  pub update : ForUpdate wanted status (CrewRuns ran (take (used wanted many) before) (take (used wanted many) now))
  pub compared : IsTrue tells → ForVerify wanted status (CrewCompares next old before now)
  pub others : drop (used wanted many) now ≡ drop (used wanted many) before
  pub nothing : (HasCommandsRun wanted → ⊥) → now ≡ before

-- what the log of an update says is true that left this world, where the project was kept, and of the ends of rules where the runner tells
pub record IsTrueThere (tells : Bool) (next : Next) (old : MemSite) (new : World) (log : Log) (stopped : Option Stop) : Type 0 where
  pub bads : IsTrue tells → IsKept next old → BadEnds next (world_in old) log
  pub first : IsTrue tells → IsKept next old → BlamesFirst (world_in old) log stopped
  pub left : IsTrue tells → IsKept next old → GoodEnds next (world_in old) new log
  pub did : IsKeptBySome memory.ghosts old → ReadAndRemoved (world_in old) log stopped

-- What a sink held before a run by a crew of so many, and holds now: it has grown by the lines of that run.
abbrev pub HasPrinted : Bool → Next → Wanted → ℕ → MemSite → MemSite → ℕ → ℕ → List ℕ → List ℕ → Status → List RuleName → Type 0
HasPrinted tells next wanted many old new before now held holds status ran =
    Printed (used wanted many) memory.ghosts.tells tells (IsTrue memory.ghosts.tells × IsKeptBySome memory.ghosts old) (SaysWhyOf memory.ghosts old) (IsTrueThere tells next old (world_in new)) hears_none wanted next (world_in old) (world_in new) ran before now held
    holds status
