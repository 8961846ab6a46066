-- What an update does that begins in what finding out left (own).
use Rattle.std.specs.Prelude.{◌≡◌, ◌↔◌, List, Option, None, Contains}
use Rattle.tup_path.specs.Name.{Names}
use Rattle.tup_rule.specs.declared.rule.RuleName.{RuleName}
use Rattle.tup_promise.specs.declared.log.Log.{Log}
use Rattle.tup_promise.specs.declared.stop.Stop.{Stop}
use Rattle.tup_todo.specs.declared.listing.DueRule.{DueRule}
use Rattle.tup_todo.specs.declared.todo.Todo.{Todo}

-- a name is that of a listed rule
abbrev pub IsListed : List DueRule → RuleName → Type 0
IsListed listed name = (due : DueRule) × Contains listed due × (due.rule ≡ name)

-- an update that has this log, and stopped so, did what was listed
pub record DoesWhatWasListed (todo : Todo) (log : Log) (stopped : Option Stop) : Type 0 where
  -- each rule that was begun is listed
  pub only : (name : RuleName) → Contains log.ran name → IsListed todo.runs name
  -- where nothing stopped it, each listed rule was begun, and just the listed files were removed
  pub all : stopped ≡ None → (due : DueRule) → Contains todo.runs due → Contains log.ran due.rule
  pub removes : stopped ≡ None → (path : Names) → Contains log.removed path ↔ Contains todo.removes path
