-- What a report says.
use Rattle.std.specs.Prelude.{◌≡◌, ℕ, List, Option, None}
use Rattle.tup_path.specs.Name.{Names}
use Rattle.tup_runner.specs.Next.{Asks}
use Rattle.tup_runner.specs.Refusal.{Refusal}
use Rattle.tup_runner.specs.declared.step.Ended.{Ended}
use Rattle.tup_runner.specs.declared.report.Report.{Report}

-- what the command asked, with the answers
abbrev pub asks_of : {R : Type 0} {g : _} → Report R g → Asks
asks_of report = report.asks

-- how it ended
abbrev pub ended_of : {R : Type 0} {g : _} → Report R g → Ended
ended_of report = report.ended

-- a report on this command, whose asks its view came by
pub record Reports {R : Type 0} {g : _} (dir : Names) (text : List ℕ) (came : Asks → Type 0) (refusal : Option Refusal) (report : Report R g) : Type 0 where
  pub dir_is : report.dir ≡ dir
  pub text_is : report.text ≡ text
  pub came_by : came report.asks
  pub granted : refusal ≡ None
