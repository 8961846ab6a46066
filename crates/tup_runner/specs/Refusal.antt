-- What a view refused, and what a run answers then.
use Rattle.std.specs.Prelude.{List, ℕ, Option, None, Some, Result, Ok, Err}
use Rattle.tup_runner.specs.declared.step.Answer.{Answer}
use Rattle.tup_runner.specs.declared.fault.ViewFailed.{ViewFailed}
use Rattle.tup_runner.specs.declared.fault.ViewFailed.TheVariants.{Denied, Fault, Memory}
use Rattle.tup_runner.specs.declared.fault.RunFailed.{RunFailed}
use Rattle.tup_runner.specs.declared.fault.RunFailed.TheVariants.{Denied as RunDenied, View as RunView, Memory as RunMemory}

-- the text that was asked, and why there was no answer
pub record Refusal : Type 0 where
  pub text : List ℕ
  pub why : ViewFailed

-- what a view has refused after one ask; want of memory is no refusal
abbrev pub refused : List ℕ → Result Answer ViewFailed → Option Refusal
refused text (Ok answer) = None
refused text (Err Memory) = None
refused text (Err why) = Some (record { text = text; why = why })

-- what a run answers where its view gave no answer
abbrev pub run_failed : ViewFailed → RunFailed
run_failed Denied = RunDenied
run_failed Fault = RunView
run_failed Memory = RunMemory
