-- What a log tells of its program's end, and what a run over a log comes to.
use Rattle.std.specs.Prelude.{◌≡◌, ◌⊎◌, ℕ, List, [], ◌∷◌, ◌++◌, map, fold, Option, Some, None, Result, Ok, Err}
use Rattle.tup_path.specs.Name.{Names}
use Rattle.tup_path.specs.Resolve.{resolve}
use Rattle.tup_path.specs.Show.{show}
use Rattle.tup_proc.specs.declared.line.LogLine.{LogLine}
use Rattle.tup_proc.specs.declared.line.LogLine.TheVariants.{Wrote, End}
use Rattle.tup_runner.specs.Next.{Asks}
use Rattle.tup_runner.specs.Refusal.{Refusal}
use Rattle.tup_runner.specs.declared.fault.ViewFailed.TheVariants.{Denied as ViewDenied, Fault as ViewFault}
use Rattle.tup_runner.specs.declared.fault.RunFailed.{RunFailed}
use Rattle.tup_runner.specs.declared.fault.RunFailed.TheVariants.{Denied, View, Fault, Memory}
use Rattle.tup_runner.specs.declared.step.Ended.{Ended}
use Rattle.tup_proc_runner.specs.declared.fault.ProcFault.{ProcFault}
use Rattle.tup_proc_runner.specs.declared.fault.ProcFault.TheVariants.{BadLog, Differs, NoStage}
use Rattle.tup_proc_runner.specs.Asked.{Said, said_in, AsSaid, Unlike, Unanswered}

-- how a program ended: its status, and the texts that it wrote, in order
abbrev pub Told : Type 0
Told = ℕ × List (List ℕ)

-- a line more
abbrev pub with_line : Told → LogLine → Told
with_line told (Wrote file text) = (told.0, told.1 ++ text ∷ [])
with_line told (End status) = (status, told.1)
with_line told line = told

-- how a log says that its program ended
abbrev pub told_in : List LogLine → Told
told_in lines = fold with_line (0, []) lines

-- the texts of writes
abbrev pub texts_of : List (List ℕ × List ℕ) → List (List ℕ)
texts_of writes = map (λ write. write.0) writes

-- an end, as a log tells it
abbrev pub told_of : Ended → Told
told_of ended = (ended.status, texts_of ended.writes)

-- where what a text of a log names stands: below the root, if it names a path; otherwise the text stands for itself
abbrev pub place_of : List ℕ → Names → List ℕ → List ℕ
place_of root dir text = elim (resolve dir text) [ Ok path ↦ root ++ 47 ∷ show path | Err fault ↦ text ]

-- an answer isn't as a log says, and the fault names the file: it isn't said that the log is bad
pub record Differing (said : List Said) (place : List ℕ → List ℕ) (came : Asks → Type 0) (refusal : Option Refusal) (last : Option ProcFault) : Type 0 where
  pub text : List ℕ
  pub unlike : Unlike said text came refusal
  pub named : last ≡ Some (Differs (place text))

-- all answers are as a log says, and what the program wrote can't be read: it isn't there, so the log is bad, or the stage failed
pub record Unread (said : List Said) (came : Asks → Type 0) (refusal : Option Refusal) (last : Option ProcFault) : Type 0 where
  pub as_said : AsSaid said came refusal
  pub named : (last ≡ Some BadLog) ⊎ (last ≡ Some NoStage)

-- what a run over a log comes to, by where its texts lead: it ended as the log says, after just the asks that it says were
-- answered so; or the view gave no answer to one of them; or an answer isn't as it says; or what it wrote can't be read
abbrev pub FollowsLog : List LogLine → (List ℕ → List ℕ) → (Asks → Type 0) → Option Refusal → Option ProcFault → Result Ended RunFailed → Type 0
FollowsLog lines place came refusal last (Ok ended) = AsSaid (said_in lines) came refusal × (told_of ended ≡ told_in lines)
FollowsLog lines place came refusal last (Err Denied) = Unanswered (said_in lines) came refusal ViewDenied
FollowsLog lines place came refusal last (Err View) = Unanswered (said_in lines) came refusal ViewFault
FollowsLog lines place came refusal last (Err Fault) = Differing (said_in lines) place came refusal last ⊎ Unread (said_in lines) came refusal last
FollowsLog lines place came refusal last (Err Memory) = refusal ≡ None

-- paths as the stage lists them: each as it is shown, with a line feed behind it
abbrev pub list_of : List Names → List ℕ
list_of [] = []
list_of (path ∷ paths) = show path ++ 10 ∷ list_of paths
