-- What the asks of a log come to. A runner of started programs tells nothing of what they mean.
use Rattle.std.specs.Prelude.{◌≡◌, ◌≢◌, ℕ, List, [], ◌∷◌, ◌++◌, map, Option, None, Some, Result, Ok, Err}
use Rattle.tup_stamp.specs.Stamp.{stamp}
use Rattle.tup_stamp.specs.declared.Stamp.{Stamp}
use Rattle.tup_proc.specs.declared.line.LogLine.{LogLine}
use Rattle.tup_proc.specs.declared.line.LogLine.TheVariants.{Read, Absent as LogAbsent, Wrote, End as LogEnd}
use Rattle.tup_runner.specs.Next.{Asks, Next}
use Rattle.tup_runner.specs.Refusal.{Refusal}
use Rattle.tup_runner.specs.declared.fault.ViewFailed.{ViewFailed}
use Rattle.tup_runner.specs.declared.fault.ViewFailed.TheVariants.{Denied as ViewDenied, Fault as ViewFault}
use Rattle.tup_runner.specs.declared.fault.RunFailed.{RunFailed}
use Rattle.tup_runner.specs.declared.fault.RunFailed.TheVariants.{Denied, View, Fault, Memory}
use Rattle.tup_runner.specs.declared.step.Answer.{Answer}
use Rattle.tup_runner.specs.declared.step.Answer.TheVariants.{Content, Absent}
use Rattle.tup_runner.specs.declared.step.Step.TheVariants.{End}

-- stands where a runner has to give a meaning that it doesn't tell
abbrev pub untold : Next
untold dir text asks = End (record { status = 0; writes = [] })

-- a text that was asked for, and the stamp of what was found there
abbrev pub Said : Type 0
Said = List ℕ × Option Stamp

-- what a line says was asked
abbrev pub said_by : LogLine → List Said
said_by (Read digest text) = (text, Some digest) ∷ []
said_by (LogAbsent text) = (text, None) ∷ []
said_by (Wrote file text) = []
said_by (LogEnd status) = []

-- what a log says was asked, in order
abbrev pub said_in : List LogLine → List Said
said_in [] = []
said_in (line ∷ lines) = said_by line ++ said_in lines

-- the stamp of what was found, if anything was
abbrev pub found : Answer → Option Stamp
found (Content content) = Some (stamp content)
found Absent = None

-- an ask with its answer, as a log says it
abbrev pub shown : List ℕ × Answer → Said
shown ask = (ask.0, found ask.1)

-- just what is said was asked, in this order, and each answer is as it says
pub record AsSaid (said : List Said) (came : Asks → Type 0) (refusal : Option Refusal) : Type 0 where
  pub asks : Asks
  pub came_by : came asks
  pub each : map shown asks ≡ said
  pub granted : refusal ≡ None

-- what is said was asked in this order up to the first answer that isn't as it says: the one for this text
pub record Unlike (said : List Said) (text : List ℕ) (came : Asks → Type 0) (refusal : Option Refusal) : Type 0 where
  pub asks : Asks
  pub answer : Answer
  pub digest : Option Stamp
  pub rest : List Said
  pub came_by : came (asks ++ (text, answer) ∷ [])
  pub is : said ≡ map shown asks ++ (text, digest) ∷ rest
  pub unlike : found answer ≢ digest
  pub granted : refusal ≡ None

-- what is said was asked in this order up to a text to which the view gave no answer
pub record Unanswered (said : List Said) (came : Asks → Type 0) (refusal : Option Refusal) (why : ViewFailed) : Type 0 where
  pub asks : Asks
  pub last : List ℕ
  pub digest : Option Stamp
  pub rest : List Said
  pub came_by : came asks
  pub is : said ≡ map shown asks ++ (last, digest) ∷ rest
  pub refused : refusal ≡ Some (record { text = last; why = why })

-- what the asks of a log come to: all answers are as the log says, or the one for a text isn't, or why the view gave none
abbrev pub AsksAs : List Said → (Asks → Type 0) → Option Refusal → Result (Option (List ℕ)) RunFailed → Type 0
AsksAs said came refusal (Ok None) = AsSaid said came refusal
AsksAs said came refusal (Ok (Some text)) = Unlike said text came refusal
AsksAs said came refusal (Err Denied) = Unanswered said came refusal ViewDenied
AsksAs said came refusal (Err View) = Unanswered said came refusal ViewFault
AsksAs said came refusal (Err Fault) = ⊥
AsksAs said came refusal (Err Memory) = refusal ≡ None

-- a failure of the runner's own, and not of its view
abbrev pub IsOwn : RunFailed → Type 0
IsOwn Denied = ⊥
IsOwn View = ⊥
IsOwn Fault = Unit {0}
IsOwn Memory = Unit {0}
