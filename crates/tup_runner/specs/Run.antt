-- What the run of a command is.
use Rattle.std.specs.Prelude.{◌≡◌, ◌≢◌, ◌⊎◌, ℕ, List, [], ◌∷◌, ◌++◌, Option, None, Some, Result, Ok, Err, IsTrue, Bool}
use Rattle.tup_path.specs.Count.{Rose}
use Rattle.tup_path.specs.Name.{Names}
use Rattle.tup_runner.specs.Next.{Asks}
use Rattle.tup_runner.specs.Honest.{AsksJust, AsksAfter, EndsAfter}
use Rattle.tup_runner.specs.Refusal.{Refusal}
use Rattle.tup_runner.specs.declared.step.Ended.{Ended}
use Rattle.tup_runner.specs.declared.step.Step.{Step}
use Rattle.tup_runner.specs.declared.fault.ViewFailed.{ViewFailed}
use Rattle.tup_runner.specs.declared.fault.ViewFailed.TheVariants.{Denied as ViewDenied, Fault as ViewFault}
use Rattle.tup_runner.specs.declared.fault.RunFailed.{RunFailed}
use Rattle.tup_runner.specs.declared.fault.RunFailed.TheVariants.{Denied, View, Fault, Memory}

-- a run that ended asked what its runner means, and nothing was refused
pub record HasEnded (tells : Bool) (does : Asks → Step) (came : Asks → Type 0) (refusal : Option Refusal) (ended : Ended) : Type 0 where
  pub asks : Asks
  pub came_by : came asks
  pub means : IsTrue tells → EndsAfter does asks ended
  pub granted : refusal ≡ None

-- a run that was refused a text, for this reason, asked what its runner means up to this text, and nothing after it
pub record WasRefused (tells : Bool) (does : Asks → Step) (came : Asks → Type 0) (refusal : Option Refusal) (why : ViewFailed) : Type 0 where
  pub asks : Asks
  pub last : List ℕ
  pub came_by : came asks
  pub means : IsTrue tells → AsksAfter does asks last
  pub refused : refusal ≡ Some (record { text = last; why = why })

-- a run whose runner failed asked what its runner means, and nothing was refused
pub record HasFailed (tells : Bool) (does : Asks → Step) (came : Asks → Type 0) (refusal : Option Refusal) : Type 0 where
  pub asks : Asks
  pub came_by : came asks
  pub means : IsTrue tells → AsksJust does asks
  pub granted : refusal ≡ None

-- what a run answers, by what its view came by and what it refused
abbrev pub RunsAs : Bool → (Asks → Step) → (Asks → Type 0) → Option Refusal → Result Ended RunFailed → Type 0
RunsAs tells does came refusal (Ok ended) = HasEnded tells does came refusal ended
RunsAs tells does came refusal (Err Denied) = WasRefused tells does came refusal ViewDenied
RunsAs tells does came refusal (Err View) = WasRefused tells does came refusal ViewFault
RunsAs tells does came refusal (Err Fault) = HasFailed tells does came refusal
RunsAs tells does came refusal (Err Memory) = refusal ≡ None

-- what a runner ran grew by this, where there was no memory perhaps by nothing
abbrev pub Appends : {A : Type 0} → Names × List ℕ → List (Names × List ℕ) → List (Names × List ℕ) → Result A RunFailed → Type 0
Appends started old new (Err Memory) = (new ≡ old) ⊎ (new ≡ old ++ started ∷ [])
Appends started old new result = new ≡ old ++ started ∷ []

-- a runner's count of faults rises where it answers Fault, and at no other answer
abbrev pub CountsFaults : {A : Type 0} → ℕ → ℕ → Result A RunFailed → Type 0
CountsFaults before now (Err Fault) = Rose before now
CountsFaults before now result = now ≡ before

-- it isn't the runner that failed
abbrev pub NeverFaults : {A : Type 0} → Result A RunFailed → Type 0
NeverFaults result = result ≢ Err Fault
