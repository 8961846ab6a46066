-- What it comes to when a part of a command is followed through a view.
use Rattle.std.specs.Prelude.{◌≡◌, ℕ, List, [], ◌∷◌, Option, None, Some, Result, Ok, Err}
use Rattle.tup_runner.specs.Next.{Asks}
use Rattle.tup_runner.specs.Refusal.{Refusal}
use Rattle.tup_runner.specs.declared.step.Step.TheVariants.{Ask}
use Rattle.tup_runner.specs.declared.fault.ViewFailed.{ViewFailed}
use Rattle.tup_runner.specs.declared.fault.ViewFailed.TheVariants.{Denied as ViewDenied, Fault as ViewFault}
use Rattle.tup_runner.specs.declared.fault.RunFailed.TheVariants.{Denied, View, Fault, Memory}
use Rattle.tup_mini.specs.declared.kept.Kept.{Kept as KeptValue}
use Rattle.tup_mini.specs.declared.stopped.Stopped.{Stopped}
use Rattle.tup_mini.specs.declared.stopped.Stopped.TheVariants.{Status, Failed}
use Rattle.tup_mini.specs.Kept.{Kept}
use Rattle.tup_mini.specs.Part.{Outcome, Next, gives, stops}

-- what the code keeps, as the definitions see it
abbrev pub kept_of : KeptValue → Kept
kept_of k = record { dir = k.written.dir; writes = k.written.writes.items; own_reads = k.own_reads; asked = k.asked; first = k.first }

-- what a part does after these answers, whose texts it asks for in their order
abbrev pub Leads : {A : Type 0} → (Asks → Outcome A) → Asks → (Asks → Outcome A) → Type 0
Leads from [] to = from ≡ to
Leads from (ask ∷ asks) to = (from [] ≡ Next (Ask ask.0)) × Leads (λ left. from (ask ∷ left)) asks to

module _ {S : Type 0} (came : S → Asks → S → Type 0) (same : S → S → Type 0) (refusal : S → Option Refusal) (old new : S) where
  -- the view answered what a part asked, which led it on
  pub record GoesOn {A : Type 0} (from to : Asks → Outcome A) : Type 0 where
    pub asks : Asks
    pub came_by : came old asks new
    pub leads : Leads from asks to
    pub granted : refusal new ≡ None
    pub same_view : same old new

  -- the view refused the text that a part asked for last
  pub record Refuses {A : Type 0} (from : Asks → Outcome A) (why : ViewFailed) : Type 0 where
    pub asks : Asks
    pub last : List ℕ
    pub to : Asks → Outcome A
    pub came_by : came old asks new
    pub leads : Leads from asks to
    pub asks_it : to [] ≡ Next (Ask last)
    pub refused : refusal new ≡ Some (record { text = last; why = why })
    pub same_view : same old new

  -- there was no memory
  pub record Lacks : Type 0 where
    pub granted : refusal new ≡ None
    pub same_view : same old new

  -- what following a part comes to, by its result
  abbrev pub Follows : {A : Type 0} → (Asks → Outcome A) → Kept → Result A Stopped → Type 0
  Follows from kept (Ok value) = GoesOn from (gives value kept)
  Follows from kept (Err (Status status)) = GoesOn from (stops status kept)
  Follows from kept (Err (Failed Denied)) = Refuses from ViewDenied
  Follows from kept (Err (Failed View)) = Refuses from ViewFault
  Follows from kept (Err (Failed Fault)) = ⊥
  Follows from kept (Err (Failed Memory)) = Lacks

-- what a part that asks for nothing comes to
abbrev pub AtOnce : {A : Type 0} → (Asks → Outcome A) → Kept → Result A Stopped → Type 0
AtOnce from kept (Ok value) = from ≡ gives value kept
AtOnce from kept (Err (Status status)) = from ≡ stops status kept
AtOnce from kept (Err (Failed Memory)) = Unit {0}
AtOnce from kept (Err (Failed failed)) = ⊥
