-- What a hand does (own).
use Rattle.std.specs.Prelude.{◌≡◌, ◌≢◌, ◌⊎◌, ◌-◌, ℕ, All, Bool, false, List, [], ◌∷◌, ◌++◌, None, Some, Result, Err, Contains, IsTrue, length, slice_get, take}
use Rattle.tup_path.specs.Count.{Rose}
use Rattle.tup_path.specs.Name.{Names}
use Rattle.tup_rule.specs.declared.rule.Rule.{Rule}
use Rattle.tup_runner.specs.declared.fault.RunFailed.{RunFailed}
use Rattle.tup_runner.specs.declared.fault.RunFailed.TheVariants.{Denied as WasDenied, View as ByView}
use Rattle.tup_runner.specs.declared.runner.Runner.{Ghosts as Runner}
use Rattle.tup_core.specs.Honest.{EndsHonestly}
use Rattle.tup_core.specs.Run.{claims}
use Rattle.tup_core.specs.declared.event.Cause.{Cause}
use Rattle.tup_core.specs.declared.event.Cause.TheVariants.{Run, Memory}
use Rattle.tup_core.specs.declared.event.CoreEvent.{CoreEvent}
use Rattle.tup_core.specs.declared.event.CoreEvent.TheVariants.{Stop}
use Rattle.tup_core.specs.declared.plan.Plan.{Plan}
use Rattle.tup_core.specs.declared.running.Running.{Running}
use Rattle.tup_board.specs.Calls.{command_of, commands}
use Rattle.tup_board.specs.Entries.{WasDeniedBy, runs_after}
use Rattle.tup_workers.specs.Told.{NeverRun, Told, runs}
use Rattle.tup_workers.specs.declared.hand.Hand.{Hand}

-- ---- one rule
-- a seat is one of the board, whose plan this is
abbrev pub IsAt : {T : Type 0} → (T → Type 0) → (T → Plan) → Plan → T → Type 0
IsAt belongs plan_of plan seat = belongs seat × (plan ≡ plan_of seat)

-- by its entries a seat has claimed this rule, whose command did nothing yet
pub record StartsBy (plan : Plan) (entries : List CoreEvent) (number : ℕ) : Type 0 where
  pub rule : Rule
  pub placed : slice_get plan.rules number ≡ Some rule
  pub here : runs_after None entries ≡ Some (record { rule = number; asks = []; denied = None })

-- what the run of its command leaves, by its answer: a text was denied to it, as its runner means to ask it; or the files couldn't
-- be reached, and it runs nothing any more; else it still runs the rule
pub record PerformsBy {R A : Type 0} (tells : Bool) (runner : Runner R) (plan : Plan) (number : ℕ) (old : Told) (result : Result A RunFailed) (new : Told) : Type 0 where
  pub added : List CoreEvent
  pub adds : new.entries ≡ old.entries ++ added
  pub none_claimed : claims added ≡ []
  pub never_run : All NeverRun added
  pub denied : result ≡ Err WasDenied → WasDeniedBy plan new.entries
  pub means : (was : WasDeniedBy plan new.entries) → result ≡ Err WasDenied → IsTrue tells → IsTrue runner.tells
      → EndsHonestly runner.next new.known was.rule was.running (Some (was.text, was.verdict)) was.verdict []
  pub view : result ≡ Err ByView → runs new ≡ None
  pub going : result ≢ Err ByView → (running : Running) × (runs new ≡ Some running)

-- a stop at a seat that ran a rule, which doesn't go on
abbrev pub Stopped : ℕ → Cause → List CoreEvent → List CoreEvent → Bool → Type 0
Stopped number cause old new result = (result ≡ false) × (new ≡ old ++ Stop number cause ∷ [])

-- the command of a seat has ended: it goes on unless there was no memory, for which it has stopped the board
pub record EndsWith (number : ℕ) (old new : List CoreEvent) (result : Bool) : Type 0 where
  pub added : List CoreEvent
  pub adds : new ≡ old ++ added
  pub none_claimed : claims added ≡ []
  pub never_run : All NeverRun added
  pub free : runs_after None new ≡ None
  pub left : result ≡ false → added ≡ Stop number Memory ∷ []

-- the rule was run or left; its command was run, unless there was no memory, for which the board was stopped. The runner failed
-- just where the board was stopped for that
pub record RunsBy {R : Type 0} (runner : Runner R) (plan : Plan) (rule number : ℕ) (old new : List CoreEvent) (was is : R) (result : Bool) : Type 0 where
  pub added : List CoreEvent
  pub adds : new ≡ old ++ added
  pub none_claimed : claims added ≡ []
  pub free : runs_after None new ≡ None
  pub ran : IsTrue runner.tells_ran → (it : Rule) → slice_get plan.rules rule ≡ Some it
      → (runner.ran is ≡ runner.ran was ++ command_of it ∷ []) ⊎ ((result ≡ false) × (runner.ran is ≡ runner.ran was) × Contains added (Stop number Memory))
  pub cause : Contains added (Stop number Run) → (result ≡ false) × Rose (runner.faults was) (runner.faults is)
  pub steady : (Contains added (Stop number Run) → ⊥) → runner.faults is ≡ runner.faults was

-- ---- the work of a hand
-- its runner ran the commands of the rules that it claimed; where it stopped for want of memory, perhaps not the last
abbrev pub RanBy : Plan → ℕ → List CoreEvent → List (Names × List ℕ) → List (Names × List ℕ) → Type 0
RanBy plan number added old new =
    (new ≡ old ++ commands plan added) ⊎ (Contains added (Stop number Memory) × (new ≡ old ++ take (length (commands plan added) - 1) (commands plan added)))

module _ {T R : Type 0} (belongs : T → Type 0) where
  -- its seat is one of the board, whose plan this is, and runs nothing
  abbrev pub IsReady : (T → Plan) → (T → List CoreEvent) → Plan → Hand T R → Type 0
  IsReady plan_of entries plan hand = IsAt belongs plan_of plan hand.seat × (runs_after None (entries hand.seat) ≡ None)

  -- it runs nothing any more; it stopped the board for a runner just where its own failed
  pub record Worked (number : T → ℕ) (plan_of : T → Plan) (entries : T → List CoreEvent) (runner : Runner R) (plan : Plan) (old new : Hand T R) : Type 0 where
    pub at : IsAt belongs plan_of plan new.seat
    pub same : number new.seat ≡ number old.seat
    pub added : List CoreEvent
    pub adds : entries new.seat ≡ entries old.seat ++ added
    pub free : runs_after None (entries new.seat) ≡ None
    pub ran : IsTrue runner.tells_ran → RanBy plan (number old.seat) added (runner.ran old.runner) (runner.ran new.runner)
    pub cause : Contains added (Stop (number old.seat) Run) → Rose (runner.faults old.runner) (runner.faults new.runner)
    pub steady : (Contains added (Stop (number old.seat) Run) → ⊥) → runner.faults new.runner ≡ runner.faults old.runner

  -- so far: it runs nothing, its runner ran the commands of just the rules that it claimed, and failed at nothing
  pub record WorksOn (number : T → ℕ) (plan_of : T → Plan) (entries : T → List CoreEvent) (runner : Runner R) (plan : Plan) (old new : Hand T R) : Type 0 where
    pub at : IsAt belongs plan_of plan new.seat
    pub same : number new.seat ≡ number old.seat
    pub added : List CoreEvent
    pub adds : entries new.seat ≡ entries old.seat ++ added
    pub free : runs_after None (entries new.seat) ≡ None
    pub ran : IsTrue runner.tells_ran → runner.ran new.runner ≡ runner.ran old.runner ++ commands plan added
    pub never_run : Contains added (Stop (number old.seat) Run) → ⊥
    pub steady : runner.faults new.runner ≡ runner.faults old.runner
