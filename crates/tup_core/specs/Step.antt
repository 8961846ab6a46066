-- The core of an update as a machine: what it keeps, which events it takes, and what each leaves (own).
use Rattle.std.specs.Prelude.{◌≡◌, ◌≢◌, ◌==◌, ℕ, ◌<◌, Bool, true, false, if◌then◌else◌, List, [], ◌∷◌, ◌++◌, length, Option, None, Some, map, slice_get, unwrap_or, option_map}
use Rattle.std.specs.List.{list_any}
use Rattle.tup_path.specs.Name.{Names}
use Rattle.tup_path.specs.Order.{same_path}
use Rattle.tup_stamp.specs.declared.Stamp.{Stamp}
use Rattle.tup_rule.specs.declared.rule.Rule.{Rule}
use Rattle.tup_rule.specs.Rule.{writes}
use Rattle.tup_rule.specs.Producer.{DeclaredProducer}
use Rattle.tup_access.specs.declared.verdict.Verdict.{Verdict}
use Rattle.tup_access.specs.declared.verdict.Verdict.TheVariants.{Good, Failed, IllegalRead, IllegalWrite, Unwritten, TooManyReads}
use Rattle.tup_access.specs.declared.verdict.Access.TheVariants.{Yes, No}
use Rattle.tup_access.specs.Access.{access}
use Rattle.tup_core.specs.declared.event.Cause.{Cause}
use Rattle.tup_core.specs.declared.event.Cause.TheVariants.{Bad}
use Rattle.tup_core.specs.declared.event.CoreEvent.{CoreEvent}
use Rattle.tup_core.specs.declared.event.CoreEvent.TheVariants.{Claim, Ask, Deny, Finish, Stop}
use Rattle.tup_core.specs.declared.plan.Plan.{Plan}
use Rattle.tup_core.specs.declared.running.Running.{Running}

-- what the core keeps beside the plan: which rules are pending and which were claimed, what each seat runs, the
-- stamp of each file, the verdicts that weren't Good, and the first cause of a stop
pub record State : Type 0 where
  pub pending : ℕ → Bool
  pub claimed : ℕ → Bool
  pub seats : ℕ → Option Running
  pub files : Names → Option Stamp
  pub bad : ℕ → Option Verdict
  pub stopped : Option Cause

-- another value at one number, all else as before
abbrev pub changed : {A : Type 0} → (ℕ → A) → ℕ → A → ℕ → A
changed values at value number = if number == at then value else values number

-- files once these stamps are put in, one after another
abbrev pub with_stamps : (Names → Option Stamp) → List (Names × Stamp) → Names → Option Stamp
with_stamps files [] = files
with_stamps files (file ∷ more) = with_stamps (λ path. if same_path path file.0 then Some file.1 else files path) more

-- whether a rule is in the reach of a plan
abbrev pub is_reached : Plan → ℕ → Bool
is_reached plan at = list_any (λ number. at == number) plan.reach

-- what stands at the opening: the reach is pending, and nothing was claimed, runs, is bad or stopped
abbrev pub opening : Plan → List (Names × Stamp) → State
opening plan files = record {
  pending = is_reached plan;
  claimed = λ _. false;
  seats = λ _. None;
  files = with_stamps (λ _. None) files;
  bad = λ _. None;
  stopped = None;
}

-- no declared producer of a rule is pending
abbrev pub IsClear : Plan → State → Rule → Type 0
IsClear plan state rule = (at : ℕ) → DeclaredProducer plan.rules rule at → state.pending at ≡ false

-- the rule at a place may be claimed
pub record IsReady (plan : Plan) (state : State) (at : ℕ) : Type 0 where
  pub pending : state.pending at ≡ true
  pub unclaimed : state.claimed at ≡ false
  pub going : state.stopped ≡ None
  pub clear : (rule : Rule) × (slice_get plan.rules at ≡ Some rule) × IsClear plan state rule

-- a seat runs this rule; there are 16 seats
pub record Runs (plan : Plan) (state : State) (seat : ℕ) (running : Running) (rule : Rule) : Type 0 where
  pub within : seat < 16
  pub here : state.seats seat ≡ Some running
  pub placed : slice_get plan.rules running.rule ≡ Some rule

-- what a rule's command is answered for a path: its own outputs are absent
abbrev pub told : Rule → State → Names → Option Stamp
told rule state path = if writes rule path then None else state.files path

-- a seat's command asks for a text that it may ask for, and is told this
abbrev pub CanAsk : Plan → State → ℕ → List ℕ → Option Stamp → Type 0
CanAsk plan state seat text answer =
    (running : Running) × (rule : Rule) × (path : Names) × Runs plan state seat running rule × (running.denied ≡ None)
    × (access plan.rules rule (length running.asks) text ≡ Yes path) × (answer ≡ told rule state path)

-- a seat's command asks for a text that it may not ask for
abbrev pub CanDeny : Plan → State → ℕ → List ℕ → Verdict → Type 0
CanDeny plan state seat text verdict =
    (running : Running) × (rule : Rule) × Runs plan state seat running rule × (running.denied ≡ None)
    × (access plan.rules rule (length running.asks) text ≡ No verdict)

-- how a command may end: with the verdict that a refused ask gave, or Good with all its outputs, or badly with none
abbrev pub FitsEnd : Rule → Option (List ℕ × Verdict) → Verdict → List (Names × Stamp) → Type 0
FitsEnd rule (Some denied) verdict writes = (verdict ≡ denied.1) × (writes ≡ [])
FitsEnd rule None Good writes = map (λ (w : Names × Stamp). w.0) writes ≡ rule.outputs
FitsEnd rule None (Failed status) writes = (status ≢ 0) × (writes ≡ [])
FitsEnd rule None (IllegalWrite text) writes = writes ≡ []
FitsEnd rule None (Unwritten path) writes = writes ≡ []
FitsEnd rule None (IllegalRead text) writes = ⊥
FitsEnd rule None TooManyReads writes = ⊥

-- a seat's command may end so
abbrev pub CanFinish : Plan → State → ℕ → Verdict → List (Names × Stamp) → Type 0
CanFinish plan state seat verdict writes =
    (running : Running) × (rule : Rule) × Runs plan state seat running rule × FitsEnd rule running.denied verdict writes

-- where an event may happen
abbrev pub IsEnabled : Plan → State → CoreEvent → Type 0
IsEnabled plan state (Claim seat rule) = (seat < 16) × (state.seats seat ≡ None) × IsReady plan state rule
IsEnabled plan state (Ask seat text answer) = CanAsk plan state seat text answer
IsEnabled plan state (Deny seat text verdict) = CanDeny plan state seat text verdict
IsEnabled plan state (Finish seat verdict writes) = CanFinish plan state seat verdict writes
IsEnabled plan state (Stop seat cause) = (seat < 16) × (cause ≢ Bad)

-- the first cause of a stop stays
abbrev pub stopped_by : State → Cause → Option Cause
stopped_by state cause = Some (unwrap_or state.stopped cause)

-- a seat that runs nothing any more
abbrev pub emptied : State → ℕ → State
emptied state seat = record state { seats = changed state.seats seat None }

-- a rule's command asks once more, or asks what it may not
abbrev pub asked : List ℕ → Option Stamp → Running → Running
asked text answer running = record running { asks = running.asks ++ (text, answer) ∷ [] }

-- a rule's command asks what it may not
abbrev pub refused : List ℕ → Verdict → Running → Running
refused text verdict running = record running { denied = Some (text, verdict) }

-- what the end of the rule at a place leaves
abbrev pub ended : Plan → State → ℕ → Verdict → List (Names × Stamp) → State
ended plan state at Good writes = record state { pending = changed state.pending at false; files = with_stamps state.files writes }
ended plan state at verdict writes = record state { bad = changed state.bad at (Some verdict); stopped = if plan.keep_going then state.stopped else stopped_by state Bad }

-- what the end of a seat's command leaves
abbrev pub finished : Plan → State → ℕ → Option Running → Verdict → List (Names × Stamp) → State
finished plan state seat (Some running) verdict writes = ended plan (emptied state seat) running.rule verdict writes
finished plan state seat None verdict writes = state

-- what an event leaves
abbrev pub after : Plan → State → CoreEvent → State
after plan state (Claim seat rule) = record state {
  claimed = changed state.claimed rule true;
  seats = changed state.seats seat (Some (record { rule = rule; asks = []; denied = None }));
}
after plan state (Ask seat text answer) = record state { seats = changed state.seats seat (option_map (asked text answer) (state.seats seat)) }
after plan state (Deny seat text verdict) = record state { seats = changed state.seats seat (option_map (refused text verdict) (state.seats seat)) }
after plan state (Finish seat verdict writes) = finished plan state seat (state.seats seat) verdict writes
after plan state (Stop seat cause) = record (emptied state seat) { stopped = stopped_by state cause }

-- an event may happen, and leaves this
abbrev pub Step : Plan → State → CoreEvent → State → Type 0
Step plan state event next = IsEnabled plan state event × (next ≡ after plan state event)
