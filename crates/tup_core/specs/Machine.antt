-- What the code of a core keeps, the state that it stands for, and how it answers an event (own).
use Rattle.std.specs.Prelude.{◌≡◌, ◌==◌, ℕ, ◌<◌, ◌≤◌, Bool, true, false, not, ◌&&◌, is_none, List, length, Option, None, Some, Result, Ok, Err, slice_get, slice_set, unwrap_or}
use Rattle.tup_stamp.specs.declared.Stamp.{Stamp}
use Rattle.tup_path.specs.Name.{Names}
use Rattle.tup_rule.specs.declared.rule.Rule.{Rule}
use Rattle.tup_rule.specs.Rule.{writes}
use Rattle.tup_access.specs.Access.{access}
use Rattle.tup_access.specs.Inputs.{AreInputsOfAll}
use Rattle.tup_access.specs.declared.verdict.Verdict.{Verdict}
use Rattle.tup_access.specs.declared.verdict.Access.TheVariants.{Yes}
use Rattle.tup_access.specs.declared.verdict.Verdict.TheVariants.{Good}
use Rattle.tup_core.specs.declared.event.CoreEvent.{CoreEvent}
use Rattle.tup_core.specs.declared.event.CoreEvent.TheVariants.{Claim, Ask, Deny, Finish, Stop}
use Rattle.tup_core.specs.declared.fault.CoreFault.{CoreFault}
use Rattle.tup_core.specs.declared.fault.CoreFault.TheVariants.{NotEnabled, Memory}
use Rattle.tup_core.specs.declared.plan.Plan.{Plan}
use Rattle.tup_core.specs.declared.running.Running.{Running}
use Rattle.tup_core.specs.declared.machine.Core.{Core}
use Rattle.tup_core.specs.Step.{State, Step, IsEnabled, FitsEnd, Runs, is_reached}
use Rattle.tup_core.specs.Waiting.{flag, number, IsWaiting}
use Rattle.tup_core.specs.Outputs.{AreOutputs}
use Rattle.tup_core.specs.Files.{stamp_in, IsSeenAt, HasRoomFor}
use Rattle.tup_core.specs.Ending.{IsUnrefused}

-- what stands at a place, which is nothing past the end
abbrev pub entry : {A : Type 0} → List (Option A) → ℕ → Option A
entry entries at = unwrap_or (slice_get entries at) None

-- the state that a core stands for
abbrev pub state_of : Core → State
state_of core = record {
  pending = flag core.pending.items;
  claimed = flag core.claimed.items;
  seats = entry core.seats.items;
  files = stamp_in core.files;
  bad = entry core.bad.items;
  stopped = core.stopped;
}

-- whether a rule is ready, told by flags and counts
abbrev pub ready_test : Core → ℕ → Bool
ready_test core at = is_none core.stopped && flag core.pending.items at && not (flag core.claimed.items at) && number core.waiting.waits.items at == 0

-- a rule of the plan's reach that waits for none
abbrev pub IsSettled : Plan → Core → ℕ → Type 0
IsSettled plan core at = (at < length plan.rules) × (number core.waiting.waits.items at ≡ 0) × (is_reached plan at ≡ true)

-- what a core keeps for its plan: a place for each rule, 16 seats, the outputs of all, room for the stamps of those that the reach makes,
-- what rules declare, and what they wait for; what runs, and what was reached and is pending no longer, waits for none
pub record IsCore (plan : Plan) (core : Core) : Type 0 where
  pub pending : length core.pending.items ≡ length plan.rules
  pub claimed : length core.claimed.items ≡ length plan.rules
  pub bad : length core.bad.items ≡ length plan.rules
  pub seats : length core.seats.items ≡ 16
  pub generated : AreOutputs plan.rules core.generated
  pub inputs : AreInputsOfAll plan.rules core.inputs.items
  pub room : HasRoomFor plan.rules (is_reached plan) core.files
  pub waiting : IsWaiting plan.rules (is_reached plan) core.pending.items core.waiting
  pub reached : (at : ℕ) → flag core.pending.items at ≡ true → is_reached plan at ≡ true
  pub settled : (at : ℕ) → is_reached plan at ≡ true → flag core.pending.items at ≡ false → number core.waiting.waits.items at ≡ 0
  pub running : (seat : ℕ) (running : Running) → entry core.seats.items seat ≡ Some running → IsSettled plan core running.rule

-- an event for which memory may be wanted: what a command asks that was refused nothing, and its bad end
abbrev pub TakesMemory : State → CoreEvent → Type 0
TakesMemory state (Claim seat rule) = ⊥
TakesMemory state (Ask seat text answer) = IsUnrefused (state.seats seat)
TakesMemory state (Deny seat text verdict) = IsUnrefused (state.seats seat)
TakesMemory state (Finish seat Good writes) = ⊥
TakesMemory state (Finish seat verdict writes) = IsUnrefused (state.seats seat)
TakesMemory state (Stop seat cause) = ⊥

-- what has to be looked up for an event: for an ask, the stamp at the opening of the path that is asked for, unless the path is an own output
abbrev pub IsSeenFor : Plan → Core → CoreEvent → Option Stamp → Type 0
IsSeenFor plan core (Ask seat text answer) seen =
    (running : Running) (rule : Rule) (path : Names) → Runs plan (state_of core) seat running rule → access plan.rules rule (length running.asks) text ≡ Yes path
    → writes rule path ≡ false → IsSeenAt core.files path seen
IsSeenFor plan core event seen = Unit {0}

-- how a core answers an event, and what it is then
pub record Answers {T : Type 0} (plan : Plan) (old : Core) (event : CoreEvent) (result : Result T CoreFault) (new : Core) : Type 0 where
  pub core : IsCore plan new
  -- it goes by the same files at its opening
  pub first : new.files.first ≡ old.files.first
  -- it takes the event where it is enabled
  pub ok : (done : T) → result ≡ Ok done → Step plan (state_of old) event (state_of new)
  pub not_enabled : result ≡ Err NotEnabled → IsEnabled plan (state_of old) event → ⊥
  -- and else is as it was
  pub memory : result ≡ Err Memory → TakesMemory (state_of old) event
  pub unchanged : (fault : CoreFault) → result ≡ Err fault → state_of new ≡ state_of old

-- a core takes an event
pub record Takes (plan : Plan) (old : Core) (event : CoreEvent) (new : Core) : Type 0 where
  pub core : IsCore plan new
  pub first : new.files.first ≡ old.files.first
  pub step : Step plan (state_of old) event (state_of new)

-- the rule at a place is pending no longer
pub record Completes (at : ℕ) (old new : Core) : Type 0 where
  pub pending : new.pending.items ≡ slice_set old.pending.items at false
  pub waiting : (rules : List Rule) (reached : ℕ → Bool) → IsWaiting rules reached old.pending.items old.waiting → IsWaiting rules reached new.pending.items new.waiting
  pub fewer : (other : ℕ) → number new.waiting.waits.items other ≤ number old.waiting.waits.items other
  pub rest : new ≡ record old { pending = new.pending; waiting = new.waiting }

-- a seat runs the rule at this place, and its command may end so
pub record MayEnd (plan : Plan) (core : Core) (seat : ℕ) (verdict : Verdict) (writes : List (Names × Stamp)) (at : ℕ) : Type 0 where
  pub running : Running
  pub rule : Rule
  pub runs : Runs plan (state_of core) seat running rule
  pub fits : FitsEnd rule running.denied verdict writes
  pub here : at ≡ running.rule
