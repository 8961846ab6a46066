-- The core of a plan, and all that happened to it, as contracts see that (own).
use Rattle.std.specs.Prelude.{◌≡◌, ◌⊎◌, ℕ, ◌+◌, ◌≤◌, ◌<◌, List, [], ◌∷◌, ◌++◌, length, Option, None, Some, IsSome, refl, slice_get, option_map, ◌-◌}
use Rattle.std.specs.FinMap as finite
use Rattle.std.specs.Coded.{Coded, code_by, coded×, coded_list, coded_ℕ}
use Rattle.tup_path.specs.Name.{Names}
use Rattle.tup_stamp.specs.contracts.Stamp as of_stamp
use Rattle.tup_stamp.specs.declared.Stamp.{Stamp}
use Rattle.tup_rule.specs.declared.rule.Rule.{Rule}
use Rattle.tup_access.specs.declared.verdict.Verdict.{Verdict}
use Rattle.tup_access.specs.declared.verdict.Verdict.TheVariants.{Good}
use Rattle.tup_core.specs.contracts.event.CoreEvent as of_event
use Rattle.tup_core.specs.contracts.plan.Plan as of_plan
use Rattle.tup_core.specs.declared.event.Cause.{Cause}
use Rattle.tup_core.specs.declared.event.CoreEvent.{CoreEvent}
use Rattle.tup_core.specs.declared.event.CoreEvent.TheVariants.{Claim, Finish, Stop}
use Rattle.tup_core.specs.declared.machine.Core.{Core}
use Rattle.tup_core.specs.declared.plan.Plan.{Plan}
use Rattle.tup_core.specs.declared.running.Running.{Running}
use Rattle.tup_schedule.specs.declared.turn.Turn.{Turn}
use Rattle.tup_core.specs.Machine.{entry, state_of, IsCore}
use Rattle.tup_core.specs.Run.{IsRun, end_of}
use Rattle.tup_core.specs.Step.{State, opening, after, IsEnabled, IsReady, Runs}
use Rattle.tup_schedule.specs.Turn.{IsTurn, IsFirstReady, IsSameTurn}
use Rattle.tup_schedule.specs.declared.claimed.Claimed.{Claimed}
use Rattle.tup_schedule.specs.declared.claimed.Claimed.TheVariants.{Rule as Gives, Wait, Over}
use Rattle.tup_schedule.specs.Room.{to_come}

-- a plan, the stamps of the files over which it began, and all that happened since, in its order
pub record CourseState : Type 0 where
  pub plan : Plan
  pub files : List (Names × Stamp)
  pub history : List CoreEvent

-- it is stored as its fields are
abbrev pub course_code : Coded CourseState
course_code =
    code_by (Plan × (List (Names × Stamp) × List CoreEvent))
    (coded× of_plan.the_row.coded (coded× (coded_list (coded× (coded_list (coded_list coded_ℕ)) of_stamp.the_row.coded)) (coded_list of_event.the_row.coded)))
    (λ c. (c.plan, (c.files, c.history))) (λ p. record { plan = p.0; files = p.1.0; history = p.1.1 }) (λ _. refl)

-- the core's state at the opening, and now
abbrev pub first : CourseState → State
first course = opening course.plan course.files

-- the core's state now
abbrev pub now : CourseState → State
now course = end_of course.plan (first course) course.history

-- more happened
abbrev pub with_events : CourseState → List CoreEvent → CourseState
with_events course events = record course { history = course.history ++ events }

-- how the command that a seat runs is to end, once an ask was denied to it
abbrev pub end_at : ℕ → Option Running → Option CoreEvent
end_at seat None = None
end_at seat (Some running) = option_map (λ (denied : List ℕ × Verdict). Finish seat denied.1 []) running.denied

-- what is kept of a course: a core that goes by the files of its opening and stands at its end, which rules may be claimed then, for each seat how its command is to end, and room
pub record IsCourse (course : CourseState) (core : Core) (turn : Turn) (ends : List (Option CoreEvent)) (capacity : ℕ) : Type 0 where
  pub is_core : IsCore course.plan core
  pub by_files : finite.entries core.files.first.value ≡ course.files
  pub at_end : state_of core ≡ now course
  pub is_turn : IsTurn course.plan (now course) turn
  pub run : IsRun course.plan (first course) course.history
  pub many : length ends ≡ 16
  pub at_seats : (seat : ℕ) → seat < 16 → entry ends seat ≡ end_at seat ((now course).seats seat)
  pub room : length course.history + to_come course.plan (now course) ≤ capacity

-- no rule is ready, and no seat runs one
abbrev pub NoneReady : CourseState → Type 0
NoneReady course = (number : ℕ) → IsReady course.plan (now course) number → ⊥

-- no seat runs a rule
abbrev pub NoneRuns : CourseState → Type 0
NoneRuns course = (seat : ℕ) → (now course).seats seat ≡ None

-- a claim: the first rule that is ready; nothing yet, while a rule that runs may make one ready; or nothing any more
abbrev pub Claims : ℕ → CourseState → Claimed → CourseState → Type 0
Claims seat old (Gives number) new = IsFirstReady old.plan (now old) number × (new ≡ with_events old (Claim seat number ∷ []))
Claims seat old Wait new = ((now old).stopped ≡ None) × NoneReady old × (NoneRuns old → ⊥) × (new ≡ old)
Claims seat old Over new = (IsSome (now old).stopped ⊎ (NoneReady old × NoneRuns old)) × (new ≡ old)

-- a stop: a seat that runs nothing adds none where all is stopped
abbrev pub IsStopped : CourseState → ℕ → Type 0
IsStopped course seat = ((now course).seats seat ≡ None) × IsSome (now course).stopped

-- a stop at a seat, by this cause
pub record Stops (seat : ℕ) (cause : Cause) (old new : CourseState) : Type 0 where
  pub none : IsStopped old seat → new ≡ old
  pub one : (IsStopped old seat → ⊥) → new ≡ with_events old (Stop seat cause ∷ [])

-- what a seat runs
pub record RunsRule (course : CourseState) (seat : ℕ) : Type 0 where
  pub running : Running
  pub rule : Rule
  pub runs : Runs course.plan (now course) seat running rule

-- no ask of its command was denied; or one was, and this is the verdict
pub record GoesOn (course : CourseState) (seat : ℕ) : Type 0 where
  pub it : RunsRule course seat
  pub granted : it.running.denied ≡ None

-- an ask of its command was denied, with this verdict
pub record WasDenied (course : CourseState) (seat : ℕ) : Type 0 where
  pub it : RunsRule course seat
  pub text : List ℕ
  pub verdict : Verdict
  pub denied : it.running.denied ≡ Some (text, verdict)

-- the command of a seat ends with the verdict on what it was denied
pub record EndsDenied (seat : ℕ) (old new : CourseState) : Type 0 where
  pub was : WasDenied old seat
  pub adds : new ≡ with_events old (Finish seat was.verdict [] ∷ [])

-- the last that happened is the end of a command
abbrev pub last_event : CourseState → Option CoreEvent
last_event course = slice_get course.history (length course.history - 1)

-- the last that happened is the end of a command, with some verdict
abbrev pub EndsWithFinish : CourseState → Type 0
EndsWithFinish course = (seat : ℕ) × (given : Verdict) × (files : List (Names × Stamp)) × (last_event course ≡ Some (Finish seat given files))

-- the last that happened is the end of a command, with this verdict
abbrev pub IsLastVerdict : CourseState → Verdict → Type 0
IsLastVerdict course given = (seat : ℕ) × (files : List (Names × Stamp)) × (last_event course ≡ Some (Finish seat given files))

-- an event is the Good end of the command at a seat that runs the rule of a number, of which no ask was denied
pub record IsGoodEnd (course : CourseState) (number : ℕ) (event : CoreEvent) : Type 0 where
  pub seat : ℕ
  pub files : List (Names × Stamp)
  pub is : event ≡ Finish seat Good files
  pub it : GoesOn course seat
  pub rule : it.it.running.rule ≡ number
  pub enabled : IsEnabled course.plan (now course) event

-- an event leaves which rules may be claimed unless something is stopped, and how each seat's command is to end
pub record KeepsBeside (course : CourseState) (event : CoreEvent) : Type 0 where
  pub turn : IsSameTurn (now course) (after course.plan (now course) event)
  pub ends : (seat : ℕ) → end_at seat ((after course.plan (now course) event).seats seat) ≡ end_at seat ((now course).seats seat)
