-- How the begins and the ends of a history follow each other (own).
use Rattle.std.specs.Prelude.{◌≡◌, ◌≤◌, ◌+◌, ◌*◌, [], List, Option, None, Some, length, vec_capacity, vec_len}
use Rattle.std.specs.List.{filter_map}
use Rattle.tup_core.specs.declared.event.CoreEvent.{CoreEvent}
use Rattle.tup_core.specs.declared.event.CoreEvent.TheVariants.{Claim, Ask, Deny, Finish, Stop}
use Rattle.tup_core.specs.declared.plan.Plan.{Plan}
use Rattle.tup_promise.specs.declared.log.Step.{Step}
use Rattle.tup_promise.specs.declared.log.Step.TheVariants.{Begin, End}
use Rattle.tup_update.specs.declared.steps.Steps.{Steps}

-- a claim begins a rule, and a finish ends one
abbrev pub step_of : CoreEvent → Option Step
step_of (Claim seat number) = Some Begin
step_of (Ask seat text answer) = None
step_of (Deny seat text verdict) = None
step_of (Finish seat verdict writes) = Some End
step_of (Stop seat cause) = None

-- the begins and the ends of a history, in its order
abbrev pub steps_of : List CoreEvent → List Step
steps_of history = filter_map step_of history

-- no step is taken, and there is room for a begin and an end of each rule that a plan has to run
pub record HasRoomFor (plan : Plan) (steps : Steps) : Type 0 where
  pub none : steps.taken.items ≡ []
  pub room : vec_len steps.taken + 2 * length plan.reach ≤ vec_capacity steps.taken
