-- What is known of a seat before its course is told what comes next (own).
use Rattle.std.specs.Prelude.{◌≡◌, ℕ, ◌<◌, List, length, None, Some, map, slice_get}
use Rattle.tup_path.specs.Name.{Names}
use Rattle.tup_stamp.specs.declared.Stamp.{Stamp}
use Rattle.tup_rule.specs.declared.rule.Rule.{Rule}
use Rattle.tup_access.specs.Access.{access}
use Rattle.tup_access.specs.declared.verdict.Verdict.{Verdict}
use Rattle.tup_access.specs.declared.verdict.Access.TheVariants.{Yes, No}
use Rattle.tup_core.specs.declared.running.Running.{Running}
use Rattle.tup_schedule.specs.Course.{CourseState, now, GoesOn}

-- a seat that runs nothing
abbrev pub IsFree : CourseState → ℕ → Type 0
IsFree course seat = (seat < 16) × ((now course).seats seat ≡ None)

-- a seat runs this, and it is a rule of the plan
pub record RunsPlanned (course : CourseState) (seat : ℕ) (running : Running) : Type 0 where
  pub here : (now course).seats seat ≡ Some running
  pub rule : Rule
  pub placed : slice_get course.plan.rules running.rule ≡ Some rule

-- a seat whose command, that of the rule with a number, may ask and end
pub record Goes (course : CourseState) (seat number : ℕ) : Type 0 where
  pub it : GoesOn course seat
  pub is_rule : it.it.running.rule ≡ number

-- it may ask for a text, which is this path; or it may not, and this becomes of it
pub record MayBeTold (course : CourseState) (seat number : ℕ) (text : List ℕ) (path : Names) : Type 0 where
  pub goes : Goes course seat number
  pub yes : access course.plan.rules goes.it.it.rule (length goes.it.it.running.asks) text ≡ Yes path

-- it may not ask for a text, and this becomes of it
pub record MayBeDenied (course : CourseState) (seat : ℕ) (text : List ℕ) (verdict : Verdict) : Type 0 where
  pub it : GoesOn course seat
  pub no : access course.plan.rules it.it.rule (length it.it.running.asks) text ≡ No verdict

-- the paths of files with stamps
abbrev pub names_in : List (Names × Stamp) → List Names
names_in files = map (λ (file : Names × Stamp). file.0) files
