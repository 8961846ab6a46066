-- What running the rules of a plan comes to (own).
use Rattle.std.specs.Prelude.{◌≡◌, ◌⊎◌, ◌≤◌, ◌<◌, ⊤, ℕ, false, List, Option, None, Some, slice_get}
use Rattle.tup_stamp.specs.declared.Stamp.{Stamp}
use Rattle.tup_path.specs.Name.{Names}
use Rattle.tup_site.specs.declared.fault.SiteFailed.TheVariants.{Fault, TooLarge, Memory}
use Rattle.tup_rule.specs.declared.rule.Rule.{Rule}
use Rattle.tup_rule.specs.declared.rule.RuleName.{RuleName}
use Rattle.tup_rule.specs.Rule.{name_of}
use Rattle.tup_access.specs.declared.verdict.Verdict.{Verdict}
use Rattle.tup_clean.specs.Clean.{is_good}
use Rattle.tup_core.specs.Run.{IsRun, end_of}
use Rattle.tup_core.specs.Step.{opening}
use Rattle.tup_core.specs.declared.event.Cause.TheVariants as cause
use Rattle.tup_core.specs.declared.event.CoreEvent.{CoreEvent}
use Rattle.tup_core.specs.declared.plan.Plan.{Plan}
use Rattle.tup_board.specs.declared.answers.Drained.{Drained}
use Rattle.tup_board.specs.declared.answers.Drained.TheVariants.{Done, Left}
use Rattle.tup_promise.specs.declared.stop.Stop.{Stop}
use Rattle.tup_promise.specs.declared.stop.Stop.TheVariants.{NoStore, BadStore, Sources, UserFile, Bad, Run, Full, Outside}
use Rattle.tup_update.specs.declared.ended.BadRule.{BadRule}

-- ---- the first bad verdict
-- the verdicts of a run of the core that aren't Good have this property
abbrev pub OfBads : Plan → List CoreEvent → ((ℕ → Option Verdict) → Type 0) → Type 0
OfBads plan events Property =
    (files : List (Names × Stamp)) → IsRun plan (opening plan files) events → Property (end_of plan (opening plan files) events).bad

-- the command of the rule at a place is the first in the order of the rules that came to a bad verdict
pub record IsFirstBad (rules : List Rule) (bad : ℕ → Option Verdict) (at : ℕ) (rule : Rule) (verdict : Verdict) : Type 0 where
  pub here : slice_get rules at ≡ Some rule
  pub came : bad at ≡ Some verdict
  pub first : (other : ℕ) → other < at → bad other ≡ None

-- so it is of this rule, or none is bad
abbrev pub IsLowest : List Rule → (ℕ → Option Verdict) → Option BadRule → Type 0
IsLowest rules bad None = (number : ℕ) → bad number ≡ None
IsLowest rules bad (Some one) = IsFirstBad rules bad one.number one.rule.now one.verdict.now

-- it is this rule, with this verdict
abbrev pub IsBadRule : ℕ → Rule → Verdict → Option BadRule → Type 0
IsBadRule number rule verdict result = (one : BadRule) × (result ≡ Some one) × (one.number ≡ number) × (one.rule.now ≡ rule) × (one.verdict.now ≡ verdict)

-- of two rules the one that comes first, and of one rule its later verdict
abbrev pub IsLower : Option BadRule → Option BadRule → Option BadRule → Type 0
IsLower first None result = result ≡ first
IsLower None (Some other) result = result ≡ Some other
IsLower (Some first) (Some other) result = ((other.number ≤ first.number) × (result ≡ Some other)) ⊎ ((first.number < other.number) × (result ≡ Some first))

-- ---- why an update stopped
-- it stopped at the first bad verdict, which this rule's command came to
pub record StopsAtBad (rules : List Rule) (bad : ℕ → Option Verdict) (name : RuleName) (verdict : Verdict) : Type 0 where
  pub at : ℕ
  pub rule : Rule
  pub is : IsFirstBad rules bad at rule verdict
  pub name_is : name ≡ name_of rule
  pub not_good : is_good (Some verdict) ≡ false

-- nothing but a bad verdict stopped an update, or want of memory for what it tells
abbrev pub IsEnd : List Rule → (ℕ → Option Verdict) → Option Stop → Type 0
IsEnd rules bad None = (number : ℕ) → bad number ≡ None
IsEnd rules bad (Some (Bad name verdict)) = StopsAtBad rules bad name verdict
IsEnd rules bad (Some (Outside Memory)) = ⊤
IsEnd rules bad (Some stop) = ⊥

-- why an update stopped that ended so on a board
abbrev pub StopsBy : List Rule → Drained → Option Stop → (ℕ → Option Verdict) → Type 0
StopsBy rules Done stopped bad = IsEnd rules bad stopped
StopsBy rules (Left cause.Bad) stopped bad = IsEnd rules bad stopped
StopsBy rules (Left cause.Site) stopped bad = stopped ≡ Some (Outside Fault)
StopsBy rules (Left (cause.TooLarge bytes)) stopped bad = stopped ≡ Some (Outside (TooLarge bytes))
StopsBy rules (Left cause.Full) stopped bad = stopped ≡ Some Full
StopsBy rules (Left cause.Run) stopped bad = stopped ≡ Some Run
StopsBy rules (Left cause.Memory) stopped bad = stopped ≡ Some (Outside Memory)

-- what may stop an update whose rules are run
abbrev pub StopsRunning : Stop → Type 0
StopsRunning NoStore = ⊥
StopsRunning (BadStore offset) = ⊥
StopsRunning (Sources fault) = ⊥
StopsRunning (UserFile path written found) = ⊥
StopsRunning (Bad name verdict) = ⊤
StopsRunning Run = ⊤
StopsRunning Full = ⊤
StopsRunning (Outside failed) = ⊤
