-- What the entries of one seat tell (own): the events of its number in a board's history, each once and in order.
use Rattle.std.specs.Prelude.{◌≡◌, ◌⊎◌, ◌==◌, ℕ, List, [], ◌∷◌, Option, None, Some, Result, Ok, Err, filter, map, option_map, slice_get}
use Rattle.tup_path.specs.Name.{Names}
use Rattle.tup_rule.specs.declared.rule.Rule.{Rule}
use Rattle.tup_runner.specs.Next.{Asks}
use Rattle.tup_runner.specs.declared.step.Ended.{Ended}
use Rattle.tup_access.specs.Judge.{judge}
use Rattle.tup_access.specs.declared.verdict.Verdict.{Verdict}
use Rattle.tup_core.specs.declared.event.Cause.{Cause}
use Rattle.tup_core.specs.declared.event.CoreEvent.{CoreEvent}
use Rattle.tup_core.specs.declared.event.CoreEvent.TheVariants.{Claim, Ask, Deny, Finish, Stop}
use Rattle.tup_core.specs.declared.plan.Plan.{Plan}
use Rattle.tup_core.specs.declared.running.Running.{Running}
use Rattle.tup_core.specs.Honest.{stamped}
use Rattle.tup_core.specs.Step.{asked, refused}
use Rattle.tup_schedule.specs.declared.claimed.Claimed.{Claimed}
use Rattle.tup_schedule.specs.declared.claimed.Claimed.TheVariants.{Rule as Gives, Wait, Over}
use Rattle.tup_rule_outputs.specs.declared.fault.BoardFault.{BoardFault}
use Rattle.tup_rule_outputs.specs.declared.fault.BoardFault.TheVariants.{TooLarge}
use Rattle.tup_board.specs.Board.{seat_of}
use Rattle.tup_board.specs.Calls.{AreStamped}
use Rattle.tup_board.specs.Cause.{stops_by}

-- the events of a seat's number, each once and in order
abbrev pub entries_at : ℕ → List CoreEvent → List CoreEvent
entries_at number events = filter (λ event. seat_of event == number) events

-- what a seat runs after one of its entries
abbrev pub after_entry : Option Running → CoreEvent → Option Running
after_entry runs (Claim seat rule) = Some (record { rule = rule; asks = []; denied = None })
after_entry runs (Ask seat text answer) = option_map (asked text answer) runs
after_entry runs (Deny seat text verdict) = option_map (refused text verdict) runs
after_entry runs (Finish seat given files) = None
after_entry runs (Stop seat cause) = None

-- and after all
abbrev pub runs_after : Option Running → List CoreEvent → Option Running
runs_after runs [] = runs
runs_after runs (entry ∷ entries) = runs_after (after_entry runs entry) entries

-- by its entries a seat runs this, and no ask of its command was denied
pub record GoesOnBy (plan : Plan) (entries : List CoreEvent) : Type 0 where
  pub running : Running
  pub rule : Rule
  pub runs : runs_after None entries ≡ Some running
  pub placed : slice_get plan.rules running.rule ≡ Some rule
  pub granted : running.denied ≡ None

-- or one was, with this verdict
pub record WasDeniedBy (plan : Plan) (entries : List CoreEvent) : Type 0 where
  pub running : Running
  pub rule : Rule
  pub text : List ℕ
  pub verdict : Verdict
  pub runs : runs_after None entries ≡ Some running
  pub placed : slice_get plan.rules running.rule ≡ Some rule
  pub denied : running.denied ≡ Some (text, verdict)

-- a report on this command over these asks is one of what a seat runs by its entries
pub record IsReportBy (plan : Plan) (entries : List CoreEvent) (dir : Names) (text : List ℕ) (asks : Asks) : Type 0 where
  pub it : GoesOnBy plan entries
  pub dir_is : dir ≡ it.rule.dir
  pub text_is : text ≡ it.rule.text
  pub asks_are : AreStamped it.running.asks asks

-- the entries that a claim adds
abbrev pub claim_entries : ℕ → Claimed → List CoreEvent
claim_entries seat (Gives rule) = Claim seat rule ∷ []
claim_entries seat Wait = []
claim_entries seat Over = []

-- those that the end of a command adds, by its answer
abbrev pub EndsBy : Plan → List CoreEvent → ℕ → Ended → Result Verdict BoardFault → List CoreEvent → Type 0
EndsBy plan entries seat ended (Ok given) added =
    (it : GoesOnBy plan entries) × (given ≡ (judge it.rule ended).verdict) × (added ≡ Finish seat given (map stamped (judge it.rule ended).files) ∷ [])
EndsBy plan entries seat ended (Err (TooLarge bytes)) added = ⊥
EndsBy plan entries seat ended (Err fault) added = added ≡ stops_by seat fault

-- those that a stop adds: none only where the seat runs nothing
abbrev pub StopsBy : List CoreEvent → ℕ → Cause → List CoreEvent → Type 0
StopsBy entries seat cause added = (added ≡ Stop seat cause ∷ []) ⊎ ((runs_after None entries ≡ None) × (added ≡ []))
