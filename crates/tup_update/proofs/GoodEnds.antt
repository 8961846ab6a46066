-- What the log of an update tells of the rules whose command came to a good verdict: each was to be run, and isn't pending any more.
use Rattle.std.proofs.Common.{◌≡◌, ◌≢◌, ℕ, Bool, true, false, List, [], ◌∷◌, Option, Some, refl, sym, ap, subst, ◌∙◌}
use Rattle.std.specs.Prelude.{All, slice_get}
use Rattle.std.proofs.lemmas.Bool.{true≢false}
use Rattle.std.proofs.lemmas.List.Elements.{All-nil, All-cons, All-weaker}
use Rattle.tup_path.specs.Name.{Names}
use Rattle.tup_stamp.specs.declared.Stamp.{Stamp}
use Rattle.tup_site.specs.World.{World}
use Rattle.tup_runner.specs.Next.{Next}
use Rattle.tup_access.specs.declared.verdict.Verdict.{Verdict}
use Rattle.tup_access.specs.declared.verdict.Verdict.TheVariants.{Good, Failed, IllegalRead, IllegalWrite, Unwritten, TooManyReads}
use Rattle.tup_clean.specs.Clean.{is_good}
use Rattle.tup_rule.specs.Rule.{name_of}
use Rattle.tup_rule.specs.declared.rule.Rule.{Rule}
use Rattle.tup_rule.specs.declared.rule.RuleName.{RuleName}
use Rattle.tup_core.specs.Run.{IsRun, end_of}
use Rattle.tup_core.specs.Step.{State, after, emptied, ended, is_reached, opening}
use Rattle.tup_core.specs.declared.event.CoreEvent.{CoreEvent}
use Rattle.tup_core.specs.declared.event.CoreEvent.TheVariants.{Claim, Ask, Deny, Finish, Stop}
use Rattle.tup_core.specs.declared.plan.Plan.{Plan}
use Rattle.tup_core.proofs.Changed.{changed_here}
use Rattle.tup_core.proofs.Orderly.{IsOrderly, finished_is, orderly_after, orderly_opening}
use Rattle.tup_law_board.proofs.Runs.{pending_gone}
use Rattle.tup_promise.specs.GoodEnds.{GoodEnds, IsDoneIn, IsMade, IsMadeEnd}
use Rattle.tup_promise.specs.Kept.{AsksFor}
use Rattle.tup_promise.specs.Needed.{HasName, IsDue, IsDueName}
use Rattle.tup_promise.specs.declared.log.EndedRule.{EndedRule}
use Rattle.tup_promise.specs.declared.log.Log.{Log}
use Rattle.tup_promise.specs.declared.stop.Stop.{Stop as WhyStopped}
use Rattle.tup_promise.proofs.Asked.{one_asked}
use Rattle.tup_ends.proofs.Due.{asked_number}
use Rattle.tup_update.specs.Ended.{TellsFor, ends, ends_at, ends_from, nothing_claimed, told_ends}
use Rattle.tup_update.proofs.Claimed.{Knows, claimed_after, knows_after, knows_none}
use Rattle.tup_update.proofs.Logging.{tells_front}
use Rattle.tup_update.proofs.Telling.{End, all_front, told_each}

-- ---- the rule of a good end was to be run, and isn't pending
-- so it is of an end in a state
abbrev IsGoneIn : Plan → State → End → Type 0
IsGoneIn plan state end = is_good (Some end.1) ≡ true → (is_reached plan end.0 ≡ true) × (state.pending end.0 ≡ false)

module _ (plan : Plan) where
  gone_here : (state : State) (at : ℕ) (given : Verdict) (written : List (Names × Stamp)) → is_good (Some given) ≡ true → (ended plan state at given written).pending at ≡ false
  gone_here state at Good written good = changed_here state.pending at false
  gone_here state at (Failed status) written good = absurd (true≢false (sym good))
  gone_here state at (IllegalRead text) written good = absurd (true≢false (sym good))
  gone_here state at (IllegalWrite text) written good = absurd (true≢false (sym good))
  gone_here state at (Unwritten path) written good = absurd (true≢false (sym good))
  gone_here state at TooManyReads written good = absurd (true≢false (sym good))

  -- and it stays so
  ends_gone : (events : List CoreEvent) (state : State) (claimed : List (Option ℕ)) → Knows claimed state → IsOrderly plan state → IsRun plan state events
      → All (IsGoneIn plan (end_of plan state events)) (ends_from claimed events)
  ends_gone [] state claimed knows orderly run = All-nil (IsGoneIn plan state)
  ends_gone (Claim seat other ∷ events) state claimed knows orderly (enabled, run) =
      let event = Claim seat other in
      ends_gone events (after plan state event) (claimed_after claimed event) (knows_after plan state claimed event enabled knows) (orderly_after plan state event orderly enabled) run
  ends_gone (Ask seat text answer ∷ events) state claimed knows orderly (enabled, run) =
      let event = Ask seat text answer in
      ends_gone events (after plan state event) claimed (knows_after plan state claimed event enabled knows) (orderly_after plan state event orderly enabled) run
  ends_gone (Deny seat text verdict ∷ events) state claimed knows orderly (enabled, run) =
      let event = Deny seat text verdict in
      ends_gone events (after plan state event) claimed (knows_after plan state claimed event enabled knows) (orderly_after plan state event orderly enabled) run
  ends_gone (Finish seat given written ∷ events) state claimed knows orderly (enabled, run) =
      let event = Finish seat given written in
      let new = after plan state event in
      let it = enabled.0 in
      let rest = ends_from claimed events in
      subst (λ (r : Option ℕ). All (IsGoneIn plan (end_of plan new events)) (ends_at r given rest)) (sym (knows.each seat it enabled.2.here))
      (All-cons (IsGoneIn plan (end_of plan new events)) (it.rule, given) rest
      (λ good. (
        orderly.reached it.rule (orderly.pending seat it enabled.2.here),
        pending_gone plan events new it.rule run
            (ap (λ (s : State). s.pending it.rule) (finished_is plan state seat it given written enabled.2.here) ∙ gone_here (emptied state seat) it.rule given written good),
      ))
      (ends_gone events new claimed (knows_after plan state claimed event enabled knows) (orderly_after plan state event orderly enabled) run))
  ends_gone (Stop seat cause ∷ events) state claimed knows orderly (enabled, run) =
      let event = Stop seat cause in
      ends_gone events (after plan state event) claimed (knows_after plan state claimed event enabled knows) (orderly_after plan state event orderly enabled) run

-- ---- of which rules that is told
-- a rule that is told to have come to a good verdict was to be run, and isn't pending
abbrev pub IsGoneAs : Plan → (ℕ → Bool) → EndedRule → Type 0
IsGoneAs plan pending one = is_good (Some one.verdict) ≡ true → (number : ℕ) × HasName plan.rules number one.rule × (is_reached plan number ≡ true) × (pending number ≡ false)

-- so it is of each rule in a log that was told of a run
pub log_gone : (plan : Plan) (files : List (Names × Stamp)) (events : List CoreEvent) → IsRun plan (opening plan files) events → (told : List EndedRule) (stopped : Option WhyStopped) → TellsFor (told_ends plan.rules (ends events)) [] told stopped
    → All (IsGoneAs plan (end_of plan (opening plan files) events).pending) told
log_gone plan files events run told stopped tells =
    let final = end_of plan (opening plan files) events in
    let front = tells_front (told_ends plan.rules (ends events)) [] told stopped tells in
    all_front (IsGoneAs plan final.pending) told front.0
    (subst (All (IsGoneAs plan final.pending)) (sym front.1)
    (told_each plan.rules (IsGoneIn plan final) (IsGoneAs plan final.pending) (λ end rule here gone good. let it = gone good in (end.0, (rule, here, refl), it.0, it.1)) (ends events)
    (ends_gone plan events (opening plan files) nothing_claimed (knows_none plan files) (orderly_opening plan files) run)))

-- ---- what is left to be run
-- where a rule that isn't pending any more is made, and what is due in the world that is left is pending, and was due before
module _ (next : Next) (old new : World) (plan : Plan) (asks_old : AsksFor old plan.rules) (asks_new : AsksFor new plan.rules) (pending : ℕ → Bool)
    (makes : (number : ℕ) (rule : Rule) → slice_get plan.rules number ≡ Some rule → is_reached plan number ≡ true → pending number ≡ false → IsMade next old new (name_of rule))
    (waits : (number : ℕ) → IsDue new plan.rules number → pending number ≡ true) (was : (number : ℕ) → IsDue new plan.rules number → IsDue old plan.rules number) where
  abbrev rules : List Rule
  rules = plan.rules

  -- the rules of a name that is due are those
  same_rules : (name : RuleName) (due : IsDueName new name) → rules ≡ due.rules
  same_rules name due = one_asked new rules due.rules asks_new due.asked

  due_here : (name : RuleName) (due : IsDueName new name) → HasName rules due.at name × IsDue new rules due.at
  due_here name due = subst (λ (list : List Rule). HasName list due.at name × IsDue new list due.at) (sym (same_rules name due)) (due.named, due.due)

  is_made : (one : EndedRule) → IsGoneAs plan pending one → IsMadeEnd next old new one
  is_made one gone good = by (gone good)
    where
      by : (number : ℕ) × HasName rules number one.rule × (is_reached plan number ≡ true) × (pending number ≡ false) → IsMade next old new one.rule
      by (number, (rule, here, named), reached, off) = subst (IsMade next old new) named (makes number rule here reached off)

  none_again : (one : EndedRule) → IsGoneAs plan pending one → IsDoneIn new one
  none_again one gone good due =
      let it = gone good in
      let here = due_here one.rule due in
      let same : it.0 ≡ due.at = asked_number old rules asks_old it.0 due.at one.rule it.1 here.0 in
      true≢false (sym (waits due.at here.1) ∙ ap pending (sym same) ∙ it.3)

  due_then : (name : RuleName) → IsDueName new name → IsDueName old name
  due_then name due = (let here = due_here name due in record { rules = rules; asked = asks_old; at = due.at; named = here.0; due = was due.at here.1 })

  pub good_ends : (log : Log) → All (IsGoneAs plan pending) log.ended → GoodEnds next old new log
  good_ends log gone = record {
    made = All-weaker (IsGoneAs plan pending) (IsMadeEnd next old new) is_made log.ended gone;
    none_again = All-weaker (IsGoneAs plan pending) (IsDoneIn new) none_again log.ended gone;
    no_more = λ some. due_then;
  }
