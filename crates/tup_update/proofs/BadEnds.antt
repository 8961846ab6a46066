-- What the log of an update tells of the rules whose command came to a bad verdict: all of it is true, and the first of them is blamed.
use Rattle.std.proofs.Common.{◌≡◌, ◌≤◌, ◌<◌, ℕ, false, List, [], ◌∷◌, Option, None, Some, inl, inr, refl, sym, ap, subst, ◌∙◌}
use Rattle.std.specs.Bool.{nat_eq}
use Rattle.std.specs.List.{AllByRecursion, IsDistinct}
use Rattle.std.specs.Prelude.{All}
use Rattle.std.proofs.lemmas.Bool.{cases_lt, eq-eqb, true≢false}
use Rattle.std.proofs.lemmas.List.Elements.{All-nil, All-cons, All-weaker}
use Rattle.std.proofs.lemmas.Option.{none-some, same_Some}
use Rattle.tup_path.specs.Name.{Names}
use Rattle.tup_stamp.specs.declared.Stamp.{Stamp}
use Rattle.tup_site.specs.World.{World}
use Rattle.tup_access.specs.declared.verdict.Verdict.{Verdict}
use Rattle.tup_clean.specs.Clean.{is_good}
use Rattle.tup_rule.specs.declared.rule.Rule.{Rule}
use Rattle.tup_rule.specs.declared.rule.RuleName.{RuleName}
use Rattle.tup_core.specs.Run.{IsRun, end_of}
use Rattle.tup_core.specs.Step.{State, after, emptied, ended, opening}
use Rattle.tup_core.specs.declared.event.CoreEvent.{CoreEvent}
use Rattle.tup_core.specs.declared.event.CoreEvent.TheVariants.{Claim, Ask, Deny, Finish, Stop}
use Rattle.tup_core.specs.declared.plan.Plan.{Plan}
use Rattle.tup_core.proofs.ClaimedOnce.{claimed_once, claimed_reached}
use Rattle.tup_core.proofs.Orderly.{finished_is}
use Rattle.tup_promise.specs.BadEnds.{BlamesFirst, IsFirstBlamed, IsNotBefore}
use Rattle.tup_promise.specs.Kept.{AsksFor}
use Rattle.tup_promise.specs.Needed.{HasName}
use Rattle.tup_promise.specs.declared.log.EndedRule.{EndedRule}
use Rattle.tup_promise.specs.declared.log.Log.{Log}
use Rattle.tup_promise.specs.declared.stop.Stop.{Stop as WhyStopped}
use Rattle.tup_promise.specs.declared.stop.Stop.TheVariants as stop
use Rattle.tup_phases.specs.Prepared.{StopsBefore}
use Rattle.tup_ends.proofs.Due.{asked_number}
use Rattle.tup_update.specs.Ended.{TellsFor, ends, ends_at, ends_from, nothing_claimed, numbers, told_ends}
use Rattle.tup_update.proofs.Claimed.{Knows, claimed_after, knows_after, knows_none}
use Rattle.tup_update.proofs.Ending.{noted_ended}
use Rattle.tup_update.proofs.Logging.{ended_once, tells_front}
use Rattle.tup_update.proofs.Telling.{End, all_front, told_each}

-- a number that stands once in a list stands in no place behind the first
distinct_parts : (number : ℕ) (rest : List ℕ) → IsDistinct nat_eq (number ∷ rest) → AllByRecursion (λ other. nat_eq number other ≡ false) rest × IsDistinct nat_eq rest
unfolding IsDistinct
distinct_parts number rest once = once

-- ---- each bad end is noted
-- none of some ends is of this rule
abbrev IsApart : ℕ → List End → Type 0
IsApart number list = AllByRecursion (λ other. nat_eq number other ≡ false) (numbers list)

-- an end is noted in a state where it is bad
abbrev IsNotedIn : State → End → Type 0
IsNotedIn state end = is_good (Some end.1) ≡ false → state.bad end.0 ≡ Some end.1

module _ (plan : Plan) where
  -- the end of one command leaves what is noted of the rule of another
  noted_still : (state : State) (at : ℕ) (given : Verdict) (written : List (Names × Stamp)) (number : ℕ) → nat_eq number at ≡ false → (ended plan state at given written).bad number ≡ state.bad number
  noted_still state at given written number apart = elim (noted_ended plan state at given written number) [
    | inl same ↦ same.0
    | inr now ↦ absurd (true≢false (sym (eq-eqb number at now.0) ∙ apart))
  ]

  -- and notes a bad verdict of its own
  noted_here : (state : State) (at : ℕ) (given : Verdict) (written : List (Names × Stamp)) → is_good (Some given) ≡ false → (ended plan state at given written).bad at ≡ Some given
  noted_here state at given written bad = elim (noted_ended plan state at given written at) [
    | inl same ↦ elim same.1 [ inl apart ↦ absurd (apart refl) | inr well ↦ absurd (true≢false (sym well ∙ bad)) ]
    | inr now ↦ now.1
  ]

  -- what is noted of a rule of which no end follows stays
  noted_on : (events : List CoreEvent) (state : State) (claimed : List (Option ℕ)) → Knows claimed state → IsRun plan state events → (number : ℕ) → IsApart number (ends_from claimed events)
      → (end_of plan state events).bad number ≡ state.bad number
  noted_on [] state claimed knows run number apart = refl
  noted_on (Claim seat other ∷ events) state claimed knows (enabled, run) number apart =
      let event = Claim seat other in
      noted_on events (after plan state event) (claimed_after claimed event) (knows_after plan state claimed event enabled knows) run number apart
  noted_on (Ask seat text answer ∷ events) state claimed knows (enabled, run) number apart =
      let event = Ask seat text answer in
      noted_on events (after plan state event) claimed (knows_after plan state claimed event enabled knows) run number apart
  noted_on (Deny seat text verdict ∷ events) state claimed knows (enabled, run) number apart =
      let event = Deny seat text verdict in
      noted_on events (after plan state event) claimed (knows_after plan state claimed event enabled knows) run number apart
  noted_on (Finish seat given written ∷ events) state claimed knows (enabled, run) number apart =
      let event = Finish seat given written in
      let it = enabled.0 in
      let rest = ends_from claimed events in
      let parts : IsApart number ((it.rule, given) ∷ rest) = subst (λ (r : Option ℕ). IsApart number (ends_at r given rest)) (knows.each seat it enabled.2.here) apart in
      noted_on events (after plan state event) claimed (knows_after plan state claimed event enabled knows) run number parts.1
      ∙ ap (λ (s : State). s.bad number) (finished_is plan state seat it given written enabled.2.here)
      ∙ noted_still (emptied state seat) it.rule given written number parts.0
  noted_on (Stop seat cause ∷ events) state claimed knows (enabled, run) number apart =
      let event = Stop seat cause in
      noted_on events (after plan state event) claimed (knows_after plan state claimed event enabled knows) run number apart

  -- so at the end of a run in which no rule ended twice each bad end is noted
  ends_noted : (events : List CoreEvent) (state : State) (claimed : List (Option ℕ)) → Knows claimed state → IsRun plan state events → IsDistinct nat_eq (numbers (ends_from claimed events))
      → All (IsNotedIn (end_of plan state events)) (ends_from claimed events)
  ends_noted [] state claimed knows run once = All-nil (IsNotedIn state)
  ends_noted (Claim seat other ∷ events) state claimed knows (enabled, run) once =
      let event = Claim seat other in
      ends_noted events (after plan state event) (claimed_after claimed event) (knows_after plan state claimed event enabled knows) run once
  ends_noted (Ask seat text answer ∷ events) state claimed knows (enabled, run) once =
      let event = Ask seat text answer in
      ends_noted events (after plan state event) claimed (knows_after plan state claimed event enabled knows) run once
  ends_noted (Deny seat text verdict ∷ events) state claimed knows (enabled, run) once =
      let event = Deny seat text verdict in
      ends_noted events (after plan state event) claimed (knows_after plan state claimed event enabled knows) run once
  ends_noted (Finish seat given written ∷ events) state claimed knows (enabled, run) once =
      let event = Finish seat given written in
      let new = after plan state event in
      let it = enabled.0 in
      let here = knows.each seat it enabled.2.here in
      let rest = ends_from claimed events in
      let later = knows_after plan state claimed event enabled knows in
      let parts = distinct_parts it.rule (numbers rest) (subst (λ (r : Option ℕ). IsDistinct nat_eq (numbers (ends_at r given rest))) here once) in
      subst (λ (r : Option ℕ). All (IsNotedIn (end_of plan new events)) (ends_at r given rest)) (sym here)
      (All-cons (IsNotedIn (end_of plan new events)) (it.rule, given) rest
      (λ bad.
      noted_on events new claimed later run it.rule parts.0
      ∙ ap (λ (s : State). s.bad it.rule) (finished_is plan state seat it given written enabled.2.here)
      ∙ noted_here (emptied state seat) it.rule given written bad)
      (ends_noted events new claimed later run parts.1))
  ends_noted (Stop seat cause ∷ events) state claimed knows (enabled, run) once =
      let event = Stop seat cause in
      ends_noted events (after plan state event) claimed (knows_after plan state claimed event enabled knows) run once

-- ---- of which rules that is told
-- if a rule is told to have come to a bad verdict, this is noted of it
abbrev pub IsNotedAs : List Rule → (ℕ → Option Verdict) → EndedRule → Type 0
IsNotedAs rules bad one = is_good (Some one.verdict) ≡ false → (number : ℕ) × HasName rules number one.rule × (bad number ≡ Some one.verdict)

-- so it is of each rule in a log that was told of a run
pub log_noted : (plan : Plan) (files : List (Names × Stamp)) (events : List CoreEvent) → IsRun plan (opening plan files) events → (told : List EndedRule) (stopped : Option WhyStopped) → TellsFor (told_ends plan.rules (ends events)) [] told stopped
    → All (IsNotedAs plan.rules (end_of plan (opening plan files) events).bad) told
log_noted plan files events run told stopped tells =
    let final = end_of plan (opening plan files) events in
    let whole = told_ends plan.rules (ends events) in
    let once = (ended_once plan files events run (claimed_once plan events (opening plan files) run) (claimed_reached plan files events run)).once in
    let front = tells_front whole [] told stopped tells in
    all_front (IsNotedAs plan.rules final.bad) told front.0
    (subst (All (IsNotedAs plan.rules final.bad)) (sym front.1)
    (told_each plan.rules (IsNotedIn final) (IsNotedAs plan.rules final.bad) (λ end rule here noted bad. (end.0, (rule, here, refl), noted bad)) (ends events) (ends_noted plan events (opening plan files) nothing_claimed (knows_none plan files) run once)))

-- ---- which of them is blamed
-- no rule that is told to be bad comes before a place before which none is noted
none_before : (w : World) (rules : List Rule) → AsksFor w rules → (bad : ℕ → Option Verdict) (at : ℕ) → ((other : ℕ) → other < at → bad other ≡ None) → (told : List EndedRule) → All (IsNotedAs rules bad) told
    → All (IsNotBefore rules at) told
none_before w rules asks bad at none told noted = All-weaker (IsNotedAs rules bad) (IsNotBefore rules at) (λ one is is_bad other named. by one (is is_bad) other named) told noted
  where
    by : (one : EndedRule) → (number : ℕ) × HasName rules number one.rule × (bad number ≡ Some one.verdict) → (other : ℕ) → HasName rules other one.rule → at ≤ other
    by one (number, mine, came) other named = elim (cases_lt number at) [
      | inl less ↦ absurd (none-some one.verdict (sym (none number less) ∙ came))
      | inr past ↦ subst (λ (n : ℕ). at ≤ n) (asked_number w rules asks number other one.rule mine named) past
    ]

-- so the rule there is the first
pub first_blamed : (w : World) (rules : List Rule) → AsksFor w rules → (bad : ℕ → Option Verdict) (at : ℕ) → ((other : ℕ) → other < at → bad other ≡ None) → (name : RuleName) → HasName rules at name → (told : List EndedRule)
    → All (IsNotedAs rules bad) told → IsFirstBlamed w told name
first_blamed w rules asks bad at none name named told noted = record { rules = rules; asked = asks; at = at; named = named; first = none_before w rules asks bad at none told noted }

-- an update that stops for no bad rule blames none
pub blames_first : (w : World) (log : Log) (stopped : Option WhyStopped) → ((name : RuleName) (verdict : Verdict) → stopped ≡ Some (stop.Bad name verdict) → IsFirstBlamed w log.ended name) → BlamesFirst w log stopped
blames_first w log None first = tt
blames_first w log (Some stop.NoStore) first = tt
blames_first w log (Some (stop.BadStore offset)) first = tt
blames_first w log (Some (stop.Sources fault)) first = tt
blames_first w log (Some (stop.UserFile path written found)) first = tt
blames_first w log (Some (stop.Bad name verdict)) first = first name verdict refl
blames_first w log (Some stop.Run) first = tt
blames_first w log (Some stop.Full) first = tt
blames_first w log (Some (stop.Outside why)) first = tt

-- nor does one that was stopped before its rules
pub blames_before : (w : World) (log : Log) (by : WhyStopped) → StopsBefore by → BlamesFirst w log (Some by)
blames_before w log by before = blames_first w log (Some by) (λ name verdict is. absurd (subst StopsBefore (same_Some by (stop.Bad name verdict) is) before))
