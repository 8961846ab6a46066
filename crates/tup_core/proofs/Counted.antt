-- What a seat's command asked, it might ask; what it was refused, it was refused by what it may ask.
use Rattle.std.proofs.Common.{◌≡◌, ℕ, ◌+◌, ◌<◌, ◌≤◌, List, [], ◌∷◌, ◌++◌, length, Option, None, Some, refl, sym, ap, ◌∙◌, subst, inl, inr, length-append, arith}
use Rattle.std.specs.Prelude.{slice_get}
use Rattle.std.specs.Option.{option_map}
use Rattle.std.proofs.lemmas.Option.{same_Some, none-some}
use Rattle.tup_path.specs.Name.{Names}
use Rattle.tup_stamp.specs.declared.Stamp.{Stamp}
use Rattle.tup_rule.specs.declared.rule.Rule.{Rule}
use Rattle.tup_access.specs.declared.verdict.Verdict.{Verdict}
use Rattle.tup_access.specs.declared.verdict.Access.TheVariants.{Yes, No}
use Rattle.tup_access.specs.Access.{access}
use Rattle.tup_access.proofs.Permitted.{access-Yes}
use Rattle.tup_core.specs.declared.event.CoreEvent.{CoreEvent}
use Rattle.tup_core.specs.declared.event.CoreEvent.TheVariants.{Claim, Ask, Deny, Finish, Stop}
use Rattle.tup_core.specs.declared.plan.Plan.{Plan}
use Rattle.tup_core.specs.declared.running.Running.{Running}
use Rattle.tup_core.specs.Step.{State, changed, opening, IsEnabled, asked, refused, emptied, ended, after}
use Rattle.tup_core.specs.Run.{IsRun, end_of}
use Rattle.tup_core.proofs.Changed.{changed_cases}
use Rattle.tup_core.proofs.Orderly.{finished_is, seats_ended, seat_emptied}

-- a running rule asked at most 65,535 times, and what it was refused is what access says
pub record IsCounted (plan : Plan) (running : Running) : Type 0 where
  pub few : length running.asks ≤ 65535
  pub refusal : (rule : Rule) (denied : List ℕ × Verdict) → slice_get plan.rules running.rule ≡ Some rule → running.denied ≡ Some denied → access plan.rules rule (length running.asks) denied.0 ≡ No denied.1

pub record AreCounted (plan : Plan) (state : State) : Type 0 where
  pub each : (seat : ℕ) (running : Running) → state.seats seat ≡ Some running → IsCounted plan running

fresh_counted : (plan : Plan) (at : ℕ) → IsCounted plan (record { rule = at; asks = []; denied = None })
fresh_counted plan at = record { few = few 0 (omega arith); refusal = λ rule denied here is. absurd (none-some denied is) }
  where
    few : (n : ℕ) → n ≤ 65535 → n ≤ 65535
    few n h = h

asked_counted : (plan : Plan) (running : Running) (rule : Rule) (text : List ℕ) (answer : Option Stamp) (path : Names) → running.denied ≡ None →
    access plan.rules rule (length running.asks) text ≡ Yes path → IsCounted plan (asked text answer running)
asked_counted plan running rule text answer path going may = record {
  few = more (length (running.asks ++ (text, answer) ∷ [])) (length running.asks) (length-append running.asks ((text, answer) ∷ [])) (access-Yes plan.rules rule (length running.asks) text path may).early;
  refusal = λ one denied here is. absurd (none-some denied (sym going ∙ is));
}
  where
    more : (n m : ℕ) → n ≡ m + 1 → m < 65535 → n ≤ 65535
    more n m is early = omega arith

denied_counted : (plan : Plan) (running : Running) (rule : Rule) (text : List ℕ) (given : Verdict) → IsCounted plan running → slice_get plan.rules running.rule ≡ Some rule →
    access plan.rules rule (length running.asks) text ≡ No given → IsCounted plan (refused text given running)
denied_counted plan running rule text given counted here refused_so = record {
  few = counted.few;
  refusal = λ one denied there is.
      let ruled : rule ≡ one = same_Some _ _ (sym here ∙ there) in
      let same : (text, given) ≡ denied = same_Some _ _ is in
      subst (λ (d : List ℕ × Verdict). access plan.rules one (length running.asks) d.0 ≡ No d.1) same
      (subst (λ (r : Rule). access plan.rules r (length running.asks) text ≡ No given) ruled refused_so);
}

-- one seat's command changed
changed_counted : (plan : Plan) (state new : State) (seat : ℕ) (change : Running → Running) → AreCounted plan state → new.seats ≡ changed state.seats seat (option_map change (state.seats seat)) →
    ((running : Running) → state.seats seat ≡ Some running → IsCounted plan (change running)) → AreCounted plan new
changed_counted plan state new seat change counted is each = record {
  each = λ other now there.
      let here : changed state.seats seat (option_map change (state.seats seat)) other ≡ Some now = sym (ap (λ (s : ℕ → Option Running). s other) is) ∙ there in
      elim (changed_cases state.seats seat (option_map change (state.seats seat)) other) [
        | inr apart ↦ counted.each other now (sym apart.1 ∙ here)
        | inl same ↦ found (state.seats seat) refl now (sym same.1 ∙ here)
      ];
}
  where
    found : (was : Option Running) → state.seats seat ≡ was → (now : Running) → option_map change was ≡ Some now → IsCounted plan now
    found None e now q = absurd (none-some now q)
    found (Some before) e now q = subst (λ (r : Running). IsCounted plan r) (same_Some _ _ q) (each before e)

pub counted_after : (plan : Plan) (state : State) (event : CoreEvent) → AreCounted plan state → IsEnabled plan state event → AreCounted plan (after plan state event)
counted_after plan state (Claim seat at) counted enabled = record {
  each = λ other now there.
      let fresh : Running = record { rule = at; asks = []; denied = None } in
      elim (changed_cases state.seats seat (Some fresh) other) [
        | inr apart ↦ counted.each other now (sym apart.1 ∙ there)
        | inl same ↦ subst (λ (r : Running). IsCounted plan r) (same_Some fresh now (sym same.1 ∙ there)) (fresh_counted plan at)
      ];
}
counted_after plan state (Ask seat text answer) counted (running, rule, path, runs, going, may, told_so) =
    changed_counted plan state (after plan state (Ask seat text answer)) seat (asked text answer) counted refl
    (λ one here.
    let same : running ≡ one = same_Some _ _ (sym runs.here ∙ here) in
    subst (λ (r : Running). IsCounted plan (asked text answer r)) same (asked_counted plan running rule text answer path going may))
counted_after plan state (Deny seat text given) counted (running, rule, runs, going, refused_so) =
    changed_counted plan state (after plan state (Deny seat text given)) seat (refused text given) counted refl
    (λ one here.
    let same : running ≡ one = same_Some _ _ (sym runs.here ∙ here) in
    subst (λ (r : Running). IsCounted plan (refused text given r)) same (denied_counted plan running rule text given (counted.each seat running runs.here) runs.placed refused_so))
counted_after plan state (Finish seat given written) counted (running, rule, runs, fits) =
    let new = ended plan (emptied state seat) running.rule given written in
    let seats : new.seats ≡ changed state.seats seat None = seats_ended plan (emptied state seat) running.rule given written in
    subst (λ (s : State). AreCounted plan s) (sym (finished_is plan state seat running given written runs.here))
    (record { each = λ other now there. counted.each other now (seat_emptied state new seat seats other now there).1 })
counted_after plan state (Stop seat cause) counted enabled =
    let new = after plan state (Stop seat cause) in
    record { each = λ other now there. counted.each other now (seat_emptied state new seat refl other now there).1 }

counted_run : (plan : Plan) (events : List CoreEvent) (state : State) → AreCounted plan state → IsRun plan state events → AreCounted plan (end_of plan state events)
counted_run plan [] state counted run = counted
counted_run plan (event ∷ events) state counted (enabled, run) = counted_run plan events (after plan state event) (counted_after plan state event counted enabled) run

pub all_counted : (plan : Plan) (files : List (Names × Stamp)) (events : List CoreEvent) → IsRun plan (opening plan files) events → AreCounted plan (end_of plan (opening plan files) events)
all_counted plan files events run = counted_run plan events (opening plan files) (record { each = λ seat running there. absurd (none-some running there) }) run
