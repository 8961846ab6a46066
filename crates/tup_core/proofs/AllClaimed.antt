-- Where nothing goes on and nothing is stopped, each rule to be run was claimed whose declared producers are all Good.
use Rattle.std.proofs.Common.{◌≡◌, ◌≢◌, ℕ, Bool, true, false, List, [], ◌∷◌, Option, Some, refl, sym, ap, ◌∙◌, subst, inl, inr}
use Rattle.std.specs.Prelude.{slice_get}
use Rattle.std.proofs.lemmas.Bool.{true≢false, cases_Bool, false_from_ne_true}
use Rattle.std.proofs.lemmas.Option.{same_Some, none-some}
use Rattle.tup_path.specs.Name.{Names, Content}
use Rattle.tup_path.specs.Tree.{Tree}
use Rattle.tup_stamp.specs.declared.Stamp.{Stamp}
use Rattle.tup_rule.specs.declared.rule.Rule.{Rule}
use Rattle.tup_rule.specs.Producer.{DeclaredProducer}
use Rattle.tup_rule.proofs.Laws.{producer-trans}
use Rattle.tup_runner.specs.Next.{Next}
use Rattle.tup_access.specs.declared.verdict.Verdict.{Verdict}
use Rattle.tup_access.specs.declared.verdict.Verdict.TheVariants.{Good, Failed, IllegalRead, IllegalWrite, Unwritten, TooManyReads}
use Rattle.tup_clean.specs.Clean.{Build, good_at}
use Rattle.tup_clean.specs.AnyOrder.{AreProducersGood}
use Rattle.tup_clean.proofs.Whole.{good_is}
use Rattle.tup_core.specs.declared.event.CoreEvent.{CoreEvent}
use Rattle.tup_core.specs.declared.event.CoreEvent.TheVariants.{Claim, Ask, Deny, Finish, Stop}
use Rattle.tup_core.specs.declared.plan.Plan.{Plan}
use Rattle.tup_core.specs.Step.{State, changed, opening, is_reached, IsEnabled, emptied, ended, after}
use Rattle.tup_core.specs.Run.{IsRun, end_of}
use Rattle.tup_core.specs.Sound.{IsQuiet}
use Rattle.tup_core.specs.Honest.{IsHonest}
use Rattle.tup_core.specs.Kept.{Kept}
use Rattle.tup_core.specs.Planned.{IsPlanned, sources_of, clean_of}
use Rattle.tup_clean.proofs.Acyclic.{Passes, placed, by_producers}
use Rattle.tup_core.proofs.Changed.{changed_cases}
use Rattle.tup_core.proofs.Orderly.{IsOrderly, orderly_after, orderly_opening, finished_is, claimed_stays}
use Rattle.tup_core.proofs.NeverStuck.{Reason, by_running, by_bad, by_stop, IsAccounted, accounted_opening, accounted_run}
use Rattle.tup_core.proofs.Opening.{acyclic}
use Rattle.tup_core.proofs.CleanRuns.{Holds, sound_at}

-- a rule that isn't pending any more was claimed, and a bad verdict isn't Good
pub record IsSpent (plan : Plan) (state : State) : Type 0 where
  pub claimed : (at : ℕ) → is_reached plan at ≡ true → state.pending at ≡ false → state.claimed at ≡ true
  pub bad : (at : ℕ) (given : Verdict) → state.bad at ≡ Some given → given ≢ Good

pub spent_opening : (plan : Plan) (files : List (Names × Stamp)) → IsSpent plan (opening plan files)
spent_opening plan files = record {
  claimed = λ at reached quiet. absurd (true≢false (sym reached ∙ quiet));
  bad = λ at given is. absurd (none-some given is);
}

-- the end of the command at a place
module _ (plan : Plan) (state : State) (spent : IsSpent plan state) (place : ℕ) (was : state.claimed place ≡ true) where
  bad_spent : (given : Verdict) → given ≢ Good → (new : State) → new.pending ≡ state.pending → new.claimed ≡ state.claimed → new.bad ≡ changed state.bad place (Some given) → IsSpent plan new
  bad_spent given not_good new same_pending same_claimed same_bad = record {
    claimed = λ at reached quiet. ap (λ (c : ℕ → Bool). c at) same_claimed ∙ spent.claimed at reached (sym (ap (λ (p : ℕ → Bool). p at) same_pending) ∙ quiet);
    bad = λ at noted has.
        let now : changed state.bad place (Some given) at ≡ Some noted = sym (ap (λ (b : ℕ → Option Verdict). b at) same_bad) ∙ has in
        elim (changed_cases state.bad place (Some given) at) [
          | inl here ↦ λ good. not_good (same_Some given noted (sym here.1 ∙ now) ∙ good)
          | inr there ↦ spent.bad at noted (sym there.1 ∙ now)
        ];
  }

  ended_spent : (given : Verdict) (written : List (Names × Stamp)) → IsSpent plan (ended plan state place given written)
  ended_spent Good written = record {
    claimed = λ at reached quiet. elim (changed_cases state.pending place false at) [
      | inl itself ↦ ap state.claimed itself.0 ∙ was
      | inr other ↦ spent.claimed at reached (sym other.1 ∙ quiet)
    ];
    bad = spent.bad;
  }
  ended_spent (Failed status) written = bad_spent (Failed status) (λ e. cc e) _ refl refl refl
  ended_spent (IllegalRead text) written = bad_spent (IllegalRead text) (λ e. cc e) _ refl refl refl
  ended_spent (IllegalWrite text) written = bad_spent (IllegalWrite text) (λ e. cc e) _ refl refl refl
  ended_spent (Unwritten path) written = bad_spent (Unwritten path) (λ e. cc e) _ refl refl refl
  ended_spent TooManyReads written = bad_spent TooManyReads (λ e. cc e) _ refl refl refl

pub spent_after : (plan : Plan) (state : State) (event : CoreEvent) → IsOrderly plan state → IsSpent plan state → IsEnabled plan state event → IsSpent plan (after plan state event)
spent_after plan state (Claim seat rule) orderly spent enabled = record {
  claimed = λ at reached quiet. claimed_stays plan state (Claim seat rule) enabled at (spent.claimed at reached quiet);
  bad = spent.bad;
}
spent_after plan state (Ask seat text answer) orderly spent enabled = record { claimed = spent.claimed; bad = spent.bad }
spent_after plan state (Deny seat text given) orderly spent enabled = record { claimed = spent.claimed; bad = spent.bad }
spent_after plan state (Finish seat given written) orderly spent (running, rule, runs, fits) =
    subst (λ (s : State). IsSpent plan s) (sym (finished_is plan state seat running given written runs.here))
    (ended_spent plan (emptied state seat) (record { claimed = spent.claimed; bad = spent.bad }) running.rule (orderly.claimed seat running runs.here) given written)
spent_after plan state (Stop seat cause) orderly spent enabled = record { claimed = spent.claimed; bad = spent.bad }

spent_run : (plan : Plan) (events : List CoreEvent) (state : State) → IsOrderly plan state → IsSpent plan state → IsRun plan state events → IsSpent plan (end_of plan state events)
spent_run plan [] state orderly spent run = spent
spent_run plan (event ∷ events) state orderly spent (enabled, run) =
    spent_run plan events (after plan state event) (orderly_after plan state event orderly enabled) (spent_after plan state event orderly spent enabled) run

-- ---- down the declared producers

-- a rule to be run is claimed where its producers are Good
abbrev pub Comes : Plan → Build → State → ℕ → Type 0
Comes plan build state at = (rule : Rule) → slice_get plan.rules at ≡ Some rule → is_reached plan at ≡ true → AreProducersGood plan.rules build.verdicts rule → state.claimed at ≡ true

module _ (known : List Content) (plan : Plan) (sources : Tree) (build : Build) (begun : Names → Option Stamp) (state : State) (sound : Holds known plan sources build begun state) (accounted : IsAccounted state)
    (spent : IsSpent plan state) (quiet : IsQuiet plan state) where
  -- a claimed rule that is Good in the build isn't pending any more
  not_waiting : (at : ℕ) → good_at build.verdicts at ≡ true → Reason state at → ⊥
  not_waiting at good (by_running (seat, running, here, is)) = none-some running (sym (quiet.none_runs seat) ∙ here)
  not_waiting at good (by_bad given is) =
      spent.bad at given is (same_Some given Good (same_Some _ _ (sym (sound.faithful.bad at given is) ∙ good_is build.verdicts at good)))
  not_waiting at good (by_stop cause is) = none-some cause (sym quiet.going ∙ is)

  comes : Passes plan.rules (Comes plan build state)
  comes at reader there behind rule here reached good =
      let same : reader ≡ rule = same_Some reader rule (sym there ∙ here) in
      elim (cases_Bool (state.claimed at)) [
        | inl claimed ↦ claimed
        | inr unclaimed ↦ elim (cases_Bool (state.pending at)) [
          | inr done ↦ spent.claimed at reached done
          | inl waiting ↦ absurd (quiet.none_ready at (record {
            pending = waiting;
            unclaimed = unclaimed;
            going = quiet.going;
            clear = (
              rule,
              here,
              λ other produces. false_from_ne_true (state.pending other) (λ other_waits.
                  let found = placed plan.rules rule other produces in
                  let claimed = behind other (subst (λ (r : Rule). DeclaredProducer plan.rules r other) (sym same) produces) found.0 found.1 (sound.orderly.reached other other_waits)
                  (λ further beyond. good further (producer-trans plan.rules rule found.0 other further produces found.1 beyond)) in
                  not_waiting other (good other produces) (accounted.reason other claimed other_waits)),
            );
          }))
        ]
      ]

pub all_claimed : (next : Next) (known : List Content) (kept : Kept) (tree : Tree) (plan : Plan) (files : List (Names × Stamp)) (events : List CoreEvent) → IsPlanned next known kept tree plan files →
    IsRun plan (opening plan files) events → IsHonest next known plan (opening plan files) events → IsQuiet plan (end_of plan (opening plan files) events) →
    (at : ℕ) (rule : Rule) → slice_get plan.rules at ≡ Some rule → is_reached plan at ≡ true → AreProducersGood plan.rules (clean_of next kept tree plan).verdicts rule →
    (end_of plan (opening plan files) events).claimed at ≡ true
all_claimed next known kept tree plan files events planned run honest quiet at rule here reached good =
    let state = end_of plan (opening plan files) events in
    by_producers plan.rules (acyclic next known kept tree plan files planned) (Comes plan (clean_of next kept tree plan) state)
    (comes known plan (sources_of kept tree) (clean_of next kept tree plan) (opening plan files).files state (sound_at next known kept tree plan files planned events run honest)
    (accounted_run plan events (opening plan files) (accounted_opening plan files) run)
    (spent_run plan events (opening plan files) (orderly_opening plan files) (spent_opening plan files) run) quiet)
    at rule here rule here reached good
