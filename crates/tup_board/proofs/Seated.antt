-- What seats run in a run, and that a file which a command may read is no output that is still to be made.
use Rattle.std.proofs.Common.{◌≡◌, ℕ, zero, suc, ◌<◌, true, false, List, [], ◌∷◌, length, None, Some, refl, sym, ◌∙◌, subst, inl, inr, arith}
use Rattle.std.specs.Prelude.{slice_get}
use Rattle.std.proofs.lemmas.Bool.{true≢false}
use Rattle.std.proofs.lemmas.Option.{none-some}
use Rattle.tup_path.specs.Name.{Names}
use Rattle.tup_stamp.specs.declared.Stamp.{Stamp}
use Rattle.tup_rule.specs.declared.rule.Rule.{Rule}
use Rattle.tup_rule.specs.Rule.{writes}
use Rattle.tup_access.specs.Access.{may_read}
use Rattle.tup_core.specs.declared.event.CoreEvent.{CoreEvent}
use Rattle.tup_core.specs.declared.event.CoreEvent.TheVariants.{Claim, Ask, Deny, Finish, Stop}
use Rattle.tup_core.specs.declared.plan.Plan.{Plan}
use Rattle.tup_core.specs.declared.running.Running.{Running}
use Rattle.tup_core.specs.Run.{IsRun, end_of}
use Rattle.tup_core.specs.Sound.{HasOneMaker, IsInRange}
use Rattle.tup_core.specs.Step.{State, Runs, IsEnabled, after, asked, emptied, ended, opening, refused}
use Rattle.tup_core.proofs.Changed.{changed_cases}
use Rattle.tup_core.proofs.Orderly.{IsOrderly, orderly_after, orderly_opening, finished_is, same_rule, seat_emptied, seats_ended}
use Rattle.tup_core.proofs.Standing.{not_written}
use Rattle.tup_board.specs.Outputs.{IsPending}

-- ---- seats of a run are below 16
pub record AreSeated (state : State) : Type 0 where
  pub within : (seat : ℕ) (running : Running) → state.seats seat ≡ Some running → seat < 16

seated_after : (plan : Plan) (state : State) (event : CoreEvent) → AreSeated state → IsEnabled plan state event → AreSeated (after plan state event)
seated_after plan state (Claim seat rule) seated (within, free, ready) = record {
  within = λ other running now.
      elim (changed_cases state.seats seat (Some (record { rule = rule; asks = []; denied = None })) other) [
        | inl here ↦ subst (λ (n : ℕ). n < 16) (sym here.0) within
        | inr apart ↦ seated.within other running (sym apart.1 ∙ now)
      ];
}
seated_after plan state (Ask seat text answer) seated enabled = record {
  within = λ other running now.
      let was = same_rule state (after plan state (Ask seat text answer)) seat (asked text answer) (λ r. refl) refl other running now in seated.within other was.0 was.1;
}
seated_after plan state (Deny seat text given) seated enabled = record {
  within = λ other running now.
      let was = same_rule state (after plan state (Deny seat text given)) seat (refused text given) (λ r. refl) refl other running now in seated.within other was.0 was.1;
}
seated_after plan state (Finish seat given written) seated (running, rule, runs, fits) =
    let new = ended plan (emptied state seat) running.rule given written in
    subst (λ (s : State). AreSeated s) (sym (finished_is plan state seat running given written runs.here))
    (record {
      within = λ other another now. seated.within other another (seat_emptied state new seat (seats_ended plan (emptied state seat) running.rule given written) other another now).1;
    })
seated_after plan state (Stop seat cause) seated enabled = record {
  within = λ other running now. seated.within other running (seat_emptied state (after plan state (Stop seat cause)) seat refl other running now).1;
}

seated_run : (plan : Plan) (events : List CoreEvent) (state : State) → AreSeated state → IsRun plan state events → AreSeated (end_of plan state events)
seated_run plan [] state seated run = seated
seated_run plan (event ∷ events) state seated (enabled, run) = seated_run plan events (after plan state event) (seated_after plan state event seated enabled) run

orderly_run : (plan : Plan) (events : List CoreEvent) (state : State) → IsOrderly plan state → IsRun plan state events → IsOrderly plan (end_of plan state events)
orderly_run plan [] state orderly run = orderly
orderly_run plan (event ∷ events) state orderly (enabled, run) = orderly_run plan events (after plan state event) (orderly_after plan state event orderly enabled) run

module _ (plan : Plan) (files : List (Names × Stamp)) (events : List CoreEvent) (run : IsRun plan (opening plan files) events) where
  abbrev end : State
  end = end_of plan (opening plan files) events

  pub orderly : IsOrderly plan end
  orderly = orderly_run plan events (opening plan files) (orderly_opening plan files) run

  -- what a seat runs is a rule of the plan
  pub runs_at : IsInRange plan → (seat : ℕ) (running : Running) → end.seats seat ≡ Some running → (rule : Rule) × Runs plan end seat running rule
  runs_at range seat running here =
      let within = range running.rule (orderly.reached running.rule (orderly.pending seat running here)) in
      let placed = placed_at plan.rules running.rule within in
      (placed.0, record { within = (seated_run plan events (opening plan files) (record { within = λ s r now. absurd (none-some r now) }) run).within seat running here; here = here; placed = placed.1 })
    where
      placed_at : (rules : List Rule) (at : ℕ) → at < length rules → (rule : Rule) × (slice_get rules at ≡ Some rule)
      placed_at [] at within = absurd (omega arith)
      placed_at (rule ∷ rules) zero within = (rule, refl)
      placed_at (rule ∷ rules) (suc at) within = placed_at rules at (omega arith)

  -- a file that a command may read, and that is none of its rule's own, is no output that is still to be made
  pub not_to_come : HasOneMaker plan → (seat : ℕ) (running : Running) (rule : Rule) (path : Names) → Runs plan end seat running rule → may_read plan.rules rule path ≡ true → writes rule path ≡ false
      → IsPending plan end path → ⊥
  not_to_come one seat running rule path runs readable foreign pending =
      true≢false (sym pending.2.output ∙ not_written plan end rule pending.2.rule pending.0 path one (orderly.clear seat running rule runs.here runs.placed) (orderly.reached pending.0 pending.1) pending.1 pending.2.here readable foreign)
