-- A rule that is bad on a board was run, and has its verdict in the clean build.
use Rattle.std.proofs.Common.{◌≡◌, ◌⊎◌, inl, inr, ℕ, ◌≤◌, true, List, [], ◌∷◌, map, Some, IsTrue, sym, ap, subst, ◌∙◌}
use Rattle.std.specs.Prelude.{slice_get}
use Rattle.std.proofs.lemmas.Option.{none-some}
use Rattle.tup_path.specs.Name.{Names}
use Rattle.tup_site.specs.Known.{IsKnown, KnowsTree}
use Rattle.tup_site.specs.World.{World}
use Rattle.tup_site.specs.declared.site.Site.{Ghosts as Site}
use Rattle.tup_stamp.specs.declared.Stamp.{Stamp}
use Rattle.tup_rule.specs.declared.rule.RuleName.{RuleName}
use Rattle.tup_runner.specs.declared.runner.Runner.{Ghosts as Runner}
use Rattle.tup_access.specs.declared.verdict.Verdict.{Verdict}
use Rattle.tup_access.specs.declared.verdict.Verdict.TheVariants.{Good, Failed, IllegalRead, IllegalWrite, Unwritten, TooManyReads}
use Rattle.tup_clean.specs.Clean.{Build}
use Rattle.tup_core.specs.Run.{IsRun, end_of}
use Rattle.tup_core.specs.Step.{IsEnabled, State, after, changed, emptied, ended}
use Rattle.tup_core.specs.declared.event.CoreEvent.{CoreEvent}
use Rattle.tup_core.specs.declared.event.CoreEvent.TheVariants.{Claim, Ask, Deny, Finish, Stop}
use Rattle.tup_core.specs.declared.plan.Plan.{Plan}
use Rattle.tup_core.proofs.Changed.{changed_cases}
use Rattle.tup_core.proofs.CleanRuns.{bad_clean}
use Rattle.tup_core.proofs.Orderly.{IsOrderly, claimed_stays, finished_is, orderly_after, orderly_opening}
use Rattle.tup_board.specs.Board.{BoardState, course_of, first_graph, plan_of, start, state}
use Rattle.tup_board.specs.Calls.{commands}
use Rattle.tup_board.specs.Sound.{Before, IsSound}
use Rattle.tup_law_phases.specs.Planning.{kept_of}
use Rattle.tup_promise.specs.Blamed.{IsBadRule}
use Rattle.tup_promise.specs.Needed.{HasName}
use Rattle.tup_promise.specs.Prepared.{IsPrepared}
use Rattle.tup_promise.specs.Ran.{command_of}
use Rattle.tup_ends.proofs.Due.{among_ran, asked}
use Rattle.tup_ends.proofs.Quiet.{is_planned, same_build}

-- each bad rule was claimed
abbrev BadWasClaimed : State → Type 0
BadWasClaimed state = (at : ℕ) (given : Verdict) → state.bad at ≡ Some given → state.claimed at ≡ true

noted : (state : State) (place : ℕ) (verdict : Verdict) → state.claimed place ≡ true → BadWasClaimed state → (at : ℕ) (given : Verdict) → changed state.bad place (Some verdict) at ≡ Some given → state.claimed at ≡ true
noted state place verdict claimed was at given is = by (changed_cases state.bad place (Some verdict) at)
  where
    by : ((at ≡ place) × (changed state.bad place (Some verdict) at ≡ Some verdict)) ⊎ ((at ≡ place → ⊥) × (changed state.bad place (Some verdict) at ≡ state.bad at)) → state.claimed at ≡ true
    by (inl here) = ap state.claimed here.0 ∙ claimed
    by (inr there) = was at given (sym there.1 ∙ is)

module _ (plan : Plan) where
  ended_claimed : (state : State) (place : ℕ) (verdict : Verdict) (written : List (Names × Stamp)) → state.claimed place ≡ true → BadWasClaimed state → BadWasClaimed (ended plan state place verdict written)
  ended_claimed state place Good written claimed was = was
  ended_claimed state place (Failed status) written claimed was = noted state place (Failed status) claimed was
  ended_claimed state place (IllegalRead text) written claimed was = noted state place (IllegalRead text) claimed was
  ended_claimed state place (IllegalWrite text) written claimed was = noted state place (IllegalWrite text) claimed was
  ended_claimed state place (Unwritten path) written claimed was = noted state place (Unwritten path) claimed was
  ended_claimed state place TooManyReads written claimed was = noted state place TooManyReads claimed was

  claimed_after : (state : State) (event : CoreEvent) → IsOrderly plan state → IsEnabled plan state event → BadWasClaimed state → BadWasClaimed (after plan state event)
  claimed_after state (Claim seat rule) orderly enabled was = λ at given is. claimed_stays plan state (Claim seat rule) enabled at (was at given is)
  claimed_after state (Ask seat text answer) orderly enabled was = was
  claimed_after state (Deny seat text verdict) orderly enabled was = was
  claimed_after state (Finish seat given written) orderly (running, rule, runs, fits) was =
      subst BadWasClaimed (sym (finished_is plan state seat running given written runs.here))
      (ended_claimed (emptied state seat) running.rule given written (orderly.claimed seat running runs.here) was)
  claimed_after state (Stop seat cause) orderly enabled was = was

  pub claimed_run : (events : List CoreEvent) (state : State) → IsOrderly plan state → IsRun plan state events → BadWasClaimed state → BadWasClaimed (end_of plan state events)
  claimed_run [] state orderly run was = was
  claimed_run (event ∷ events) state orderly (enabled, run) was =
      claimed_run events (after plan state event) (orderly_after plan state event orderly enabled) run (claimed_after state event orderly enabled was)

module _ {S R : Type 0} (site : Site S) (runner : Runner R) (b : BoardState S) (sound : IsSound site runner b) (tells : IsTrue site.tells) (told : IsTrue runner.tells) (first : World) (since : ℕ)
    (prepared : IsPrepared site runner.next first since b.opening.graph b.opening.site)
    (earlier : (t u : ℕ) (w : World) → t ≤ u → site.left_since b.opening.site u w → site.left_since b.opening.site t w) (present : Before site b (site.world b.opening.site))
    (knows : KnowsTree (site.known b.opening.site) (site.world b.opening.site).tree) (apart : IsKnown (site.known b.site)) (ran : List RuleName)
    (same : map command_of ran ≡ commands (plan_of b) b.history) (at : ℕ) (verdict : Verdict) (name : RuleName) (bad : (state b).bad at ≡ Some verdict) (named : HasName (plan_of b).rules at name) where
  abbrev plan : Plan
  plan = plan_of b

  was_claimed : (state b).claimed at ≡ true
  was_claimed = claimed_run plan b.history (start b) (orderly_opening plan (course_of b).files) sound.run (λ other given is. absurd (none-some given is)) at verdict bad

  pub is_bad_rule : IsBadRule runner.next first ran name verdict
  is_bad_rule = record {
    was_run = among_ran site runner b sound ran same at name was_claimed named;
    rules = plan.rules;
    asked = asked site runner b sound ran same runner.next first since prepared;
    at = at;
    named = named;
    verdict_is = (
      prepared.rules.0,
      prepared.rules.1,
      subst (λ (build : Build). slice_get build.verdicts at ≡ Some (Some verdict)) (same_build site runner b sound tells told first since prepared earlier present knows apart)
          (bad_clean runner.next (site.known b.site) (kept_of (first_graph b)) (site.world b.opening.site).tree plan (course_of b).files
          (is_planned site runner b sound tells told first since prepared earlier present knows apart) b.history sound.run (sound.honest tells told) at verdict bad),
    );
  }
