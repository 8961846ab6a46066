-- What an update promises once its rules were run.
use Rattle.std.proofs.Common.{◌≡◌, inl, inr, ℕ, Bool, List, [], ◌∷◌, ◌++◌, true, false, Option, Some, None, refl, sym, ap, subst, ◌∙◌}
use Rattle.std.specs.FinMap as finite
use Rattle.std.specs.Option.{IfSome, IsSome, is_some}
use Rattle.std.specs.Ordering.{nat_cmp}
use Rattle.std.specs.Prelude.{IsTrue}
use Rattle.std.proofs.lemmas.Bool.{true≢false}
use Rattle.std.proofs.lemmas.Option.{none-some, same_Some}
use Rattle.tup_site.specs.World.{World}
use Rattle.tup_site.specs.declared.fault.SiteFailed.TheVariants as failed
use Rattle.tup_site.specs.declared.site.Site.{Ghosts as Site}
use Rattle.tup_rule.specs.declared.rule.RuleName.{RuleName}
use Rattle.tup_runner.specs.declared.runner.Runner.{Ghosts as Runner}
use Rattle.tup_graph.specs.Graph.{GraphState, is_flagged}
use Rattle.tup_stored_graph.specs.Held.{Held}
use Rattle.tup_runner.specs.Next.{Next}
use Rattle.tup_rule.specs.declared.rule.Rule.{Rule}
use Rattle.tup_access.specs.declared.verdict.Verdict.{Verdict}
use Rattle.tup_core.specs.declared.event.Cause.TheVariants as cause
use Rattle.tup_core.specs.declared.plan.Plan.{Plan}
use Rattle.tup_core.specs.Step.{State}
use Rattle.tup_board.specs.Calls.{Drains}
use Rattle.tup_board.specs.declared.answers.Drained.{Drained}
use Rattle.tup_board.specs.declared.answers.Drained.TheVariants.{Done, Left}
use Rattle.tup_promise.specs.Blamed.{HasFileOf, IsBadRule, IsToBlame}
use Rattle.tup_promise.specs.Crashes.{SourcesStay}
use Rattle.tup_promise.specs.Finished.{IsSettled, ExactlyTheFiles}
use Rattle.tup_promise.specs.Needed.{FlagsWhatWasDue, NamesAllDue, NamesAllThatCan, RunsAll, RunsWhatIsNeeded}
use Rattle.tup_promise.specs.Prepared.{IsPrepared}
use Rattle.tup_promise.specs.declared.log.Log.{Log}
use Rattle.tup_promise.specs.declared.stop.Stop.{Stop}
use Rattle.tup_promise.specs.declared.stop.Stop.TheVariants as stop
use Rattle.tup_promise.proofs.BadEnds.{none_bad as no_bad_ends}
use Rattle.tup_promise.proofs.GoodEnds.{none_good}
use Rattle.tup_phases.specs.Kept.{BlamesSources}
use Rattle.tup_phases.specs.Logged.{BeginsNone}
use Rattle.tup_phases.specs.Prepared.{StopsBefore}
use Rattle.tup_phases.specs.Room.{FillsStore}
use Rattle.tup_ends.specs.Room.{LacksRoomToRun}
use Rattle.tup_ends.proofs.Done.{none_due}
use Rattle.tup_ends.proofs.Due.{none_runs}
use Rattle.tup_ends.proofs.Stated.{kept_stated}
use Rattle.tup_ends.proofs.Staying.{sources_kept}
use Rattle.tup_update.specs.Full.{HasFullCause}
use Rattle.tup_update.specs.Promised.{KeepsSources, Promises, PromisesOver}
use Rattle.tup_update.specs.Run.{IsEnd, StopsAtBad, StopsBy, StopsRunning}
use Rattle.tup_update.proofs.FirstBad.{HasBad}

-- only an update that isn't stopped owes the files
pub files_by : (next : Next) (old new : World) (stopped : Option Stop) → (stopped ≡ None → ExactlyTheFiles next old new None) → ExactlyTheFiles next old new stopped
files_by next old new None files = files refl
files_by next old new (Some stop) files = tt

-- none of the bad verdicts is there
none_bad : (bad : ℕ → Option Verdict) → ((number : ℕ) → bad number ≡ None) → (number : ℕ) → IsSome (bad number) → ⊥
none_bad bad none number some = cc (subst IsSome (none number) some)

-- an update that nothing stopped is done with its board
pub done_by : (plan : Plan) (end : State) (drained : Drained) (stopped : Option Stop) → HasBad plan end → Drains end drained → StopsBy plan.rules drained stopped end.bad → stopped ≡ None → drained ≡ Done
done_by plan end Done stopped has drains stops none = refl
done_by plan end (Left cause.Bad) stopped has (inl is) stops none =
    let some = has is in absurd (none_bad end.bad (subst (λ (s : Option Stop). StopsBy plan.rules (Left cause.Bad) s end.bad) none stops) some.1 some.2)
done_by plan end (Left cause.Bad) stopped has (inr (going, same, some)) stops none =
    absurd (none_bad end.bad (subst (λ (s : Option Stop). StopsBy plan.rules (Left cause.Bad) s end.bad) none stops) some.0 some.1)
done_by plan end (Left cause.Site) stopped has drains stops none = absurd (cc (stops, none))
done_by plan end (Left (cause.TooLarge bytes)) stopped has drains stops none = absurd (cc (stops, none))
done_by plan end (Left cause.Full) stopped has drains stops none = absurd (cc (stops, none))
done_by plan end (Left cause.Run) stopped has drains stops none = absurd (cc (stops, none))
done_by plan end (Left cause.Memory) stopped has drains stops none = absurd (cc (stops, none))

-- ---- an update that ran none, and left the site as it was prepared
-- what it leaves flagged was due
abbrev pub LeavesDue : {S : Type 0} → Site S → Next → Held → S → Type 0
LeavesDue site next graph at = IsTrue site.tells → (first : World) (since : ℕ) → IsPrepared site next first since graph at → FlagsWhatWasDue first (site.world at)

-- it owes no rule where there was no memory
runs_without : (next : Next) (keep_going : Bool) (jobs : ℕ) (first : World) (ran : List RuleName) → RunsAll next keep_going jobs first ran (Some (stop.Outside failed.Memory))
runs_without next true jobs first ran = tt
runs_without next false jobs first ran = tt

-- a log that stayed as it was names no rule still
pub begins_none : (old new : Log) → new ≡ old → BeginsNone old → BeginsNone new
begins_none old new same none = subst BeginsNone (sym same) none

-- and by such a log it ran no more than was needed
runs_none : (next : Next) (keep_going : Bool) (jobs : ℕ) (first : World) (log : Log) (stopped : Option Stop) → log.ran ≡ [] → RunsAll next keep_going jobs first [] stopped → RunsWhatIsNeeded next keep_going jobs first log.ran stopped
runs_none next keep_going jobs first log stopped none all =
    subst (λ (names : List RuleName). RunsWhatIsNeeded next keep_going jobs first names stopped) (sym none) (none_runs next keep_going jobs first stopped all)

pub unchanged : {S R : Type 0} (site : Site S) (runner : Runner R) (keep_going : Bool) (jobs : ℕ) (graph : Held) (at new : S) (log : Log) (stopped : Option Stop) → LeavesDue site runner.next graph at
    → new ≡ at → BeginsNone log → stopped ≡ Some (stop.Outside failed.Memory) → PromisesOver site runner keep_going jobs graph at new log stopped
unchanged {S} site runner keep_going jobs graph at new log stopped due same none is = λ old tells means was.
    subst (λ (one : S). Promises site runner keep_going jobs old one log stopped) (sym same)
    (subst (λ (s : Option Stop). Promises site runner keep_going jobs old at log s) (sym is) (record {
      files = tt;
      needed = record {
        runs = runs_none runner.next keep_going jobs (site.world old) log (Some (stop.Outside failed.Memory)) none.ran (runs_without runner.next keep_going jobs (site.world old) []);
        flagged = due tells (site.world old) (site.moment old) was.prepared;
      };
      crashes = record { later = was.prepared.over.began; kept = was.prepared.over.kept; owned = was.owns };
      states = kept_stated runner.next (site.world old) (site.world at) was.stored;
      blamed = tt;
      bads = no_bad_ends runner.next (site.world old) log none.ended;
      first = tt;
      left = none_good runner.next (site.world old) (site.world at) log none.ended none.ran;
      full = tt;
      kept = was.prepared.kept;
      settled = λ none. absurd (none-some (stop.Outside failed.Memory) (sym none));
    }))

-- and so it is where none had to be run
pub nothing_due : {S R : Type 0} (site : Site S) (runner : Runner R) (keep_going : Bool) (jobs : ℕ) (graph : Held) (at : S) (log : Log) → LeavesDue site runner.next graph at → BeginsNone log → ((number : ℕ) → is_flagged graph.nodes number ≡ false)
    → ((first : World) (since : ℕ) → IsTrue site.tells → IsPrepared site runner.next first since graph at → ExactlyTheFiles runner.next first (site.world at) None)
    → ((first : World) (since : ℕ) → IsTrue site.tells → IsPrepared site runner.next first since graph at → IsSettled site at) → PromisesOver site runner keep_going jobs graph at at log None
nothing_due site runner keep_going jobs graph at log due none unflagged files settled = λ old tells means was.
    let first = site.world old in
    let since = site.moment old in
    record {
      files = files first since tells was.prepared;
      needed = record {
        runs = runs_none runner.next keep_going jobs first log None none.ran (none_due site runner.next first since graph at was.prepared unflagged);
        flagged = due tells first since was.prepared;
      };
      crashes = record { later = was.prepared.over.began; kept = was.prepared.over.kept; owned = was.owns };
      states = kept_stated runner.next first (site.world at) was.stored;
      blamed = tt;
      bads = no_bad_ends runner.next first log none.ended;
      first = tt;
      left = none_good runner.next first (site.world at) log none.ended none.ran;
      full = tt;
      kept = was.prepared.kept;
      settled = λ _. settled first since tells was.prepared;
    }

-- its sources are kept
pub unchanged_sources : {S : Type 0} (site : Site S) (graph : Held) (at new : S) → new ≡ at → KeepsSources site graph at new
unchanged_sources {S} site graph at new same = λ next old tells prepared. subst (λ (one : S). SourcesStay site old one) (sym same) (sources_kept site next (site.known at) old at prepared.over.began prepared.over.kept)

-- ---- no rule is flagged
pub no_flags : (g : GraphState) → finite.entries g.flags ≡ [] → (number : ℕ) → is_flagged g number ≡ false
no_flags g none number = ap is_some (finite.get-entries g.flags number ∙ ap (finite.find nat_cmp number) none)

-- ---- which rules were run
-- an update ran what its answer says, whether it was to go on at a bad verdict or not, and however many runners it had
pub runs_all_by : (next : Next) (keep_going : Bool) (jobs : ℕ) (first : World) (ran : List RuleName) (stopped : Option Stop) → (stopped ≡ None → NamesAllDue first ran)
    → ((name : RuleName) (verdict : Verdict) → stopped ≡ Some (stop.Bad name verdict) → keep_going ≡ true → NamesAllThatCan next first ran)
    → ((name : RuleName) (verdict : Verdict) → stopped ≡ Some (stop.Bad name verdict) → keep_going ≡ false → jobs ≡ 1 → (front : List RuleName) × (ran ≡ front ++ name ∷ []))
    → RunsAll next keep_going jobs first ran stopped
runs_all_by next keep_going jobs first ran None due can last = due refl
runs_all_by next true jobs first ran (Some (stop.Bad name verdict)) due can last = can name verdict refl refl
runs_all_by next false jobs first ran (Some (stop.Bad name verdict)) due can last = last name verdict refl refl
runs_all_by next keep_going jobs first ran (Some stop.NoStore) due can last = tt
runs_all_by next keep_going jobs first ran (Some (stop.BadStore offset)) due can last = tt
runs_all_by next keep_going jobs first ran (Some (stop.Sources fault)) due can last = tt
runs_all_by next keep_going jobs first ran (Some (stop.UserFile path written found)) due can last = tt
runs_all_by next keep_going jobs first ran (Some stop.Run) due can last = tt
runs_all_by next keep_going jobs first ran (Some stop.Full) due can last = tt
runs_all_by next keep_going jobs first ran (Some (stop.Outside failed)) due can last = tt

-- a bad verdict is told just as the board has it
pub stops_at_bad : (rules : List Rule) (bad : ℕ → Option Verdict) (drained : Drained) (stopped : Option Stop) → StopsBy rules drained stopped bad → (name : RuleName) (verdict : Verdict)
    → stopped ≡ Some (stop.Bad name verdict) → StopsAtBad rules bad name verdict
stops_at_bad rules bad Done stopped stops name verdict is = subst (IsEnd rules bad) is stops
stops_at_bad rules bad (Left cause.Bad) stopped stops name verdict is = subst (IsEnd rules bad) is stops
stops_at_bad rules bad (Left cause.Site) stopped stops name verdict is = absurd (cc (stops, is))
stops_at_bad rules bad (Left (cause.TooLarge bytes)) stopped stops name verdict is = absurd (cc (stops, is))
stops_at_bad rules bad (Left cause.Full) stopped stops name verdict is = absurd (cc (stops, is))
stops_at_bad rules bad (Left cause.Run) stopped stops name verdict is = absurd (cc (stops, is))
stops_at_bad rules bad (Left cause.Memory) stopped stops name verdict is = absurd (cc (stops, is))

-- and where the update was to go on, the core isn't stopped then
pub goes_on : (plan : Plan) (end : State) (drained : Drained) (stopped : Option Stop) → HasBad plan end → Drains end drained → StopsBy plan.rules drained stopped end.bad
    → (name : RuleName) (verdict : Verdict) → stopped ≡ Some (stop.Bad name verdict) → plan.keep_going ≡ true → end.stopped ≡ None
goes_on plan end Done stopped has drains stops name verdict is going = drains.0
goes_on plan end (Left cause.Bad) stopped has (inl by) stops name verdict is going = absurd (true≢false (sym going ∙ (has by).0))
goes_on plan end (Left cause.Bad) stopped has (inr (none, same, some)) stops name verdict is going = none
goes_on plan end (Left cause.Site) stopped has drains stops name verdict is going = absurd (cc (stops, is))
goes_on plan end (Left (cause.TooLarge bytes)) stopped has drains stops name verdict is going = absurd (cc (stops, is))
goes_on plan end (Left cause.Full) stopped has drains stops name verdict is going = absurd (cc (stops, is))
goes_on plan end (Left cause.Run) stopped has drains stops name verdict is going = absurd (cc (stops, is))
goes_on plan end (Left cause.Memory) stopped has drains stops name verdict is going = absurd (cc (stops, is))

-- one that was stopped before the rules ran none
pub runs_before : (next : Next) (keep_going : Bool) (jobs : ℕ) (w : World) (ran : List RuleName) (by : Stop) → StopsBefore by → ran ≡ [] → RunsWhatIsNeeded next keep_going jobs w ran (Some by)
runs_before next keep_going jobs w ran by before none =
    subst (λ (names : List RuleName). RunsWhatIsNeeded next keep_going jobs w names (Some by)) (sym none)
    (none_runs next keep_going jobs w (Some by)
    (runs_all_by next keep_going jobs w [] (Some by) (λ e. absurd (none-some by (sym e)))
    (λ name verdict is going. absurd (subst StopsBefore (same_Some by (stop.Bad name verdict) is) before))
    (λ name verdict is off one. absurd (subst StopsBefore (same_Some by (stop.Bad name verdict) is) before))))

-- ---- who is blamed
-- an update whose rules were run blames a rule at most, or a file that is there
pub blames_rules : (next : Next) (w now : World) (ran : List RuleName) (stopped : Option Stop) → IfSome stopped StopsRunning
    → ((name : RuleName) (verdict : Verdict) → stopped ≡ Some (stop.Bad name verdict) → IsBadRule next w ran name verdict)
    → ((n : ℕ) → stopped ≡ Some (stop.Outside (failed.TooLarge n)) → HasFileOf n now.tree) → IsToBlame next w now ran stopped
blames_rules next w now ran None running bad large = tt
blames_rules next w now ran (Some stop.NoStore) running bad large = tt
blames_rules next w now ran (Some (stop.BadStore offset)) running bad large = tt
blames_rules next w now ran (Some (stop.Sources fault)) running bad large = absurd running
blames_rules next w now ran (Some (stop.UserFile path written found)) running bad large = absurd running
blames_rules next w now ran (Some (stop.Bad name verdict)) running bad large = bad name verdict refl
blames_rules next w now ran (Some stop.Run) running bad large = tt
blames_rules next w now ran (Some stop.Full) running bad large = tt
blames_rules next w now ran (Some (stop.Outside failed.Fault)) running bad large = tt
blames_rules next w now ran (Some (stop.Outside (failed.TooLarge n))) running bad large = inr (large n refl)
blames_rules next w now ran (Some (stop.Outside failed.Memory)) running bad large = tt

-- and one that was stopped before, the sources or a file that was there
pub blames_sources : (next : Next) (w now : World) (ran : List RuleName) (by : Stop) → StopsBefore by → BlamesSources w by → IsToBlame next w now ran (Some by)
blames_sources next w now ran stop.NoStore before blames = tt
blames_sources next w now ran (stop.BadStore offset) before blames = tt
blames_sources next w now ran (stop.Sources fault) before blames = blames
blames_sources next w now ran (stop.UserFile path written found) before blames = blames
blames_sources next w now ran (stop.Bad name verdict) before blames = absurd before
blames_sources next w now ran stop.Run before blames = absurd before
blames_sources next w now ran stop.Full before blames = tt
blames_sources next w now ran (stop.Outside failed.Fault) before blames = tt
blames_sources next w now ran (stop.Outside (failed.TooLarge n)) before blames = inl blames
blames_sources next w now ran (stop.Outside failed.Memory) before blames = tt

-- ---- why the store is said to be full
module _ {S : Type 0} (site : Site S) (next : Next) (old new : S) (ran : List RuleName) where
  -- once its rules were run
  pub full_by : (stopped : Option Stop) → (stopped ≡ Some stop.Full → (w : World) × site.left_since new (site.moment old) w × LacksRoomToRun next (site.known new) (site.world old) w ran) → HasFullCause site next old new ran stopped
  full_by None full = tt
  full_by (Some stop.NoStore) full = tt
  full_by (Some (stop.BadStore offset)) full = tt
  full_by (Some (stop.Sources fault)) full = tt
  full_by (Some (stop.UserFile path written found)) full = tt
  full_by (Some (stop.Bad name verdict)) full = tt
  full_by (Some stop.Run) full = tt
  full_by (Some stop.Full) full = inr (full refl)
  full_by (Some (stop.Outside why)) full = tt

  -- before any was
  pub full_before : (by : Stop) → ran ≡ [] → FillsStore (site.world new) by → HasFullCause site next old new ran (Some by)
  full_before stop.NoStore none fills = tt
  full_before (stop.BadStore offset) none fills = tt
  full_before (stop.Sources fault) none fills = tt
  full_before (stop.UserFile path written found) none fills = tt
  full_before (stop.Bad name verdict) none fills = tt
  full_before stop.Run none fills = tt
  full_before stop.Full none fills = inl (none, fills)
  full_before (stop.Outside why) none fills = tt
