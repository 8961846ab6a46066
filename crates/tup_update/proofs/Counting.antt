-- What a board that was drained says of the causes of an update.
use Rattle.std.proofs.Common.{◌≡◌, ◌≢◌, ◌⊎◌, inl, inr, ℕ, ◌-◌, List, [], ◌∷◌, ◌++◌, map, length, take, Option, Some, None, refl, sym, ap, subst, arith, length-append, ◌∙◌}
use Rattle.std.specs.FinMap as finite
use Rattle.std.specs.Option.{IfSome}
use Rattle.std.specs.Prelude.{IsTrue}
use Rattle.std.proofs.Math.Seq.{take-append_seam}
use Rattle.std.proofs.lemmas.List.{map-append}
use Rattle.tup_path.specs.Name.{Names as PathNames}
use Rattle.tup_site.specs.declared.fault.SiteFailed.TheVariants as failed
use Rattle.tup_site.specs.declared.site.Site.{Ghosts as Site}
use Rattle.tup_runner.specs.declared.runner.Runner.{Ghosts as Runner}
use Rattle.tup_rule.specs.declared.rule.Rule.{Rule}
use Rattle.tup_rule.specs.declared.rule.RuleName.{RuleName}
use Rattle.tup_access.specs.declared.verdict.Verdict.{Verdict}
use Rattle.tup_core.specs.declared.event.Cause.{Cause}
use Rattle.tup_core.specs.declared.event.Cause.TheVariants as cause
use Rattle.tup_core.specs.declared.event.CoreEvent.{CoreEvent}
use Rattle.tup_core.specs.declared.plan.Plan.{Plan}
use Rattle.tup_core.specs.Run.{IsRun, end_of}
use Rattle.tup_core.specs.Step.{State, opening}
use Rattle.tup_board.specs.Board.{BoardState, plan_of, start, state}
use Rattle.tup_board.specs.Cause.{HasLargeFile}
use Rattle.tup_board.specs.Calls.{Drains, RanAll as BoardRan, commands}
use Rattle.tup_board.specs.Sound.{IsSound}
use Rattle.tup_board.specs.declared.answers.Drained.{Drained}
use Rattle.tup_board.specs.declared.answers.Drained.TheVariants.{Done, Left}
use Rattle.tup_promise.specs.Blamed.{HasFileOf}
use Rattle.tup_promise.specs.Cause.{HasCountedCause, HasSharedCause}
use Rattle.tup_promise.specs.Ran.{RanAll, RanAllButLast, RunsThese, command_of}
use Rattle.tup_promise.specs.declared.stop.Stop.{Stop}
use Rattle.tup_promise.specs.declared.stop.Stop.TheVariants as stop
use Rattle.tup_update.specs.Run.{IsEnd, OfBads, StopsBy, StopsRunning}

-- a board that was left for another cause than a bad verdict has stopped for it
pub left_for : (end : State) (why : Cause) → why ≢ cause.Bad → Drains end (Left why) → end.stopped ≡ Some why
left_for end why other (inl is) = is
left_for end why other (inr (none, bad, some)) = absurd (other bad)

-- what stopped an update by its history, by the verdicts of the board
pub stops_so : {S : Type 0} (board : BoardState S) (plan : Plan) (drained : Drained) (stopped : Option Stop) → plan_of board ≡ plan → IsRun (plan_of board) (start board) board.history
    → OfBads plan board.history (StopsBy plan.rules drained stopped) → StopsBy plan.rules drained stopped (state board).bad
stops_so board plan drained stopped same run told =
    let files = finite.entries board.opening.graph.nodes.seen in
    subst (λ (p : Plan). StopsBy plan.rules drained stopped (end_of p (opening p files) board.history).bad) (sym same)
    (told files (subst (λ (p : Plan). IsRun p (opening p files) board.history) same run))

-- of these rules, and their bad verdicts
module _ (rules : List Rule) (bad : ℕ → Option Verdict) where
  -- ---- what the site counted
  module _ (before now : ℕ) (same : now ≡ before) where
    counted_end : (stopped : Option Stop) → IsEnd rules bad stopped → HasCountedCause before now stopped
    counted_end None is = same
    counted_end (Some stop.NoStore) is = absurd is
    counted_end (Some (stop.BadStore offset)) is = absurd is
    counted_end (Some (stop.Sources fault)) is = absurd is
    counted_end (Some (stop.UserFile path written found)) is = absurd is
    counted_end (Some (stop.Bad name verdict)) is = (same, is.not_good)
    counted_end (Some stop.Run) is = absurd is
    counted_end (Some stop.Full) is = absurd is
    counted_end (Some (stop.Outside failed.Fault)) is = absurd is
    counted_end (Some (stop.Outside (failed.TooLarge n))) is = absurd is
    counted_end (Some (stop.Outside failed.Memory)) is = same

  module _ {S R : Type 0} (site : Site S) (runner : Runner R) (board : BoardState S) (sound : IsSound site runner board) where
    abbrev before : ℕ
    before = site.faults board.opening.site

    abbrev now : ℕ
    now = site.faults board.site

    counted_as : (by : Stop) (stopped : Option Stop) → stopped ≡ Some by → HasCountedCause before now (Some by) → HasCountedCause before now stopped
    counted_as by stopped is counted = subst (HasCountedCause before now) (sym is) counted

    pub counted : ((state board).stopped ≢ Some cause.Site → now ≡ before) → (drained : Drained) (stopped : Option Stop) → Drains (state board) drained → StopsBy rules drained stopped bad → HasCountedCause before now stopped
    counted keeps Done stopped drains stops = counted_end before now (keeps (λ e. let none = drains.0 in cc)) stopped stops
    counted keeps (Left cause.Bad) stopped drains stops = counted_end before now (keeps (not_site drains)) stopped stops
      where
        not_site : Drains (state board) (Left cause.Bad) → (state board).stopped ≢ Some cause.Site
        not_site (inl is) e = cc
        not_site (inr (none, bad, some)) e = cc
    counted keeps (Left cause.Site) stopped drains stops = counted_as (stop.Outside failed.Fault) stopped stops (sound.cause cause.Site (left_for (state board) cause.Site (λ e. cc) drains))
    counted keeps (Left (cause.TooLarge n)) stopped drains stops =
        let is = left_for (state board) (cause.TooLarge n) (λ e. cc) drains in
        counted_as (stop.Outside (failed.TooLarge n)) stopped stops (keeps (λ e. cc), (sound.cause (cause.TooLarge n) is).0)
    counted keeps (Left cause.Full) stopped drains stops =
        let is = left_for (state board) cause.Full (λ e. cc) drains in
        counted_as stop.Full stopped stops (keeps (λ e. cc))
    counted keeps (Left cause.Run) stopped drains stops =
        let is = left_for (state board) cause.Run (λ e. cc) drains in
        counted_as stop.Run stopped stops (keeps (λ e. cc))
    counted keeps (Left cause.Memory) stopped drains stops =
        let is = left_for (state board) cause.Memory (λ e. cc) drains in
        counted_as (stop.Outside failed.Memory) stopped stops (keeps (λ e. cc))

    -- ---- for so many runners
    shared_end : (stopped : Option Stop) → (stopped ≡ None → now ≡ before) → IsEnd rules bad stopped → HasSharedCause before now stopped
    shared_end None stands is = stands refl
    shared_end (Some stop.NoStore) stands is = absurd is
    shared_end (Some (stop.BadStore offset)) stands is = absurd is
    shared_end (Some (stop.Sources fault)) stands is = absurd is
    shared_end (Some (stop.UserFile path written found)) stands is = absurd is
    shared_end (Some (stop.Bad name verdict)) stands is = is.not_good
    shared_end (Some stop.Run) stands is = absurd is
    shared_end (Some stop.Full) stands is = absurd is
    shared_end (Some (stop.Outside failed.Fault)) stands is = absurd is
    shared_end (Some (stop.Outside (failed.TooLarge n))) stands is = absurd is
    shared_end (Some (stop.Outside failed.Memory)) stands is = tt

    shared_as : (by : Stop) (stopped : Option Stop) → stopped ≡ Some by → HasSharedCause before now (Some by) → HasSharedCause before now stopped
    shared_as by stopped is shared = subst (HasSharedCause before now) (sym is) shared

    pub shared : (drained : Drained) (stopped : Option Stop) → (stopped ≡ None → now ≡ before) → Drains (state board) drained → StopsBy rules drained stopped bad → HasSharedCause before now stopped
    shared Done stopped stands drains stops = shared_end stopped stands stops
    shared (Left cause.Bad) stopped stands drains stops = shared_end stopped stands stops
    shared (Left cause.Site) stopped stands drains stops = shared_as (stop.Outside failed.Fault) stopped stops (sound.cause cause.Site (left_for (state board) cause.Site (λ e. cc) drains))
    shared (Left (cause.TooLarge n)) stopped stands drains stops =
        shared_as (stop.Outside (failed.TooLarge n)) stopped stops (sound.cause (cause.TooLarge n) (left_for (state board) (cause.TooLarge n) (λ e. cc) drains)).0
    shared (Left cause.Full) stopped stands drains stops = shared_as stop.Full stopped stops tt
    shared (Left cause.Run) stopped stands drains stops = shared_as stop.Run stopped stops tt
    shared (Left cause.Memory) stopped stands drains stops = shared_as (stop.Outside failed.Memory) stopped stops tt

  -- ---- a file that is too large is there
  module _ {S R : Type 0} (site : Site S) (runner : Runner R) (board : BoardState S) (sound : IsSound site runner board) (tells : IsTrue site.tells) where
    at_end : (n : ℕ) (stopped : Option Stop) → IsEnd rules bad stopped → stopped ≡ Some (stop.Outside (failed.TooLarge n)) → ⊥
    at_end n stopped ends is = subst (IsEnd rules bad) is ends

    there : (n m : ℕ) → m ≡ n → HasLargeFile board (site.world board.site) m → HasFileOf n (site.world board.site).tree
    there n m same file = (file.path, record { content = file.content; found = file.here; bytes = file.long ∙ same })

    pub large_there : (drained : Drained) (stopped : Option Stop) → Drains (state board) drained → StopsBy rules drained stopped bad → (n : ℕ) → stopped ≡ Some (stop.Outside (failed.TooLarge n)) → HasFileOf n (site.world board.site).tree
    large_there Done stopped drains stops n is = absurd (at_end n stopped stops is)
    large_there (Left cause.Bad) stopped drains stops n is = absurd (at_end n stopped stops is)
    large_there (Left cause.Site) stopped drains stops n is = absurd (cc (stops, is))
    large_there (Left (cause.TooLarge m)) stopped drains stops n is =
        let one : Some (stop.Outside (failed.TooLarge m)) ≡ Some (stop.Outside (failed.TooLarge n)) = sym stops ∙ is in
        let same : m ≡ n = cc in
        there n m same ((sound.cause (cause.TooLarge m) (left_for (state board) (cause.TooLarge m) (λ e. cc) drains)).1 tells)
    large_there (Left cause.Full) stopped drains stops n is = absurd (cc (stops, is))
    large_there (Left cause.Run) stopped drains stops n is = absurd (cc (stops, is))
    large_there (Left cause.Memory) stopped drains stops n is = absurd (cc (stops, is))

  -- ---- where the store is said to be full, the board has stopped for that
  not_full : (stopped : Option Stop) → IsEnd rules bad stopped → stopped ≡ Some stop.Full → ⊥
  not_full stopped ends is = subst (IsEnd rules bad) is ends

  pub stopped_full : (end : State) (drained : Drained) (stopped : Option Stop) → Drains end drained → StopsBy rules drained stopped bad → stopped ≡ Some stop.Full → end.stopped ≡ Some cause.Full
  stopped_full end Done stopped drains stops is = absurd (not_full stopped stops is)
  stopped_full end (Left cause.Bad) stopped drains stops is = absurd (not_full stopped stops is)
  stopped_full end (Left cause.Site) stopped drains stops is = absurd (cc (stops, is))
  stopped_full end (Left (cause.TooLarge n)) stopped drains stops is = absurd (cc (stops, is))
  stopped_full end (Left cause.Full) stopped drains stops is = left_for end cause.Full (λ e. cc) drains
  stopped_full end (Left cause.Run) stopped drains stops is = absurd (cc (stops, is))
  stopped_full end (Left cause.Memory) stopped drains stops is = absurd (cc (stops, is))

  -- ---- what the runner ran
  -- a list without its last item
  but_last : {A : Type 0} (front : List A) (last : A) → take (length (front ++ last ∷ []) - 1) (front ++ last ∷ []) ≡ front
  but_last front last =
      ap (λ (n : ℕ). take n (front ++ last ∷ [])) (shorter front last) ∙ take-append_seam front (last ∷ [])
    where
      shorter : {A : Type 0} (front : List A) (last : A) → length (front ++ last ∷ []) - 1 ≡ length front
      shorter front last = let counted = length-append front (last ∷ []) in omega (arith, counted)

  -- a list that isn't empty has a last item
  last_apart : {A : Type 0} (one : A) (more : List A) → (front : List A) × (last : A) × (one ∷ more ≡ front ++ last ∷ [])
  last_apart {A} one [] = ([], one, refl)
  last_apart {A} one (next ∷ more) =
      let apart = last_apart next more in
      (one ∷ apart.0, apart.1, ap (λ (rest : List A). one ∷ rest) apart.2)

  -- some rules, or all but the last of them
  pub without_last : (old new : List (PathNames × List ℕ)) (ran : List RuleName) → new ≡ old ++ take (length (map command_of ran) - 1) (map command_of ran)
      → RanAll ran old new ⊎ RanAllButLast ran old new
  without_last old new [] is = inl is
  without_last old new (name ∷ ran) is =
      let apart = last_apart name ran in
      inr (apart.0, apart.1, apart.2, is ∙ ap (λ (more : List (PathNames × List ℕ)). old ++ more) (front_run apart.0 apart.1 (name ∷ ran) apart.2))
    where
      -- all but the last of what was run for a list
      front_run : (front : List RuleName) (last : RuleName) (whole : List RuleName) → whole ≡ front ++ last ∷ [] → take (length (map command_of whole) - 1) (map command_of whole) ≡ map command_of front
      front_run front last whole is_so =
          ap (λ (l : List RuleName). take (length (map command_of l) - 1) (map command_of l)) is_so
          ∙ ap (λ (l : List (PathNames × List ℕ)). take (length l - 1) l) (map-append command_of front (last ∷ []))
          ∙ but_last (map command_of front) (command_of last)

  module _ (ran : List RuleName) (old new : List (PathNames × List ℕ)) where
    ran_end : (stopped : Option Stop) → IsEnd rules bad stopped → RanAll ran old new → RunsThese ran old new stopped
    ran_end None end all = all
    ran_end (Some stop.NoStore) end all = absurd end
    ran_end (Some (stop.BadStore offset)) end all = absurd end
    ran_end (Some (stop.Sources fault)) end all = absurd end
    ran_end (Some (stop.UserFile path written found)) end all = absurd end
    ran_end (Some (stop.Bad name verdict)) end all = all
    ran_end (Some stop.Run) end all = absurd end
    ran_end (Some stop.Full) end all = absurd end
    ran_end (Some (stop.Outside failed.Fault)) end all = absurd end
    ran_end (Some (stop.Outside (failed.TooLarge n))) end all = absurd end
    ran_end (Some (stop.Outside failed.Memory)) end all = inl all

    ran_as : (by : Stop) (stopped : Option Stop) → stopped ≡ Some by → RunsThese ran old new (Some by) → RunsThese ran old new stopped
    ran_as by stopped same runs = subst (RunsThese ran old new) (sym same) runs

    pub ran_these : (plan : Plan) (events : List CoreEvent) → map command_of ran ≡ commands plan events → (drained : Drained) (stopped : Option Stop)
        → BoardRan plan events old new drained → StopsBy rules drained stopped bad → RunsThese ran old new stopped
    ran_these plan events same Done stopped runs stops = ran_end stopped stops (runs ∙ ap (λ (more : List (PathNames × List ℕ)). old ++ more) (sym same))
    ran_these plan events same (Left cause.Bad) stopped runs stops = ran_end stopped stops (runs ∙ ap (λ (more : List (PathNames × List ℕ)). old ++ more) (sym same))
    ran_these plan events same (Left cause.Site) stopped runs stops = ran_as (stop.Outside failed.Fault) stopped stops (runs ∙ ap (λ (more : List (PathNames × List ℕ)). old ++ more) (sym same))
    ran_these plan events same (Left (cause.TooLarge n)) stopped runs stops = ran_as (stop.Outside (failed.TooLarge n)) stopped stops (runs ∙ ap (λ (more : List (PathNames × List ℕ)). old ++ more) (sym same))
    ran_these plan events same (Left cause.Full) stopped runs stops = ran_as stop.Full stopped stops (runs ∙ ap (λ (more : List (PathNames × List ℕ)). old ++ more) (sym same))
    ran_these plan events same (Left cause.Run) stopped runs stops = ran_as stop.Run stopped stops (runs ∙ ap (λ (more : List (PathNames × List ℕ)). old ++ more) (sym same))
    ran_these plan events same (Left cause.Memory) stopped runs stops = ran_as (stop.Outside failed.Memory) stopped stops (by runs)
      where
        by : BoardRan plan events old new (Left cause.Memory) → RunsThese ran old new (Some (stop.Outside failed.Memory))
        by (inl all) = inl (all ∙ ap (λ (more : List (PathNames × List ℕ)). old ++ more) (sym same))
        by (inr but_last) = without_last old new ran (but_last ∙ ap (λ (more : List (PathNames × List ℕ)). old ++ take (length more - 1) more) (sym same))

  -- ---- what stopped it
  running_end : (stopped : Option Stop) → IsEnd rules bad stopped → IfSome stopped StopsRunning
  running_end None end = tt
  running_end (Some stop.NoStore) end = end
  running_end (Some (stop.BadStore offset)) end = end
  running_end (Some (stop.Sources fault)) end = end
  running_end (Some (stop.UserFile path written found)) end = end
  running_end (Some (stop.Bad name verdict)) end = tt
  running_end (Some stop.Run) end = tt
  running_end (Some stop.Full) end = tt
  running_end (Some (stop.Outside why)) end = tt

  running_as : (by : Stop) (stopped : Option Stop) → stopped ≡ Some by → StopsRunning by → IfSome stopped StopsRunning
  running_as by stopped same is = subst (λ (s : Option Stop). IfSome s StopsRunning) (sym same) is

  pub stops_running : (drained : Drained) (stopped : Option Stop) → StopsBy rules drained stopped bad → IfSome stopped StopsRunning
  stops_running Done stopped stops = running_end stopped stops
  stops_running (Left cause.Bad) stopped stops = running_end stopped stops
  stops_running (Left cause.Site) stopped stops = running_as (stop.Outside failed.Fault) stopped stops tt
  stops_running (Left (cause.TooLarge n)) stopped stops = running_as (stop.Outside (failed.TooLarge n)) stopped stops tt
  stops_running (Left cause.Full) stopped stops = running_as stop.Full stopped stops tt
  stops_running (Left cause.Run) stopped stops = running_as stop.Run stopped stops tt
  stops_running (Left cause.Memory) stopped stops = running_as (stop.Outside failed.Memory) stopped stops tt
