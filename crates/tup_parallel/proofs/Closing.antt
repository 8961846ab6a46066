-- The last drain of a board that a crew has left, by the first of its runners.
use Rattle.std.proofs.Common.{◌≡◌, ◌≢◌, ◌⊎◌, ◌<◌, ◌-◌, ℕ, zero, suc, List, [], ◌∷◌, ◌++◌, Option, None, Some, length, map, get_or, refl, sym, ap, ◌∙◌, subst, inl, inr, ⊎_elim, append_assoc, arith}
use Rattle.std.specs.Prelude.{All, Contains, IsSome, IsTrue, filter_map, option_map, slice_get, slice_set, take}
use Rattle.std.proofs.lemmas.List.{append-nil, get_or-set_other, get_or-set_same, get_or_default, length-append, length-set}
use Rattle.std.proofs.lemmas.List.Elements.{All-append, All-contains, All-same, All-weaker, Contains-append_left, Contains-append_right, filter_map-append}
use Rattle.std.proofs.lemmas.Option.{none-some}
use Rattle.tup_path.specs.Count.{Rose}
use Rattle.tup_path.specs.Name.{Names}
use Rattle.tup_site.specs.declared.site.Site.{Ghosts as Site}
use Rattle.tup_runner.specs.declared.runner.Runner.{Ghosts as Runner}
use Rattle.tup_core.specs.declared.event.Cause.{Cause}
use Rattle.tup_core.specs.declared.event.Cause.TheVariants as causes
use Rattle.tup_core.specs.declared.event.CoreEvent.{CoreEvent}
use Rattle.tup_core.specs.declared.event.CoreEvent.TheVariants.{Stop}
use Rattle.tup_core.specs.declared.plan.Plan.{Plan}
use Rattle.tup_core.specs.Run.{claims, end_of}
use Rattle.tup_core.specs.Step.{State}
use Rattle.tup_schedule.proofs.Courses.{end_both}
use Rattle.tup_board.specs.Board.{BoardState, Opening, plan_of, seat_of, start, state}
use Rattle.tup_board.specs.Calls.{Drains, HasRunCause, IsOver, RanAll, TakesFirst, command_of, commands}
use Rattle.tup_board.specs.CameLaws.{claims_both}
use Rattle.tup_board.specs.Seat.{KeepsCount}
use Rattle.tup_board.specs.declared.answers.Drained.{Drained}
use Rattle.tup_board.specs.declared.answers.Drained.TheVariants.{Done, Left}
use Rattle.tup_board.specs.Entries.{entries_at}
use Rattle.tup_lock.specs.Boards.{board_log}
use Rattle.tup_lock.proofs.Histories.{entries_all, entries_both, entries_none}
use Rattle.tup_parallel.specs.Parallel.{CrewRan, CrewStood, IsAlone, Leaves, NoneFailed, OneFailed, RanAt}
use Rattle.tup_parallel.proofs.Stopping.{none_stops, stop_among}

-- ---- commands
commands_both : (plan : Plan) (some more : List CoreEvent) → commands plan (some ++ more) ≡ commands plan some ++ commands plan more
commands_both plan some more = ap (filter_map command) (claims_both some more) ∙ filter_map-append command (claims some) (claims more)
  where
    command : ℕ → Option (Names × List ℕ)
    command n = option_map command_of (slice_get plan.rules n)

module _ {A : Type 0} where
  -- all but the last of a list, behind others
  but_last : (xs : List A) (y : A) (ys : List A) → xs ++ take (length (y ∷ ys) - 1) (y ∷ ys) ≡ take (length (xs ++ y ∷ ys) - 1) (xs ++ y ∷ ys)
  but_last [] y ys = refl
  but_last (x ∷ xs) y ys =
      let long = length-append xs (y ∷ ys) in
      let more : length (x ∷ xs ++ y ∷ ys) - 1 ≡ suc (length (xs ++ y ∷ ys) - 1) = omega (arith, long) in
      ap (λ (l : List A). x ∷ l) (but_last xs y ys) ∙ ap (λ (n : ℕ). take n (x ∷ xs ++ y ∷ ys)) (sym more)

  -- the same of any list
  but_one : (xs ys : List A) → (xs ++ take (length ys - 1) ys ≡ xs ++ ys) ⊎ (xs ++ take (length ys - 1) ys ≡ take (length (xs ++ ys) - 1) (xs ++ ys))
  but_one xs [] = inl refl
  but_one xs (y ∷ ys) = inr (but_last xs y ys)

-- counts that are alike at each place
same_counts : {A : Type 0} (count : A → ℕ) (xs ys : List A) → length xs ≡ length ys → ((i : ℕ) (d : A) → i < length ys → count (get_or xs i d) ≡ count (get_or ys i d)) → map count xs ≡ map count ys
same_counts count [] [] long each = refl
same_counts count [] (y ∷ ys) long each = absurd (omega arith)
same_counts count (x ∷ xs) [] long each = absurd (omega arith)
same_counts count (x ∷ xs) (y ∷ ys) long each =
    ap (λ (n : ℕ). n ∷ map count xs) (each 0 x (omega arith))
    ∙ ap (λ (l : List ℕ). count y ∷ l) (same_counts count xs ys (omega arith) (λ i d less. each (suc i) d (omega arith)))

-- all commands were run, or an update is left for want of memory and they were but for the last
ran_cases : (plan : Plan) (events : List CoreEvent) (old new : List (Names × List ℕ)) (result : Drained) → RanAll plan events old new result
    → (new ≡ old ++ commands plan events) ⊎ ((result ≡ Left causes.Memory) × (new ≡ old ++ take (length (commands plan events) - 1) (commands plan events)))
ran_cases plan events old new Done ran = inl ran
ran_cases plan events old new (Left causes.Memory) ran = ⊎_elim inl (λ part. inr (refl, part)) ran
ran_cases plan events old new (Left causes.Bad) ran = inl ran
ran_cases plan events old new (Left causes.Site) ran = inl ran
ran_cases plan events old new (Left (causes.TooLarge bytes)) ran = inl ran
ran_cases plan events old new (Left causes.Full) ran = inl ran
ran_cases plan events old new (Left causes.Run) ran = inl ran

-- ---- what a drain at seat 0 says
pub record DrainsBy {S R : Type 0} (site : Site S) (runner : Runner R) (plan : Plan) (old new : BoardState S) (was is : R) (drained : Drained) : Type 0 where
  pub drains : Drains (state new) drained
  pub opening : new.opening ≡ old.opening
  pub events : List CoreEvent
  pub adds : new.history ≡ old.history ++ events
  pub own : All (λ event. seat_of event ≡ 0) events
  pub idle : IsOver old → (new ≡ old) × (is ≡ was)
  pub ran : (more : List CoreEvent) → new.history ≡ old.history ++ more → IsTrue runner.tells_ran → RanAll plan more (runner.ran was) (runner.ran is) drained
  pub order : (more : List CoreEvent) → new.history ≡ old.history ++ more → TakesFirst plan (state old) more
  pub cause : HasRunCause (state old).stopped (runner.faults was) (runner.faults is) drained
  pub steady : KeepsCount site old new

-- and what it comes to with what the crew did before
pub record Closed {S R : Type 0} (site : Site S) (runner : Runner R) (plan : Plan) (old new : BoardState S) (before now : List R) (drained : Drained) : Type 0 where
  pub below : All (λ event. seat_of event < length before) new.history
  pub many : length now ≡ length before
  pub ran : IsTrue runner.tells_ran → CrewRan runner.ran plan new.history before now
  pub stood : CrewStood runner.faults new.history before now
  pub failed : drained ≡ Left causes.Run → OneFailed runner.faults before now
  pub steady : (state new).stopped ≡ None → NoneFailed site runner.faults old new before now
  pub alone : length before ≡ 1 → IsAlone site runner plan old new before now drained

module _ {S R : Type 0} (site : Site S) (runner : Runner R) (plan : Plan) (old mid new : BoardState S) (before crew : List R) (was is : R) (drained : Drained)
    (leaves : Leaves site runner plan old mid before crew) (some : 0 < length before) (first : was ≡ get_or crew 0 was) (by : DrainsBy site runner plan mid new was is drained) where
  abbrev now : List R
  now = slice_set crew 0 is

  some_left : 0 < length crew
  some_left = let many = leaves.many in omega arith

  -- ---- the runners
  was_first : (d : R) → get_or crew 0 d ≡ was
  was_first d = get_or_default crew 0 d was some_left ∙ sym first

  is_first : (d : R) → get_or now 0 d ≡ is
  is_first d = get_or-set_same crew 0 is d some_left

  others_stay : (i : ℕ) (d : R) → get_or now (suc i) d ≡ get_or crew (suc i) d
  others_stay i d = get_or-set_other crew 0 (suc i) is d (λ same. omega arith)

  -- where the first one is as it was, all are
  all_stay : is ≡ was → (i : ℕ) (d : R) → get_or now i d ≡ get_or crew i d
  all_stay same zero d = is_first d ∙ same ∙ sym (was_first d)
  all_stay same (suc i) d = others_stay i d

  -- ---- the history
  kept : (event : CoreEvent) → Contains mid.history event → Contains new.history event
  kept event there = subst (λ (l : List CoreEvent). Contains l event) (sym by.adds) (Contains-append_left mid.history by.events event there)

  added : (event : CoreEvent) → Contains by.events event → Contains new.history event
  added event there = subst (λ (l : List CoreEvent). Contains l event) (sym by.adds) (Contains-append_right mid.history by.events event there)

  entries_first : entries_at 0 new.history ≡ entries_at 0 mid.history ++ by.events
  entries_first =
      ap (entries_at 0) by.adds ∙ entries_both (board_log site) 0 mid.history by.events
      ∙ ap (λ (l : List CoreEvent). entries_at 0 mid.history ++ l) (entries_all (board_log site) 0 by.events by.own)

  entries_other : (i : ℕ) → entries_at (suc i) new.history ≡ entries_at (suc i) mid.history
  entries_other i =
      ap (entries_at (suc i)) by.adds ∙ entries_both (board_log site) (suc i) mid.history by.events
      ∙ ap (λ (l : List CoreEvent). entries_at (suc i) mid.history ++ l)
      (entries_none (board_log site) (suc i) by.events (All-weaker (λ event. seat_of event ≡ 0) (λ event. seat_of event ≢ suc i) (λ event own same. omega (arith, own, same)) by.events by.own))
      ∙ append-nil (entries_at (suc i) mid.history)

  below_crew : All (λ event. seat_of event < length before) new.history
  below_crew =
      All-same (λ event. seat_of event < length before) new.history (mid.history ++ by.events) by.adds
      (All-append (λ event. seat_of event < length before) mid.history by.events leaves.below
      (All-weaker (λ event. seat_of event ≡ 0) (λ event. seat_of event < length before) (λ event own. omega (arith, own, some)) by.events by.own))

  -- ---- stops
  new_state : state new ≡ end_of (plan_of mid) (state mid) by.events
  new_state =
      ap (λ (o : Opening S). state (record new { opening = o })) by.opening ∙ ap (λ (h : List CoreEvent). state (record mid { history = h })) by.adds
      ∙ end_both (plan_of mid) mid.history by.events (start mid)

  -- the board came to this cause
  stopped_for : (cause : Cause) → cause ≢ causes.Bad → drained ≡ Left cause → (state new).stopped ≡ Some cause
  stopped_for cause other so = ⊎_elim (λ stopped. stopped) (λ bad. absurd (other bad.1)) (subst (Drains (state new)) so by.drains)

  -- where nothing was stopped before, it is that of a stop at seat 0
  stop_first : (cause : Cause) → cause ≢ causes.Bad → (state mid).stopped ≡ None → (state new).stopped ≡ Some cause → Contains by.events (Stop 0 cause)
  stop_first cause other none stopped =
      ⊎_elim
      (λ before. absurd (none-some cause (sym none ∙ before)))
      (λ it. subst (λ (n : ℕ). Contains by.events (Stop n cause)) (All-contains (λ event. seat_of event ≡ 0) by.events (Stop it.0 cause) by.own it.1) it.1)
      (stop_among (plan_of mid) by.events (state mid) cause (ap (λ (s : State). s.stopped) (sym new_state) ∙ stopped) other)

  -- where it was stopped before, nothing more happens
  module _ (why : Cause) (stopped : (state mid).stopped ≡ Some why) where
    nothing_more : (new ≡ mid) × (is ≡ was)
    nothing_more = by.idle (leaves.none_runs, inl (subst (λ (o : Option Cause). IsSome o) (sym stopped) refl))

    still_stopped : (state new).stopped ≡ Some why
    still_stopped = ap (λ (b : BoardState S). (state b).stopped) nothing_more.0 ∙ stopped

  -- either way
  whether : ((why : Cause) × ((state mid).stopped ≡ Some why)) ⊎ ((state mid).stopped ≡ None)
  whether = by_cases (state mid).stopped refl
    where
      by_cases : (o : Option Cause) → (state mid).stopped ≡ o → ((why : Cause) × ((state mid).stopped ≡ Some why)) ⊎ ((state mid).stopped ≡ None)
      by_cases None none = inr none
      by_cases (Some why) stopped = inl (why, stopped)

  -- ---- what the runners ran
  module _ (tells : IsTrue runner.tells_ran) (d : R) where
    abbrev was_ran : List (Names × List ℕ)
    was_ran = runner.ran (get_or before 0 d)

    abbrev crew_commands : List (Names × List ℕ)
    crew_commands = commands plan (entries_at 0 mid.history)

    abbrev Ran : List CoreEvent → R → Type 0
    Ran history r = RanAt plan 0 history was_ran (runner.ran r)

    at_first : Ran mid.history was
    at_first = subst (λ (r : R). Ran mid.history r) (was_first d) (leaves.ran tells 0 d some)

    was_stopped : ((why : Cause) × ((state mid).stopped ≡ Some why)) → Ran new.history (get_or now 0 d)
    was_stopped stopped =
        let same = nothing_more stopped.0 stopped.1 in
        subst (λ (b : BoardState S). Ran b.history (get_or now 0 d)) (sym same.0) (subst (λ (r : R). Ran mid.history r) (sym (is_first d ∙ same.1)) at_first)

    -- the crew's part was run whole, and then this one
    module _ (front : runner.ran was ≡ was_ran ++ crew_commands) where
      all_commands : crew_commands ++ commands plan by.events ≡ commands plan (entries_at 0 new.history)
      all_commands = sym (commands_both plan (entries_at 0 mid.history) by.events) ∙ ap (commands plan) (sym entries_first)

      behind : (more : List (Names × List ℕ)) → runner.ran is ≡ runner.ran was ++ more → runner.ran is ≡ was_ran ++ (crew_commands ++ more)
      behind more e = e ∙ ap (λ (l : List (Names × List ℕ)). l ++ more) front ∙ append_assoc was_ran crew_commands more

      whole : runner.ran is ≡ runner.ran was ++ commands plan by.events → Ran new.history is
      whole e = inl (behind (commands plan by.events) e ∙ ap (λ (l : List (Names × List ℕ)). was_ran ++ l) all_commands)

      part : Contains new.history (Stop 0 causes.Memory) → runner.ran is ≡ runner.ran was ++ take (length (commands plan by.events) - 1) (commands plan by.events) → Ran new.history is
      part stopped e =
          let behind_it = behind (take (length (commands plan by.events) - 1) (commands plan by.events)) e in
          ⊎_elim
          (λ none. inl (behind_it ∙ ap (λ (l : List (Names × List ℕ)). was_ran ++ l) (none ∙ all_commands)))
          (λ last. inr (stopped, behind_it ∙ ap (λ (l : List (Names × List ℕ)). was_ran ++ l) (last ∙ ap (λ (l : List (Names × List ℕ)). take (length l - 1) l) all_commands)))
          (but_one crew_commands (commands plan by.events))

    went_on : (state mid).stopped ≡ None → Ran new.history (get_or now 0 d)
    went_on none =
        subst (λ (r : R). Ran new.history r) (sym (is_first d))
        (⊎_elim
        (λ front. ⊎_elim (whole front)
        (λ left. part front (added (Stop 0 causes.Memory) (stop_first causes.Memory (λ e. cc) none (stopped_for causes.Memory (λ e. cc) left.0))) left.1)
        (ran_cases plan by.events (runner.ran was) (runner.ran is) drained (by.ran by.events by.adds tells)))
        (λ gone. absurd (none_stops (plan_of mid) mid.history (start mid) none 0 causes.Memory gone.0))
        at_first)

    ran_first : Ran new.history (get_or now 0 d)
    ran_first = ⊎_elim was_stopped went_on whether

  crew_ran : IsTrue runner.tells_ran → CrewRan runner.ran plan new.history before now
  crew_ran tells zero d less = ran_first tells d
  crew_ran tells (suc i) d less =
      subst (λ (r : R). RanAt plan (suc i) new.history (runner.ran (get_or before (suc i) d)) (runner.ran r)) (sym (others_stay i d))
      (⊎_elim
      (λ all. inl (all ∙ ap (λ (l : List CoreEvent). runner.ran (get_or before (suc i) d) ++ commands plan l) (sym (entries_other i))))
      (λ part. inr (
        kept (Stop (suc i) causes.Memory) part.0,
        part.1 ∙ ap (λ (l : List CoreEvent). runner.ran (get_or before (suc i) d) ++ take (length (commands plan l) - 1) (commands plan l)) (sym (entries_other i)),
      ))
      (leaves.ran tells (suc i) d less))

  -- ---- which of them failed
  first_stood : (Contains new.history (Stop 0 causes.Run) → ⊥) → runner.faults is ≡ runner.faults was
  first_stood not =
      ⊎_elim
      (λ stopped. ap runner.faults (nothing_more stopped.0 stopped.1).1)
      (λ none. by.cause.steady (λ left. not (added (Stop 0 causes.Run) (stop_first causes.Run (λ e. cc) none (stopped_for causes.Run (λ e. cc) left)))))
      whether

  crew_stood : CrewStood runner.faults new.history before now
  crew_stood zero d less not =
      ap runner.faults (is_first d) ∙ first_stood not ∙ ap runner.faults (sym (was_first d)) ∙ leaves.stood 0 d less (λ there. not (kept (Stop 0 causes.Run) there))
  crew_stood (suc i) d less not = ap runner.faults (others_stay i d) ∙ leaves.stood (suc i) d less (λ there. not (kept (Stop (suc i) causes.Run) there))

  module _ (left : drained ≡ Left causes.Run) where
    stopped_now : (state new).stopped ≡ Some causes.Run
    stopped_now = stopped_for causes.Run (λ e. cc) left

    -- the first cause was a runner's of the crew
    failed_at : is ≡ was → ((seat : ℕ) × Contains mid.history (Stop seat causes.Run)) → OneFailed runner.faults before now
    failed_at same it =
        let less : it.0 < length before = All-contains (λ event. seat_of event < length before) mid.history (Stop it.0 causes.Run) leaves.below it.1 in (
          it.0,
          less,
          λ d. subst (λ (r : R). Rose (runner.faults (get_or before it.0 d)) (runner.faults r)) (sym (all_stay same it.0 d)) (leaves.failed it.0 d less it.1),
        )

    failed_before : ((why : Cause) × ((state mid).stopped ≡ Some why)) → OneFailed runner.faults before now
    failed_before stopped =
        let same = nothing_more stopped.0 stopped.1 in
        ⊎_elim (λ first. absurd (none-some causes.Run first)) (failed_at same.1)
        (stop_among (plan_of mid) mid.history (start mid) causes.Run (ap (λ (b : BoardState S). (state b).stopped) (sym same.0) ∙ stopped_now) (λ e. cc))

    -- or it is the first runner's now
    failed_now : (state mid).stopped ≡ None → OneFailed runner.faults before now
    failed_now none = (
      0,
      some,
      λ d. subst (λ (r : R). Rose (runner.faults (get_or before 0 d)) (runner.faults r)) (sym (is_first d))
          (subst (λ (n : ℕ). Rose n (runner.faults is))
          (ap runner.faults (sym (was_first d)) ∙ leaves.stood 0 d some (none_stops (plan_of mid) mid.history (start mid) none 0 causes.Run))
          (⊎_elim (λ run. absurd (none-some causes.Run (sym none ∙ run))) (λ rose. rose) (by.cause.run left))),
    )

    one_failed : OneFailed runner.faults before now
    one_failed = ⊎_elim failed_before failed_now whether

  -- ---- nobody, where nothing is stopped
  none_before : (state new).stopped ≡ None → (state mid).stopped ≡ None
  none_before none = ⊎_elim (λ stopped. absurd (none-some stopped.0 (sym none ∙ still_stopped stopped.0 stopped.1))) (λ going. going) whether

  none_failed : (state new).stopped ≡ None → NoneFailed site runner.faults old new before now
  none_failed none = (
    by.steady (λ stopped. none-some causes.Site (sym none ∙ stopped)) ∙ leaves.steady (none_before none),
    same_counts runner.faults now before (length-set crew 0 is ∙ leaves.many) (λ i d less. crew_stood i d less (none_stops (plan_of new) new.history (start new) none i causes.Run)),
  )

  -- ---- a crew of one, where nothing was done before
  is_alone : old.history ≡ [] → mid ≡ old → crew ≡ before → IsAlone site runner plan old new before now drained
  is_alone none same crew_is = record {
    ran = λ tells d. subst (λ (r : R). RanAll plan new.history (runner.ran r) (runner.ran (get_or now 0 d)) drained) (was_there d)
        (subst (λ (r : R). RanAll plan new.history (runner.ran was) (runner.ran r) drained) (sym (is_first d)) (by.ran new.history all_new tells));
    own = All-same (λ event. seat_of event ≡ 0) new.history by.events (by.adds ∙ ap (λ (h : List CoreEvent). h ++ by.events) none_mid) by.own;
    order = subst (λ (b : BoardState S). TakesFirst plan (state b) new.history) same (by.order new.history all_new);
    cause = λ d. subst (λ (r : R). HasRunCause (state old).stopped (runner.faults r) (runner.faults (get_or now 0 d)) drained) (was_there d)
        (subst (λ (r : R). HasRunCause (state old).stopped (runner.faults was) (runner.faults r) drained) (sym (is_first d))
        (subst (λ (b : BoardState S). HasRunCause (state b).stopped (runner.faults was) (runner.faults is) drained) same by.cause));
    steady = subst (λ (b : BoardState S). KeepsCount site b new) same by.steady;
  }
    where
      none_mid : mid.history ≡ []
      none_mid = ap (λ (b : BoardState S). b.history) same ∙ none

      all_new : new.history ≡ mid.history ++ new.history
      all_new = ap (λ (h : List CoreEvent). h ++ new.history) (sym none_mid)

      was_there : (d : R) → was ≡ get_or before 0 d
      was_there d = sym (was_first d) ∙ ap (λ (l : List R). get_or l 0 d) crew_is

  -- ---- all of it
  pub closed : old.history ≡ [] → (length before ≡ 1 → (mid ≡ old) × (crew ≡ before)) → Closed site runner plan old new before now drained
  closed none only = record {
    below = below_crew;
    many = length-set crew 0 is ∙ leaves.many;
    ran = crew_ran;
    stood = crew_stood;
    failed = one_failed;
    steady = none_failed;
    alone = λ one. is_alone none (only one).0 (only one).1;
  }
