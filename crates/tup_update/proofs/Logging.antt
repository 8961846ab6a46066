-- What the log of an update says whose rules were run on a board.
use Rattle.std.proofs.Common.{◌≡◌, ◌≢◌, ◌⊎◌, ◌<◌, inl, inr, ℕ, Bool, true, false, List, [], ◌∷◌, ◌++◌, length, map, Option, None, Some, refl, sym, ap, subst, arith, append-nil, append_assoc, ◌∙◌}
use Rattle.std.specs.List.Sorted.{IsPermutation}
use Rattle.std.specs.Prelude.{All}
use Rattle.std.specs.Bool.{nat_eq}
use Rattle.std.specs.List.{AllByRecursion, IsDistinct, slice_get}
use Rattle.std.proofs.lemmas.Bool.Decides.{eqb_tells}
use Rattle.std.proofs.lemmas.Map.Keys.{IsDistinct-IsPermutation}
use Rattle.std.specs.Option.{IfSome, IsSome, option_map}
use Rattle.std.proofs.lemmas.Bool.{true≢false}
use Rattle.std.proofs.lemmas.List.{length-map, map-append}
use Rattle.std.proofs.lemmas.List.Sorted.{All-permutation, IsPermutation-map, IsPermutation-refl}
use Rattle.std.specs.FinMap as finite
use Rattle.std.proofs.lemmas.List.Elements.{All-nil, All-weaker, filter_map-append}
use Rattle.std.proofs.lemmas.Option.{none-some, same_Some}
use Rattle.tup_path.specs.Name.{Names as PathNames}
use Rattle.tup_stamp.specs.declared.Stamp.{Stamp}
use Rattle.tup_site.specs.World.{World}
use Rattle.tup_site.specs.declared.fault.SiteFailed.TheVariants as failed
use Rattle.tup_access.specs.declared.verdict.Verdict.{Verdict}
use Rattle.tup_rule.specs.declared.rule.Rule.{Rule}
use Rattle.tup_rule.specs.declared.rule.RuleName.{RuleName}
use Rattle.tup_clean.specs.Clean.{is_good}
use Rattle.tup_rule.specs.Rule.{label_of, name_of}
use Rattle.tup_core.specs.declared.event.Cause.{Cause}
use Rattle.tup_core.specs.declared.event.Cause.TheVariants as cause
use Rattle.tup_core.specs.declared.event.CoreEvent.{CoreEvent}
use Rattle.tup_core.specs.declared.plan.Plan.{Plan}
use Rattle.tup_core.specs.Run.{IsRun, claims, end_of}
use Rattle.tup_core.specs.Step.{State, is_reached, opening}
use Rattle.tup_board.specs.Board.{BoardState, plan_of, state}
use Rattle.tup_board.specs.Calls.{Drains}
use Rattle.tup_board.specs.declared.answers.Drained.{Drained}
use Rattle.tup_board.specs.declared.answers.Drained.TheVariants.{Done, Left}
use Rattle.tup_phases.specs.Logged.{AreBegun, AreGood, AreGoodBefore, BeginsNone, EndsBadly, EndsFirst, EndsSoon, EndsWell as LogEndsWell, IsCutOff, IsLogged, ended_rules}
use Rattle.tup_promise.specs.declared.log.EndedRule.{EndedRule}
use Rattle.tup_promise.specs.Interleaved.{Interleave}
use Rattle.tup_promise.specs.declared.log.Log.{Log}
use Rattle.tup_promise.specs.declared.log.Step.{Step}
use Rattle.tup_promise.specs.declared.stop.Stop.{Stop}
use Rattle.tup_promise.specs.declared.stop.Stop.TheVariants as stop
use Rattle.tup_phases.specs.Prepared.{LogsBefore, StopsBefore}
use Rattle.tup_phases.specs.Spared.{LeavesTree}
use Rattle.tup_update.specs.Ended.{TellsAll, TellsFor, TellsFront, ends, nothing_claimed, numbers, told_ends, told_of}
use Rattle.tup_update.specs.Names.{name_in}
use Rattle.tup_update.specs.Run.{IsEnd, StopsBy, StopsRunning}
use Rattle.tup_update.specs.Steps.{steps_of}
use Rattle.tup_update.proofs.Counting.{left_for}
use Rattle.tup_update.proofs.Claimed.{Knows, knows_none}
use Rattle.tup_update.proofs.Ending.{EndsWell, GoodBefore, IsBelow, IsNoted, Own, all_begun, all_seats, cut_off, good_before, none_cut, none_noted, noted_ends, own_begun}
use Rattle.tup_update.proofs.FirstBad.{bad_is_there}
use Rattle.tup_update.proofs.Interleaving.{interleave_map, run_interleaves}
use Rattle.tup_update.proofs.Telling.{End, HasOne, all_back, all_front, front_apart, good_among, name_or, rules_in, taken_names, told_all_names, told_good, told_many, told_split}
use Rattle.tup_update.proofs.Working.{at_work, work_none}

-- an update was stopped by nothing, by a bad verdict, or by something else
stop_cases : (stopped : Option Cause) → (stopped ≡ None) ⊎ ((stopped ≡ Some cause.Bad) ⊎ ((why : Cause) × (why ≢ cause.Bad) × (stopped ≡ Some why)))
stop_cases None = inl refl
stop_cases (Some cause.Bad) = inr (inl refl)
stop_cases (Some cause.Site) = inr (inr (cause.Site, (λ e. cc), refl))
stop_cases (Some (cause.TooLarge bytes)) = inr (inr (cause.TooLarge bytes, (λ e. cc), refl))
stop_cases (Some cause.Full) = inr (inr (cause.Full, (λ e. cc), refl))
stop_cases (Some cause.Run) = inr (inr (cause.Run, (λ e. cc), refl))
stop_cases (Some cause.Memory) = inr (inr (cause.Memory, (λ e. cc), refl))

-- ---- the rules that ended are some of those that were claimed
-- numbers that stand once in a list stand once in its front
distinct_front : (front rest : List ℕ) → IsDistinct nat_eq (front ++ rest) → IsDistinct nat_eq front
unfolding IsDistinct
distinct_front [] rest once = tt
distinct_front (first ∷ front) rest once = (apart front rest once.0, distinct_front front rest once.1)
  where
    apart : (front rest : List ℕ) → AllByRecursion (λ other. nat_eq first other ≡ false) (front ++ rest) → AllByRecursion (λ other. nat_eq first other ≡ false) front
    apart [] rest all = tt
    apart (other ∷ front) rest all = (all.0, apart front rest all.1)

-- each ended once, and is of the reach
pub record EndedOnce (plan : Plan) (history : List CoreEvent) : Type 0 where
  pub once : IsDistinct nat_eq (numbers (ends history))
  pub reached : All (λ number. is_reached plan number ≡ true) (numbers (ends history))

pub ended_once : (plan : Plan) (files : List (PathNames × Stamp)) (history : List CoreEvent) → IsRun plan (opening plan files) history → IsDistinct nat_eq (claims history) → All (λ number. is_reached plan number ≡ true) (claims history)
    → EndedOnce plan history
ended_once plan files history run once reached =
    let cut = cut_off plan 16 (opening plan files) history in
    let are : IsPermutation (claims history) (numbers (ends history) ++ cut) =
    subst (λ (l : List ℕ). IsPermutation (l ++ claims history) (numbers (ends history) ++ cut)) (work_none 16 (λ _. None) (λ i. refl))
    (all_begun plan 16 history (opening plan files) nothing_claimed (knows_none plan files) (all_seats plan history (opening plan files) run) run) in
    record {
      once = distinct_front (numbers (ends history)) cut (IsDistinct-IsPermutation nat_eq flips (claims history) (numbers (ends history) ++ cut) are once);
      reached =
          all_front (λ number. is_reached plan number ≡ true) (numbers (ends history)) cut
          (All-permutation (λ number. is_reached plan number ≡ true) (claims history) (numbers (ends history) ++ cut) are reached);
    }
  where
    flips : (x y : ℕ) → nat_eq x y ≡ nat_eq y x
    flips x y = elim (eqb_tells x y) [
      | inl same ↦ subst (λ (n : ℕ). nat_eq x n ≡ nat_eq n x) same.1 refl
      | inr apart ↦ elim (eqb_tells y x) [
        | inl same ↦ absurd (apart.1 (sym same.1))
        | inr other ↦ apart.0 ∙ sym other.0
      ]
    ]

module _ (plan : Plan) (files : List (PathNames × Stamp)) (events : List CoreEvent) (run : IsRun plan (opening plan files) events) (jobs : ℕ) (below : All (IsBelow jobs) events)
    (over : (seat : ℕ) → (end_of plan (opening plan files) events).seats seat ≡ None) (log : Log) (named : map Some log.ran ≡ map (name_in plan.rules) (claims events)) (stepped : log.steps ≡ steps_of events) where
  abbrev final : State
  final = end_of plan (opening plan files) events

  abbrev list : List End
  list = ends events

  abbrev told : List EndedRule
  told = told_ends plan.rules list

  -- the rules that were cut off
  abbrev cut : List ℕ
  cut = cut_off plan jobs (opening plan files) events

  abbrev cut_names : List RuleName
  cut_names = map (name_or plan.rules) cut

  knows : Knows nothing_claimed (opening plan files)
  knows = knows_none plan files

  -- ---- the numbers
  all_are : IsPermutation (claims events) (numbers list ++ cut)
  all_are =
      subst (λ (l : List ℕ). IsPermutation (l ++ claims events) (numbers list ++ cut)) (work_none jobs (λ _. None) (λ i. refl))
      (all_begun plan jobs events (opening plan files) nothing_claimed knows below run)

  own : jobs ≡ 1 → All Own events
  own one = All-weaker (IsBelow 1) Own (λ event less. omega (arith, less)) events (subst (λ (n : ℕ). All (IsBelow n) events) one below)

  own_are : jobs ≡ 1 → claims events ≡ numbers list ++ cut
  own_are one =
      own_begun plan events (opening plan files) None nothing_claimed refl knows tt (own one) run
      ∙ ap (λ (n : ℕ). numbers list ++ cut_off plan n (opening plan files) events) (sym one)

  -- ---- the names
  taken : (log.ran ≡ map (name_or plan.rules) (claims events)) × All (HasOne plan.rules) (claims events)
  taken = taken_names plan.rules (claims events) log.ran named

  have_all : All (HasOne plan.rules) (numbers list ++ cut)
  have_all = All-permutation (HasOne plan.rules) (claims events) (numbers list ++ cut) all_are taken.1

  have : All (HasOne plan.rules) (numbers list)
  have = all_front (HasOne plan.rules) (numbers list) cut have_all

  -- those of the rules that ended
  ended_are : (rest : List EndedRule) → log.ended ++ rest ≡ told → map (name_or plan.rules) (numbers list) ≡ ended_rules log ++ rules_in rest
  ended_are rest parts = sym (told_all_names plan.rules list have) ∙ ap rules_in (sym parts) ∙ map-append (λ (one : EndedRule). one.rule) log.ended rest

  -- and of those that were cut off
  names_are : (rest : List EndedRule) → log.ended ++ rest ≡ told → map (name_or plan.rules) (numbers list ++ cut) ≡ ended_rules log ++ (rules_in rest ++ cut_names)
  names_are rest parts =
      map-append (name_or plan.rules) (numbers list) cut
      ∙ ap (λ (front : List RuleName). front ++ cut_names) (ended_are rest parts)
      ∙ append_assoc (ended_rules log) (rules_in rest) cut_names

  -- how they followed each other
  follow : (rest : List EndedRule) → log.ended ++ rest ≡ told → Interleave jobs [] log.steps log.ran (ended_rules log ++ rules_in rest)
  follow rest parts =
      let ended = ended_rules log ++ rules_in rest in
      subst (λ (steps : List Step). Interleave jobs [] steps log.ran ended) (sym stepped)
      (subst (λ (ran : List RuleName). Interleave jobs [] (steps_of events) ran ended) (sym taken.0)
      (subst (λ (ends : List RuleName). Interleave jobs [] (steps_of events) (map (name_or plan.rules) (claims events)) ends) (ended_are rest parts)
      (interleave_map (name_or plan.rules) jobs (steps_of events) [] (claims events) (numbers list) (run_interleaves plan jobs files events below run))))

  begun : (rest : List EndedRule) → log.ended ++ rest ≡ told → AreBegun jobs log (rules_in rest) cut_names
  begun rest parts = record {
    all =
        subst (λ (ran : List RuleName). IsPermutation ran (ended_rules log ++ (rules_in rest ++ cut_names))) (sym taken.0)
        (subst (IsPermutation (map (name_or plan.rules) (claims events))) (names_are rest parts) (IsPermutation-map (name_or plan.rules) (claims events) (numbers list ++ cut) all_are));
    alone = λ one. taken.0 ∙ ap (map (name_or plan.rules)) (own_are one) ∙ names_are rest parts;
    steps = follow rest parts;
  }

  ends_first : TellsFront told [] log.ended → EndsFirst jobs log
  ends_first (rest, parts) = record { left = rules_in rest; others = cut_names; begun = begun rest parts }

  -- where nothing was stopped none was cut off
  none_cut_names : final.stopped ≡ None → cut_names ≡ []
  none_cut_names going = ap (map (name_or plan.rules)) (none_cut plan jobs events (opening plan files) going over run)

  -- ---- the verdicts
  -- some ends in front of others
  module _ (front back : List End) (are : list ≡ front ++ back) where
    told_parts : told ≡ told_ends plan.rules front ++ told_ends plan.rules back
    told_parts = ap (told_ends plan.rules) are ∙ filter_map-append (told_of plan.rules) front back

    have_parts : All (HasOne plan.rules) (numbers front ++ numbers back)
    have_parts = subst (All (HasOne plan.rules)) (ap numbers are ∙ map-append (λ (end : End). end.0) front back) have

    front_many : length (told_ends plan.rules front) ≡ length front
    front_many = told_many plan.rules front (all_front (HasOne plan.rules) (numbers front) (numbers back) have_parts)

    back_many : length (told_ends plan.rules back) ≡ length back
    back_many = told_many plan.rules back (all_back (HasOne plan.rules) (numbers front) (numbers back) have_parts)

  ran_many : length log.ran ≡ length (claims events)
  ran_many = ap length taken.0 ∙ length-map (claims events) (name_or plan.rules)

  -- one that doesn't keep going
  module _ (off : plan.keep_going ≡ false) where
    good : GoodBefore final jobs (length (at_work jobs (λ _. None) ++ claims events)) list
    good = good_before plan jobs off events (opening plan files) nothing_claimed knows below refl run

    -- as many were begun as were claimed
    begun_many : length (at_work jobs (λ _. None) ++ claims events) ≡ length log.ran
    begun_many = ap (λ (l : List ℕ). length (l ++ claims events)) (work_none jobs (λ _. None) (λ i. refl)) ∙ sym ran_many

    -- that a bad verdict stopped ends soon
    ends_soon : log.ended ≡ told → final.stopped ≡ Some cause.Bad → EndsSoon jobs log
    ends_soon is_told stopped =
        let few = good.bad stopped in
        let many = begun_many in
        let long = front_many good.front good.back good.are in
        record {
          front = told_ends plan.rules good.front;
          back = told_ends plan.rules good.back;
          are = is_told ∙ told_parts good.front good.back good.are;
          good = told_good plan.rules good.front good.well;
          few = omega (arith, few, many, long);
        }

    -- and one that something else cut off has few ends left
    good_until : TellsFront told [] log.ended → (why : Cause) → why ≢ cause.Bad → final.stopped ≡ Some why → AreGoodBefore jobs log.ended
    good_until (rest, parts) why other stopped =
        let apart = front_apart log.ended rest (told_ends plan.rules good.front) (told_ends plan.rules good.back) (parts ∙ told_parts good.front good.back good.are) (told_good plan.rules good.front good.well) in
        let short = apart.4 in
        let long = back_many good.front good.back good.are in
        let few = good.other why other stopped in
        record { front = apart.0; back = apart.1; are = apart.2; good = apart.3; few = omega (arith, short, long, few) }

    -- where nothing was stopped all ends are Good
    all_good : final.stopped ≡ None → All EndsWell list
    all_good going = subst (All EndsWell) (sym (good.are ∙ ap (λ (l : List End). good.front ++ l) (good.none going) ∙ append-nil good.front)) good.well

  -- ---- an end by the verdicts alone
  -- nothing else stopped it
  abbrev IsWhole : Type 0
  IsWhole = (why : Cause) → why ≢ cause.Bad → final.stopped ≡ Some why → ⊥

  module _ (is_told : log.ended ≡ told) where
    all_told : log.ended ++ [] ≡ told
    all_told = append-nil log.ended ∙ is_told

    -- where nothing was stopped
    well : final.stopped ≡ None → ((number : ℕ) → final.bad number ≡ None) → LogEndsWell jobs log
    well going none = record {
      begun = subst (AreBegun jobs log []) (none_cut_names going) (begun [] all_told);
      good = subst AreGood (sym is_told) (told_good plan.rules list (none_noted plan events (opening plan files) nothing_claimed knows run none));
    }

    -- a bad rule is among those that ended
    among : (number : ℕ) (verdict : Verdict) → final.bad number ≡ Some verdict → (front back : List End) × (list ≡ front ++ (number, verdict) ∷ back) × (is_good (Some verdict) ≡ false)
    among number verdict noted = by (noted_ends plan events (opening plan files) nothing_claimed knows run number verdict noted)
      where
        by : IsNoted (opening plan files) number verdict list → (front back : List End) × (list ≡ front ++ (number, verdict) ∷ back) × (is_good (Some verdict) ≡ false)
        by (inl before) = absurd (none-some verdict before)
        by (inr there) = there

    badly : IsWhole → (keep_going : Bool) → plan.keep_going ≡ keep_going → (name : RuleName) (verdict : Verdict) (number : ℕ) (rule : Rule) → slice_get plan.rules number ≡ Some rule → name ≡ name_of rule → final.bad number ≡ Some verdict →
        EndsBadly jobs keep_going log name verdict
    badly whole keep_going going name verdict number rule here name_is noted = record {
      others = cut_names;
      begun = begun [] all_told;
      front = told_ends plan.rules there.0;
      bad = one;
      back = told_ends plan.rules there.1;
      among = is_told ∙ ap (told_ends plan.rules) there.2 ∙ told_split plan.rules there.0 there.1 (number, verdict) one told_one;
      rule_is = sym name_is;
      verdict_is = refl;
      all = λ on. none_cut_names (goes (going ∙ on));
      soon = λ off. ends_soon (going ∙ off) is_told (stops (going ∙ off));
    }
      where
        there : (front back : List End) × (list ≡ front ++ (number, verdict) ∷ back) × (is_good (Some verdict) ≡ false)
        there = among number verdict noted

        one : EndedRule
        one = record { rule = name_of rule; label = label_of rule; verdict = verdict }

        told_one : told_of plan.rules (number, verdict) ≡ Some one
        told_one = ap (option_map (λ (rule : Rule). record { rule = name_of rule; label = label_of rule; verdict = verdict })) here

        -- one that keeps going wasn't stopped
        goes : plan.keep_going ≡ true → final.stopped ≡ None
        goes on = elim (stop_cases final.stopped) [
          | inl none ↦ none
          | inr stopped ↦ elim stopped [
            | inl bad ↦ absurd (true≢false (sym on ∙ (bad_is_there plan files events run bad).0))
            | inr other ↦ absurd (whole other.0 other.1 other.2)
          ]
        ]

        -- and one that doesn't was stopped for the bad verdict
        stops : plan.keep_going ≡ false → final.stopped ≡ Some cause.Bad
        stops off = elim (stop_cases final.stopped) [
          | inl none ↦ absurd (true≢false (sym (good_among there.0 there.1 (number, verdict) (subst (All EndsWell) there.2 (all_good off none))) ∙ there.3))
          | inr stopped ↦ elim stopped [
            | inl bad ↦ bad
            | inr other ↦ absurd (whole other.0 other.1 other.2)
          ]
        ]

  module _ (keep_going : Bool) (going : plan.keep_going ≡ keep_going) where
    log_end : (stopped : Option Stop) → IsWhole → (((number : ℕ) → final.bad number ≡ None) → final.stopped ≡ None) → IsEnd plan.rules final.bad stopped → TellsFor told [] log.ended stopped → IsLogged jobs keep_going log stopped
    log_end None whole goes none is_told = well is_told (goes none) none
    log_end (Some stop.NoStore) whole goes by_bad tells = absurd by_bad
    log_end (Some (stop.BadStore offset)) whole goes by_bad tells = absurd by_bad
    log_end (Some (stop.Sources fault)) whole goes by_bad tells = absurd by_bad
    log_end (Some (stop.UserFile path written found)) whole goes by_bad tells = absurd by_bad
    log_end (Some (stop.Bad name verdict)) whole goes at is_told = badly is_told whole keep_going going name verdict at.at at.rule at.is.here at.name_is at.is.came
    log_end (Some stop.Run) whole goes by_bad tells = absurd by_bad
    log_end (Some stop.Full) whole goes by_bad tells = absurd by_bad
    log_end (Some (stop.Outside failed.Fault)) whole goes by_bad tells = absurd by_bad
    log_end (Some (stop.Outside (failed.TooLarge bytes))) whole goes by_bad tells = absurd by_bad
    log_end (Some (stop.Outside failed.Memory)) whole goes by_bad tells = ends_first tells

    -- ---- one that something else cut off
    cut_short : (why : Cause) → why ≢ cause.Bad → Drains final (Left why) → TellsFront told [] log.ended → IsCutOff jobs keep_going log
    cut_short why other drains tells = record {
      ends = ends_first tells;
      good = λ off. good_until (going ∙ off) tells why other (left_for final why other drains);
    }

    log_as : (by : Stop) (stopped : Option Stop) → stopped ≡ Some by → IsLogged jobs keep_going log (Some by) → IsLogged jobs keep_going log stopped
    log_as by stopped is logged = subst (IsLogged jobs keep_going log) (sym is) logged

    pub logged : (drained : Drained) (stopped : Option Stop) → Drains final drained → StopsBy plan.rules drained stopped final.bad → TellsFor told [] log.ended stopped → IsLogged jobs keep_going log stopped
    logged Done stopped drains stops tells = log_end stopped (λ why other is. none-some why (sym drains.0 ∙ is)) (λ none. drains.0) stops tells
    logged (Left cause.Bad) stopped drains stops tells = log_end stopped (whole drains) (goes drains) stops tells
      where
        whole : Drains final (Left cause.Bad) → IsWhole
        whole (inl by_bad) why other is = other (same_Some why cause.Bad (sym is ∙ by_bad))
        whole (inr (none, same, some)) why other is = none-some why (sym none ∙ is)

        goes : Drains final (Left cause.Bad) → ((number : ℕ) → final.bad number ≡ None) → final.stopped ≡ None
        goes (inl by_bad) none = let there = bad_is_there plan files events run by_bad in absurd (cc (subst IsSome (none there.1) there.2))
        goes (inr (none, same, some)) all = none
    logged (Left cause.Site) stopped drains stops tells = log_as (stop.Outside failed.Fault) stopped stops (cut_short cause.Site (λ e. cc) drains (subst (TellsFor told [] log.ended) stops tells))
    logged (Left (cause.TooLarge bytes)) stopped drains stops tells = log_as (stop.Outside (failed.TooLarge bytes)) stopped stops (cut_short (cause.TooLarge bytes) (λ e. cc) drains (subst (TellsFor told [] log.ended) stops tells))
    logged (Left cause.Full) stopped drains stops tells = log_as stop.Full stopped stops (cut_short cause.Full (λ e. cc) drains (subst (TellsFor told [] log.ended) stops tells))
    logged (Left cause.Run) stopped drains stops tells = log_as stop.Run stopped stops (cut_short cause.Run (λ e. cc) drains (subst (TellsFor told [] log.ended) stops tells))
    logged (Left cause.Memory) stopped drains stops tells = log_as (stop.Outside failed.Memory) stopped stops (ends_first (subst (TellsFor told [] log.ended) stops tells))

-- ---- the same of a board
pub board_logged : {S : Type 0} (board : BoardState S) (plan : Plan) → plan_of board ≡ plan → IsRun (plan_of board) (opening (plan_of board) (finite.entries board.opening.graph.nodes.seen)) board.history →
    (jobs : ℕ) → All (IsBelow jobs) board.history → ((seat : ℕ) → (state board).seats seat ≡ None) → (log : Log) (drained : Drained) (stopped : Option Stop) → Drains (state board) drained → StopsBy plan.rules drained stopped (state board).bad →
    map Some log.ran ≡ map (name_in plan.rules) (claims board.history) → log.steps ≡ steps_of board.history → TellsFor (told_ends plan.rules (ends board.history)) [] log.ended stopped → IsLogged jobs plan.keep_going log stopped
board_logged board plan is run jobs below over log drained stopped drains =
    subst (λ (p : Plan). StopsBy p.rules drained stopped (state board).bad → map Some log.ran ≡ map (name_in p.rules) (claims board.history) → log.steps ≡ steps_of board.history → TellsFor (told_ends p.rules (ends board.history)) [] log.ended stopped →
    IsLogged jobs p.keep_going log stopped) is
    (λ stops named stepped tells. logged (plan_of board) (finite.entries board.opening.graph.nodes.seen) board.history run jobs below over log named stepped (plan_of board).keep_going refl drained stopped drains stops tells)

-- ---- an update whose rules weren't run
-- none were begun
pub none_begun_of : (jobs : ℕ) (log : Log) → BeginsNone log → AreBegun jobs log [] []
none_begun_of jobs log none = record {
  all = subst (λ (ran : List RuleName). IsPermutation ran (ended_rules log ++ [])) (sym same) (IsPermutation-refl (ended_rules log ++ []));
  alone = λ one. same;
  steps =
      subst (λ (steps : List Step). Interleave jobs [] steps log.ran (ended_rules log ++ [])) (sym none.steps)
      (subst (λ (ran : List RuleName). Interleave jobs [] [] ran (ended_rules log ++ [])) (sym none.ran)
      (subst (λ (ended : List EndedRule). Interleave jobs [] [] [] (rules_in ended ++ [])) (sym none.ended) tt));
}
  where
    same : log.ran ≡ ended_rules log ++ []
    same = none.ran ∙ ap (λ (ended : List EndedRule). rules_in ended ++ []) (sym none.ended)

-- there was none to be run
pub none_logged : (jobs : ℕ) (keep_going : Bool) (log : Log) → BeginsNone log → IsLogged jobs keep_going log None
none_logged jobs keep_going log none = record {
  begun = none_begun_of jobs log none;
  good = subst AreGood (sym none.ended) (All-nil (λ (one : EndedRule). is_good (Some one.verdict) ≡ true));
}

-- the first of none
pub none_first : (jobs : ℕ) (log : Log) → BeginsNone log → EndsFirst jobs log
none_first jobs log none = record { left = []; others = []; begun = none_begun_of jobs log none }

none_cut_short : (jobs : ℕ) → 0 < jobs → (keep_going : Bool) (log : Log) → BeginsNone log → IsCutOff jobs keep_going log
none_cut_short jobs some keep_going log none = record {
  ends = none_first jobs log none;
  good = λ off. record {
    front = [];
    back = [];
    are = none.ended;
    good = All-nil (λ (one : EndedRule). is_good (Some one.verdict) ≡ true);
    few = some;
  };
}

-- there was no memory
pub memory_logged : (jobs : ℕ) (keep_going : Bool) (old log : Log) (stopped : Option Stop) → log ≡ old → stopped ≡ Some (stop.Outside failed.Memory) → BeginsNone old → IsLogged jobs keep_going log stopped
memory_logged jobs keep_going old log stopped same is none =
    subst (λ (l : Log). IsLogged jobs keep_going l stopped) (sym same) (subst (IsLogged jobs keep_going old) (sym is) (none_first jobs old none))

-- it stopped before any was run
pub before_logged : (jobs : ℕ) → 0 < jobs → (keep_going : Bool) (log : Log) (by : Stop) → StopsBefore by → BeginsNone log → LogsBefore log by → IsLogged jobs keep_going log (Some by)
before_logged jobs some keep_going log stop.NoStore is none logs = logs
before_logged jobs some keep_going log (stop.BadStore offset) is none logs = logs
before_logged jobs some keep_going log (stop.Sources fault) is none logs = logs
before_logged jobs some keep_going log (stop.UserFile path written found) is none logs = (logs, none)
before_logged jobs some keep_going log (stop.Bad name verdict) is none logs = absurd is
before_logged jobs some keep_going log stop.Run is none logs = absurd is
before_logged jobs some keep_going log stop.Full is none logs = none_cut_short jobs some keep_going log none
before_logged jobs some keep_going log (stop.Outside failed.Fault) is none logs = none_cut_short jobs some keep_going log none
before_logged jobs some keep_going log (stop.Outside (failed.TooLarge bytes)) is none logs = none_cut_short jobs some keep_going log none
before_logged jobs some keep_going log (stop.Outside failed.Memory) is none logs = none_first jobs log none

-- ---- which files stay
-- once rules are run nothing is said of them
pub running_spares : (old new : World) (stopped : Option Stop) → IfSome stopped StopsRunning → IfSome stopped (LeavesTree old new)
running_spares old new None stops = tt
running_spares old new (Some stop.NoStore) stops = absurd stops
running_spares old new (Some (stop.BadStore offset)) stops = absurd stops
running_spares old new (Some (stop.Sources fault)) stops = absurd stops
running_spares old new (Some (stop.UserFile path written found)) stops = absurd stops
running_spares old new (Some (stop.Bad name verdict)) stops = tt
running_spares old new (Some stop.Run) stops = tt
running_spares old new (Some stop.Full) stops = tt
running_spares old new (Some (stop.Outside why)) stops = tt

-- ---- what was told, all or a front
-- all is a front
pub whole_front : (whole old new : List EndedRule) → TellsAll whole old new → TellsFront whole old new
whole_front whole old new all = ([], append-nil new ∙ all)

pub all_tells : (whole old new : List EndedRule) → TellsAll whole old new → (stopped : Option Stop) → TellsFor whole old new stopped
all_tells whole old new all None = all
all_tells whole old new all (Some stop.NoStore) = whole_front whole old new all
all_tells whole old new all (Some (stop.BadStore offset)) = whole_front whole old new all
all_tells whole old new all (Some (stop.Sources fault)) = whole_front whole old new all
all_tells whole old new all (Some (stop.UserFile path written found)) = whole_front whole old new all
all_tells whole old new all (Some (stop.Bad name verdict)) = all
all_tells whole old new all (Some stop.Run) = whole_front whole old new all
all_tells whole old new all (Some stop.Full) = whole_front whole old new all
all_tells whole old new all (Some (stop.Outside why)) = whole_front whole old new all

-- what is told by an update that stopped somehow is a front
pub tells_front : (whole old new : List EndedRule) (stopped : Option Stop) → TellsFor whole old new stopped → TellsFront whole old new
tells_front whole old new None all = whole_front whole old new all
tells_front whole old new (Some stop.NoStore) front = front
tells_front whole old new (Some (stop.BadStore offset)) front = front
tells_front whole old new (Some (stop.Sources fault)) front = front
tells_front whole old new (Some (stop.UserFile path written found)) front = front
tells_front whole old new (Some (stop.Bad name verdict)) all = whole_front whole old new all
tells_front whole old new (Some stop.Run) front = front
tells_front whole old new (Some stop.Full) front = front
tells_front whole old new (Some (stop.Outside why)) front = front
