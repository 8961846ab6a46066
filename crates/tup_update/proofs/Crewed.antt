-- What a crew that drained a board says of the causes of an update, and of what its runners ran.
use Rattle.std.proofs.Common.{◌≡◌, ◌≢◌, ◌<◌, ◌≤◌, ◌==◌, ◌-◌, ◌⊎◌, inl, inr, ℕ, zero, suc, Bool, true, false, cond, if◌then◌else◌, List, [], ◌∷◌, ◌++◌, map, length, get_or, take, Option, Some, None, All, refl, sym, ap, ap₂, subst, arith, append-nil, ◌∙◌}
use Rattle.std.specs.Prelude.{Contains}
use Rattle.std.specs.List.{slice_get}
use Rattle.std.specs.Option.{option_map}
use Rattle.std.proofs.lemmas.List.{length-map}
use Rattle.std.proofs.lemmas.List.Elements.{All-cons, All-head, All-nil, All-tail}
use Rattle.std.proofs.lemmas.Option.{get_or_from_slice_get, none-some, same_Some, slice_get-get_or, slice_get-map, slice_get_cases, slice_get_within}
use Rattle.tup_path.specs.Name.{Names}
use Rattle.tup_site.specs.declared.fault.SiteFailed.TheVariants as failed
use Rattle.tup_rule.specs.declared.rule.Rule.{Rule}
use Rattle.tup_rule.specs.declared.rule.RuleName.{RuleName}
use Rattle.tup_access.specs.declared.verdict.Verdict.{Verdict}
use Rattle.tup_core.specs.declared.event.Cause.TheVariants as cause
use Rattle.tup_core.specs.declared.event.CoreEvent.{CoreEvent}
use Rattle.tup_core.specs.declared.event.CoreEvent.TheVariants.{Claim, Ask, Deny, Finish, Stop as Stopped}
use Rattle.tup_core.specs.declared.plan.Plan.{Plan}
use Rattle.tup_core.specs.Run.{claims, seat_of}
use Rattle.tup_board.specs.Entries.{entries_at}
use Rattle.tup_board.specs.Calls.{RanAll as BoardRan, commands}
use Rattle.tup_board.specs.declared.answers.Drained.{Drained}
use Rattle.tup_board.specs.declared.answers.Drained.TheVariants.{Done, Left}
use Rattle.tup_parallel.specs.Parallel.{OneFailed, RanAt}
use Rattle.tup_phases.specs.Prepared.{StopsBefore}
use Rattle.tup_promise.specs.Cause.{CrewRunCause, OneRose}
use Rattle.tup_promise.specs.Ran.{CrewRuns, RanAll, RanAllButLast, RunsShare, RunsThese, command_of, share}
use Rattle.tup_promise.specs.declared.stop.Stop.{Stop}
use Rattle.tup_promise.specs.declared.stop.Stop.TheVariants as stop
use Rattle.tup_update.specs.Names.{name_in}
use Rattle.tup_update.specs.Run.{IsEnd, StopsBy}
use Rattle.tup_update.proofs.Commands.{one_more}
use Rattle.tup_update.proofs.Counting.{ran_these, without_last}

-- ---- the seats that claimed
-- the seats of the claims, in their order
abbrev pub claimers : List CoreEvent → List ℕ
claimers [] = []
claimers (Claim seat number ∷ events) = seat ∷ claimers events
claimers (event ∷ events) = claimers events

pub claimers_many : (events : List CoreEvent) → length (claimers events) ≡ length (claims events)
claimers_many [] = refl
claimers_many (Claim seat number ∷ events) = ap suc (claimers_many events)
claimers_many (Ask seat text answer ∷ events) = claimers_many events
claimers_many (Deny seat text verdict ∷ events) = claimers_many events
claimers_many (Finish seat verdict writes ∷ events) = claimers_many events
claimers_many (Stopped seat why ∷ events) = claimers_many events

pub claimers_below : (jobs : ℕ) (events : List CoreEvent) → All (λ event. seat_of event < jobs) events → All (λ seat. seat < jobs) (claimers events)
claimers_below jobs [] below = All-nil (λ seat. seat < jobs)
claimers_below jobs (Claim seat number ∷ events) below =
    let Below : CoreEvent → Type 0 = λ event. seat_of event < jobs in
    All-cons (λ one. one < jobs) seat (claimers events) (All-head Below (Claim seat number) events below) (claimers_below jobs events (All-tail Below (Claim seat number) events below))
claimers_below jobs (Ask seat text answer ∷ events) below = claimers_below jobs events (All-tail (λ event. seat_of event < jobs) (Ask seat text answer) events below)
claimers_below jobs (Deny seat text verdict ∷ events) below = claimers_below jobs events (All-tail (λ event. seat_of event < jobs) (Deny seat text verdict) events below)
claimers_below jobs (Finish seat verdict writes ∷ events) below = claimers_below jobs events (All-tail (λ event. seat_of event < jobs) (Finish seat verdict writes) events below)
claimers_below jobs (Stopped seat why ∷ events) below = claimers_below jobs events (All-tail (λ event. seat_of event < jobs) (Stopped seat why) events below)

-- ---- what one runner ran
module _ (plan : Plan) (seat : ℕ) where
  -- the share of a seat is what it claimed
  pub share_ran : (events : List CoreEvent) (ran : List RuleName) → map Some ran ≡ map (name_in plan.rules) (claims events) → map command_of (share seat (claimers events) ran) ≡ commands plan (entries_at seat events)
  share_ran [] ran same = refl
  share_ran (Claim at number ∷ events) [] same = absurd (cc)
  share_ran (Claim at number ∷ events) (name ∷ ran) same = by (at == seat) (share_ran events ran rest)
    where
      here : Some name ≡ name_in plan.rules number
      here = cc

      rest : map Some ran ≡ map (name_in plan.rules) (claims events)
      rest = cc

      by : (is : Bool) → map command_of (share seat (claimers events) ran) ≡ commands plan (entries_at seat events) → map command_of (if is then name ∷ share seat (claimers events) ran else share seat (claimers events) ran)
          ≡ commands plan (cond is (Claim at number ∷ entries_at seat events) (entries_at seat events))
      by true more = one_more plan.rules (name_in plan.rules) number (claims (entries_at seat events)) name (share seat (claimers events) ran) here refl more (slice_get plan.rules number) refl
      by false more = more
  share_ran (Ask at text answer ∷ events) ran same = by (at == seat) (share_ran events ran same)
    where
      by : (is : Bool) → map command_of (share seat (claimers events) ran) ≡ commands plan (entries_at seat events) → map command_of (share seat (claimers events) ran) ≡ commands plan (cond is (Ask at text answer ∷ entries_at seat events) (entries_at seat events))
      by true more = more
      by false more = more
  share_ran (Deny at text verdict ∷ events) ran same = by (at == seat) (share_ran events ran same)
    where
      by : (is : Bool) → map command_of (share seat (claimers events) ran) ≡ commands plan (entries_at seat events) → map command_of (share seat (claimers events) ran) ≡ commands plan (cond is (Deny at text verdict ∷ entries_at seat events) (entries_at seat events))
      by true more = more
      by false more = more
  share_ran (Finish at verdict writes ∷ events) ran same = by (at == seat) (share_ran events ran same)
    where
      by : (is : Bool) → map command_of (share seat (claimers events) ran) ≡ commands plan (entries_at seat events) → map command_of (share seat (claimers events) ran) ≡ commands plan (cond is (Finish at verdict writes ∷ entries_at seat events) (entries_at seat events))
      by true more = more
      by false more = more
  share_ran (Stopped at why ∷ events) ran same = by (at == seat) (share_ran events ran same)
    where
      by : (is : Bool) → map command_of (share seat (claimers events) ran) ≡ commands plan (entries_at seat events) → map command_of (share seat (claimers events) ran) ≡ commands plan (cond is (Stopped at why ∷ entries_at seat events) (entries_at seat events))
      by true more = more
      by false more = more

-- all of a share, whatever the update came to
all_shared : (rules : List RuleName) (old new : List (Names × List ℕ)) (stopped : Option Stop) → RanAll rules old new → RunsShare rules old new stopped
all_shared rules old new None all = all
all_shared rules old new (Some by) all = inl all

-- or all but its last, where something stopped it
less_shared : (rules : List RuleName) (old new : List (Names × List ℕ)) (stopped : Option Stop) → stopped ≢ None → RanAll rules old new ⊎ RanAllButLast rules old new → RunsShare rules old new stopped
less_shared rules old new None some ran = absurd (some refl)
less_shared rules old new (Some by) some ran = ran

pub shared : (plan : Plan) (seat : ℕ) (events : List CoreEvent) (ran : List RuleName) (old new : List (Names × List ℕ)) (stopped : Option Stop) → map Some ran ≡ map (name_in plan.rules) (claims events)
    → (Contains events (Stopped seat cause.Memory) → stopped ≢ None) → RanAt plan seat events old new → RunsShare (share seat (claimers events) ran) old new stopped
shared plan seat events ran old new stopped same some (inl all) =
    all_shared (share seat (claimers events) ran) old new stopped (all ∙ ap (λ (more : List (Names × List ℕ)). old ++ more) (sym (share_ran plan seat events ran same)))
shared plan seat events ran old new stopped same some (inr (there, less)) =
    less_shared (share seat (claimers events) ran) old new stopped (some there)
    (without_last plan.rules (λ _. None) old new (share seat (claimers events) ran) (less ∙ ap (λ (more : List (Names × List ℕ)). old ++ take (length more - 1) more) (sym (share_ran plan seat events ran same))))

-- ---- lists of runners
-- what stands at a place of the values of a list is the value of what stands there
pub value_of : {R A : Type 0} (f : R → A) (items : List R) (i : ℕ) (value : A) → slice_get (map f items) i ≡ Some value → (item : R) × (slice_get items i ≡ Some item) × (f item ≡ value)
value_of f [] i value here = absurd (none-some value here)
value_of f (item ∷ items) zero value here = (item, refl, same_Some (f item) value here)
value_of f (item ∷ items) (suc i) value here = value_of f items i value here

-- of a list of one
pub only_value : {R A : Type 0} (f : R → A) (items : List R) (value : A) → map f items ≡ value ∷ [] → (item : R) × (items ≡ item ∷ []) × (f item ≡ value)
only_value f [] value same = absurd (cc)
only_value f (item ∷ []) value same = let here : f item ≡ value = cc in (item, refl, here)
only_value f (item ∷ other ∷ items) value same = let more : f other ∷ map f items ≡ [] = cc in absurd (cc)

-- runners whose counts are the same one by one
pub same_counts : {R A : Type 0} (f : R → A) (before now : List R) → length now ≡ length before → ((i : ℕ) (d : R) → i < length before → f (get_or now i d) ≡ f (get_or before i d)) → map f now ≡ map f before
same_counts f [] [] many same = refl
same_counts f [] (item ∷ now) many same = absurd (omega (arith, many))
same_counts f (item ∷ before) [] many same = absurd (omega (arith, many))
same_counts f (was ∷ before) (is ∷ now) many same =
    ap₂ (λ x xs. x ∷ xs) (same 0 was (omega arith)) (same_counts f before now (omega (arith, many)) (λ i d less. same (suc i) d (omega (arith, less))))

-- those of one runner
pub alone_count : {R A : Type 0} (f : R → A) (before now : List R) → length now ≡ length before → length before ≡ 1 → ((d : R) → f (get_or now 0 d) ≡ f (get_or before 0 d)) → map f now ≡ map f before
alone_count {R} f before now many one same =
    same_counts f before now many (λ i d less. subst (λ (k : ℕ). f (get_or now k d) ≡ f (get_or before k d)) (first i less) (same d))
  where
    first : (i : ℕ) → i < length before → 0 ≡ i
    first i less = omega (arith, one, less)

-- ---- what the runners counted
-- one of them failed
pub one_rose : {R : Type 0} (faults : R → ℕ) (before now : List R) → length now ≡ length before → OneFailed faults before now → OneRose (map faults before) (map faults now)
one_rose {R} faults before now many (i, less, rose) = by (slice_get_cases before i).1
  where
    by : ((x : R) × (i < length before) × (slice_get before i ≡ Some x) × (get_or before i x ≡ x)) ⊎ ((length before ≤ i) × (slice_get before i ≡ None)) → OneRose (map faults before) (map faults now)
    by (inl (x, within, here, same)) = record {
      at = i;
      was = faults (get_or before i x);
      is = faults (get_or now i x);
      stood = slice_get-map faults before i ∙ ap (option_map faults) (slice_get-get_or before i x less);
      stands = slice_get-map faults now i ∙ ap (option_map faults) (slice_get-get_or now i x (omega (arith, less, many)));
      rose = rose x;
    }
    by (inr (past, none)) = absurd (omega (arith, less, past))

module _ (rules : List Rule) (bad : ℕ → Option Verdict) (before now : List ℕ) where
  steady_end : (stopped : Option Stop) → (stopped ≡ None → now ≡ before) → IsEnd rules bad stopped → (length before ≡ 1 → now ≡ before) → CrewRunCause before now stopped
  steady_end None stands end alone = stands refl
  steady_end (Some stop.NoStore) stands end alone = absurd end
  steady_end (Some (stop.BadStore offset)) stands end alone = absurd end
  steady_end (Some (stop.Sources fault)) stands end alone = absurd end
  steady_end (Some (stop.UserFile path written found)) stands end alone = absurd end
  steady_end (Some (stop.Bad name verdict)) stands end alone = alone
  steady_end (Some stop.Run) stands end alone = absurd end
  steady_end (Some stop.Full) stands end alone = absurd end
  steady_end (Some (stop.Outside why)) stands end alone = alone

  cause_as : (by : Stop) (stopped : Option Stop) → stopped ≡ Some by → CrewRunCause before now (Some by) → CrewRunCause before now stopped
  cause_as by stopped same is = subst (CrewRunCause before now) (sym same) is

  pub crew_cause : (drained : Drained) (stopped : Option Stop) → (drained ≡ Left cause.Run → OneRose before now) → (stopped ≡ None → now ≡ before) → (length before ≡ 1 → drained ≢ Left cause.Run → now ≡ before)
      → StopsBy rules drained stopped bad → CrewRunCause before now stopped
  crew_cause Done stopped rose stands alone stops = steady_end stopped stands stops (λ one. alone one (λ e. cc))
  crew_cause (Left cause.Bad) stopped rose stands alone stops = steady_end stopped stands stops (λ one. alone one (λ e. cc))
  crew_cause (Left cause.Site) stopped rose stands alone stops = cause_as (stop.Outside failed.Fault) stopped stops (λ one. alone one (λ e. cc))
  crew_cause (Left (cause.TooLarge n)) stopped rose stands alone stops = cause_as (stop.Outside (failed.TooLarge n)) stopped stops (λ one. alone one (λ e. cc))
  crew_cause (Left cause.Full) stopped rose stands alone stops = cause_as stop.Full stopped stops (λ one. alone one (λ e. cc))
  crew_cause (Left cause.Run) stopped rose stands alone stops = cause_as stop.Run stopped stops (rose refl)
  crew_cause (Left cause.Memory) stopped rose stands alone stops = cause_as (stop.Outside failed.Memory) stopped stops (λ one. alone one (λ e. cc))

-- ---- an update that ran none
-- it was stopped before its rules
pub crew_before : (counts : List ℕ) (by : Stop) → StopsBefore by → CrewRunCause counts counts (Some by)
crew_before counts stop.NoStore is = refl
crew_before counts (stop.BadStore offset) is = refl
crew_before counts (stop.Sources fault) is = refl
crew_before counts (stop.UserFile path written found) is = refl
crew_before counts (stop.Bad name verdict) is = absurd is
crew_before counts stop.Run is = absurd is
crew_before counts stop.Full is = λ one. refl
crew_before counts (stop.Outside why) is = λ one. refl

-- or there was no memory for them
pub crew_memory : (before now : List ℕ) (stopped : Option Stop) → stopped ≡ Some (stop.Outside failed.Memory) → now ≡ before → CrewRunCause before now stopped
crew_memory before now stopped is same = subst (CrewRunCause before now) (sym is) (λ one. same)

-- its runners were given none
pub crew_none : (ran : List RuleName) (before now : List (List (Names × List ℕ))) (stopped : Option Stop) → ran ≡ [] → now ≡ before → ((given : List (Names × List ℕ)) → RunsThese [] given given stopped)
    → CrewRuns ran before now stopped
crew_none ran before now stopped none same given =
    subst (λ (names : List RuleName). CrewRuns names before now stopped) (sym none) (subst (λ (l : List (List (Names × List ℕ))). CrewRuns [] before l stopped) (sym same) (record {
      many = refl;
      seats = [];
      each = refl;
      below = All-nil (λ seat. seat < length before);
      shares = λ seat old new was is. subst (λ (l : List (Names × List ℕ)). RunsShare [] old l stopped) (same_Some old new (sym was ∙ is)) (all_shared [] old old stopped (sym (append-nil old)));
      alone = λ old new was is. subst (λ (l : List (Names × List ℕ)). RunsThese [] old l stopped) (one old new (sym was ∙ is)) (given old);
    }))
  where
    one : (old new : List (Names × List ℕ)) → old ∷ [] ≡ new ∷ [] → old ≡ new
    one old new e = cc

-- ---- an update that ran some
-- a crew whose runners each ran what their seats claimed
pub crew_runs : {R : Type 0} (given : R → List (Names × List ℕ)) (plan : Plan) (events : List CoreEvent) (bad : ℕ → Option Verdict) (before now : List R) (ran : List RuleName) (drained : Drained) (stopped : Option Stop)
    → length now ≡ length before → map Some ran ≡ map (name_in plan.rules) (claims events) → map command_of ran ≡ commands plan events → All (λ event. seat_of event < length before) events
    → ((seat : ℕ) → Contains events (Stopped seat cause.Memory) → stopped ≢ None) → ((i : ℕ) (d : R) → i < length before → RanAt plan i events (given (get_or before i d)) (given (get_or now i d)))
    → (length before ≡ 1 → (d : R) → BoardRan plan events (given (get_or before 0 d)) (given (get_or now 0 d)) drained) → StopsBy plan.rules drained stopped bad → CrewRuns ran (map given before) (map given now) stopped
crew_runs {R} given plan events bad before now ran drained stopped many named same below some ran_at alone stops = record {
  many = length-map now given ∙ many ∙ sym (length-map before given);
  seats = claimers events;
  each = claimers_many events ∙ sym (length-map (claims events) (name_in plan.rules)) ∙ ap length (sym named) ∙ length-map ran Some;
  below = subst (λ (n : ℕ). All (λ seat. seat < n) (claimers events)) (sym (length-map before given)) (claimers_below (length before) events below);
  shares = λ seat old new was is. one_share seat old new (value_of given before seat old was) (value_of given now seat new is);
  alone = λ old new was is. by old new (only_value given before old was) (only_value given now new is);
}
  where
    one_share : (seat : ℕ) (old new : List (Names × List ℕ)) → ((item : R) × (slice_get before seat ≡ Some item) × (given item ≡ old)) → ((item : R) × (slice_get now seat ≡ Some item) × (given item ≡ new))
        → RunsShare (share seat (claimers events) ran) old new stopped
    one_share seat old new (was, here, old_is) (is, there, new_is) =
        shared plan seat events ran old new stopped named (some seat)
        (subst (λ (l : List (Names × List ℕ)). RanAt plan seat events l new) (ap given (get_or_from_slice_get before seat was was here) ∙ old_is)
        (subst (RanAt plan seat events (given (get_or before seat was))) (ap given (get_or_from_slice_get now seat is was there) ∙ new_is) (ran_at seat was (slice_get_within before seat was here))))

    by : (old new : List (Names × List ℕ)) → ((item : R) × (before ≡ item ∷ []) × (given item ≡ old)) → ((item : R) × (now ≡ item ∷ []) × (given item ≡ new)) → RunsThese ran old new stopped
    by old new (was, here, old_is) (is, there, new_is) =
        ran_these plan.rules bad ran old new plan events same drained stopped
        (subst (λ (l : List (Names × List ℕ)). BoardRan plan events l new drained) (ap (λ (l : List R). given (get_or l 0 was)) here ∙ old_is)
        (subst (λ (l : List (Names × List ℕ)). BoardRan plan events (given (get_or before 0 was)) l drained) (ap (λ (l : List R). given (get_or l 0 was)) there ∙ new_is) (alone (ap length here) was)))
        stops
