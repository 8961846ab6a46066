-- How a core answers each event.
use Rattle.std.proofs.Common.{◌≡◌, ◌↔◌, ℕ, ◌<◌, ◌≤◌, ◌==◌, nat_lt, Bool, true, false, List, [], length, get_or, map, Vec, Option, None, Some, Ok, Err, refl, sym, ap, ◌∙◌, subst, inl, inr, arith}
use Rattle.std.specs.Prelude.{Result, if◌then◌else◌, slice_get, slice_set, unwrap_or, IsTrue}
use Rattle.std.specs.Option.{option_map}
use Rattle.std.specs.Result.{IsErrAnd, OnErr}
use Rattle.std.specs.Vec.{with_items}
use Rattle.std.proofs.lemmas.Bool.{true≢false, cases_eq, eqb-true, eq-eqb, ltb-true}
use Rattle.std.proofs.lemmas.Option.{same_Some, none-some, slice_get_within, unwrap_or-slice_get, slice_get-get_or, slice_get_read}
use Rattle.std.proofs.lemmas.List.{length-set, nil_from_length, with_items_is}
use Rattle.tup_path.specs.Name.{Names}
use Rattle.tup_stamp.specs.declared.Stamp.{Stamp}
use Rattle.tup_rule.specs.declared.rule.Rule.{Rule}
use Rattle.tup_rule.specs.Rule.{among, writes}
use Rattle.tup_access.specs.declared.verdict.Verdict.{Verdict}
use Rattle.tup_access.specs.declared.verdict.Verdict.TheVariants.{Good, Failed, IllegalRead, IllegalWrite, Unwritten, TooManyReads}
use Rattle.tup_access.specs.declared.verdict.Access.TheVariants.{Yes, No}
use Rattle.tup_access.specs.Access.{access}
use Rattle.tup_core.specs.declared.event.Cause.{Cause}
use Rattle.tup_core.specs.declared.event.Cause.TheVariants.{Bad}
use Rattle.tup_core.specs.declared.event.CoreEvent.{CoreEvent}
use Rattle.tup_core.specs.declared.event.CoreEvent.TheVariants.{Claim, Ask, Deny, Finish, Stop}
use Rattle.tup_core.specs.declared.fault.CoreFault.{CoreFault}
use Rattle.tup_core.specs.declared.fault.CoreFault.TheVariants.{NotEnabled, Memory}
use Rattle.tup_core.specs.declared.plan.Plan.{Plan}
use Rattle.tup_core.specs.declared.running.Running.{Running}
use Rattle.tup_core.specs.declared.machine.Core.{Core}
use Rattle.tup_core.specs.Step.{State, changed, with_stamps, is_reached, IsReady, Runs, CanAsk, CanDeny, CanFinish, FitsEnd, Step, asked, refused, emptied, ended, stopped_by, told}
use Rattle.tup_core.specs.Waiting.{flag, number, IsWaiting, CanRelease, Releases}
use Rattle.tup_core.specs.Files.{stamp_in, has_room}
use Rattle.tup_core.specs.Ending.{IsUnrefused}
use Rattle.tup_core.specs.Machine.{entry, state_of, IsSettled, IsCore, TakesMemory, Answers, Takes, Completes, MayEnd}
use Rattle.tup_core.proofs.ItemLaws.{set_same, set_other, items_set}
use Rattle.tup_core.proofs.WaitingLaws.{can_release, released}
use Rattle.tup_core.proofs.Orderly.{finished_is}
use Rattle.tup_core.proofs.MachineLaws.{ready_settled}

-- ---- answers

not_both : {T : Type 0} (fault : CoreFault) (done : T) → Err fault ≡ Ok done → ⊥
not_both fault done e = cc

not_refusal : {T : Type 0} → (let r : Result T CoreFault = Err Memory in r ≡ Err NotEnabled) → ⊥
not_refusal e = cc

-- an event that is taken
pub answer_ok : {T : Type 0} (plan : Plan) (old new : Core) (event : CoreEvent) (done : T) → IsCore plan new → new.files.first ≡ old.files.first → Step plan (state_of old) event (state_of new) → Answers plan old event (Ok done) new
answer_ok plan old new event done is first step = record {
  core = is;
  first = first;
  ok = λ one e. step;
  not_enabled = λ e. absurd (not_both NotEnabled done (sym e));
  memory = λ e. absurd (not_both Memory done (sym e));
  unchanged = λ fault e. absurd (not_both fault done (sym e));
}

-- ---- seats

-- what a seat runs, told by the list
pub seat_here : (seats : List (Option Running)) (seat : ℕ) (value : Option Running) → slice_get seats seat ≡ Some value → entry seats seat ≡ value
seat_here seats seat value here = ap (λ (o : Option (Option Running)). unwrap_or o None) here

pub seat_in : (seats : List (Option Running)) (seat : ℕ) (value : Option Running) → seat < length seats → entry seats seat ≡ value → slice_get seats seat ≡ Some value
seat_in seats seat value within here = slice_get-get_or seats seat None within ∙ ap Some (sym (unwrap_or-slice_get seats seat None) ∙ here)

-- one seat's rule changed, and each still runs a rule that passes
running_set : (P : ℕ → Type 0) (seats : List (Option Running)) (seat : ℕ) (value : Option Running) → seat < length seats → ((other : ℕ) (running : Running) → entry seats other ≡ Some running → P running.rule) →
    ((running : Running) → value ≡ Some running → P running.rule) → (other : ℕ) (running : Running) → entry (slice_set seats seat value) other ≡ Some running → P running.rule
running_set P seats seat value within had new other running now = elim (cases_eq other seat) [
  | inl same ↦ new running (sym (ap (entry (slice_set seats seat value)) same ∙ set_same seats seat value None within) ∙ now)
  | inr apart ↦ had other running (sym (set_other seats seat other value None apart) ∙ now)
]

-- a core of which only flags of claims, seats and the cause of a stop changed
core_seats : (plan : Plan) (old from : Core) → IsCore plan old → length from.claimed.items ≡ length plan.rules → length from.seats.items ≡ 16 → ((seat : ℕ) (running : Running) → entry from.seats.items seat ≡ Some running → IsSettled plan old running.rule) →
    IsCore plan (record old { claimed = from.claimed; seats = from.seats; stopped = from.stopped })
core_seats plan old from is claimed seats running = record {
  pending = is.pending;
  claimed = claimed;
  bad = is.bad;
  seats = seats;
  generated = is.generated;
  inputs = is.inputs;
  room = is.room;
  waiting = is.waiting;
  reached = is.reached;
  settled = is.settled;
  running = running;
}

-- an event for which there was no memory: the seats are as they were
pub answer_memory : {T : Type 0} (plan : Plan) (old from : Core) (event : CoreEvent) (result : Result T CoreFault) → IsCore plan old → TakesMemory (state_of old) event → from.seats.items ≡ old.seats.items → result ≡ Err Memory →
    Answers plan old event result (record old { seats = from.seats })
answer_memory {T} plan old from event result is takes seats refused_so = subst (λ (r : Result T CoreFault). Answers plan old event r (record old { seats = from.seats })) (sym refused_so) (record {
  core =
      core_seats plan old (record old { seats = from.seats }) is is.claimed (ap length seats ∙ is.seats)
      (subst (λ (items : List (Option Running)). (other : ℕ) (running : Running) → entry items other ≡ Some running → IsSettled plan old running.rule) (sym seats) is.running);
  first = refl;
  ok = λ done e. absurd (not_both Memory done e);
  not_enabled = λ e. absurd (not_refusal e);
  memory = λ e. takes;
  unchanged = λ fault e i. record {
    pending = flag old.pending.items;
    claimed = flag old.claimed.items;
    seats = entry (seats i);
    files = stamp_in old.files;
    bad = entry old.bad.items;
    stopped = old.stopped;
  };
})

-- a seat whose command may still ask
pub unrefused_here : (seats : List (Option Running)) (seat : ℕ) (running : Running) → slice_get seats seat ≡ Some (Some running) → running.denied ≡ None → IsUnrefused (entry seats seat)
unrefused_here seats seat running here going = (running, seat_here seats seat (Some running) here, going)

sits : (plan : Plan) (core : Core) (seat : ℕ) → IsCore plan core → seat < 16 → seat < length core.seats.items
sits plan core seat is within = subst (λ (n : ℕ). seat < n) (sym is.seats) within

-- ---- a claim

-- what a rule is that has just been claimed
abbrev pub fresh : ℕ → Running
fresh at = record { rule = at; asks = []; denied = None }

pub claim_taken : {T : Type 0} (plan : Plan) (old from : Core) (seat at : ℕ) (done : T) → IsCore plan old → slice_get old.seats.items seat ≡ Some None → IsReady plan (state_of old) at →
    from.claimed.items ≡ slice_set old.claimed.items at true → from.seats.items ≡ slice_set old.seats.items seat (Some (fresh at)) →
    Answers plan old (Claim seat at) (Ok done) (record old { claimed = from.claimed; seats = from.seats })
claim_taken plan old from seat at done is free ready claimed seats =
    let settled = ready_settled plan old at is ready in
    let claims : at < length old.claimed.items = subst (λ (n : ℕ). at < n) (sym is.claimed) settled.0 in
    let within = slice_get_within old.seats.items seat None free in
    answer_ok plan old (record old { claimed = from.claimed; seats = from.seats }) (Claim seat at) done
    (core_seats plan old (record old { claimed = from.claimed; seats = from.seats }) is (ap length claimed ∙ length-set old.claimed.items at true ∙ is.claimed) (ap length seats ∙ length-set old.seats.items seat (Some (fresh at)) ∙ is.seats)
    (subst (λ (items : List (Option Running)). (other : ℕ) (running : Running) → entry items other ≡ Some running → IsSettled plan old running.rule) (sym seats)
    (running_set (IsSettled plan old) old.seats.items seat (Some (fresh at)) within is.running (λ running now. subst (λ (r : Running). IsSettled plan old r.rule) (same_Some (fresh at) running now) settled)))) refl (
      (subst (λ (n : ℕ). seat < n) is.seats within, seat_here old.seats.items seat None free, ready),
      λ i. record {
        pending = flag old.pending.items;
        claimed = (ap flag claimed ∙ items_set old.claimed.items at true false claims) i;
        seats = (ap entry seats ∙ items_set old.seats.items seat (Some (fresh at)) None within) i;
        files = stamp_in old.files;
        bad = entry old.bad.items;
        stopped = old.stopped;
      },
    )

-- ---- an ask

-- one seat's command asked, or was refused
seat_changed : (plan : Plan) (old from : Core) (seat : ℕ) (change : Running → Running) → IsCore plan old → ((running : Running) → (change running).rule ≡ running.rule) → seat < 16 →
    from.seats.items ≡ slice_set old.seats.items seat (option_map change (entry old.seats.items seat)) →
    IsCore plan (record old { seats = from.seats }) × (state_of (record old { seats = from.seats }) ≡ record (state_of old) { seats = changed (entry old.seats.items) seat (option_map change (entry old.seats.items seat)) })
seat_changed plan old from seat change is keeps within seats =
    let value = option_map change (entry old.seats.items seat) in
    let inside = sits plan old seat is within in (
      core_seats plan old (record old { seats = from.seats }) is is.claimed (ap length seats ∙ length-set old.seats.items seat value ∙ is.seats)
          (subst (λ (items : List (Option Running)). (other : ℕ) (running : Running) → entry items other ≡ Some running → IsSettled plan old running.rule) (sym seats)
          (running_set (IsSettled plan old) old.seats.items seat value inside is.running (λ running now. same (entry old.seats.items seat) refl running now))),
      λ i. record {
        pending = flag old.pending.items;
        claimed = flag old.claimed.items;
        seats = (ap entry seats ∙ items_set old.seats.items seat value None inside) i;
        files = stamp_in old.files;
        bad = entry old.bad.items;
        stopped = old.stopped;
      },
    )
  where
    same : (here : Option Running) → entry old.seats.items seat ≡ here → (running : Running) → option_map change here ≡ Some running → IsSettled plan old running.rule
    same None e running now = absurd (none-some running now)
    same (Some was) e running now = subst (IsSettled plan old) (sym (keeps was) ∙ ap (λ (r : Running). r.rule) (same_Some (change was) running now)) (is.running seat was e)

pub ask_taken : {T : Type 0} (plan : Plan) (old from : Core) (seat : ℕ) (text : List ℕ) (answer : Option Stamp) (done : T) → IsCore plan old → CanAsk plan (state_of old) seat text answer →
    from.seats.items ≡ slice_set old.seats.items seat (option_map (asked text answer) (entry old.seats.items seat)) → Answers plan old (Ask seat text answer) (Ok done) (record old { seats = from.seats })
ask_taken plan old from seat text answer done is can seats =
    let both = seat_changed plan old from seat (asked text answer) is (λ running. refl) can.3.within seats in
    answer_ok plan old (record old { seats = from.seats }) (Ask seat text answer) done both.0 refl (can, both.1)

pub deny_taken : {T : Type 0} (plan : Plan) (old from : Core) (seat : ℕ) (text : List ℕ) (verdict : Verdict) (done : T) → IsCore plan old → CanDeny plan (state_of old) seat text verdict →
    from.seats.items ≡ slice_set old.seats.items seat (option_map (refused text verdict) (entry old.seats.items seat)) → Answers plan old (Deny seat text verdict) (Ok done) (record old { seats = from.seats })
deny_taken plan old from seat text verdict done is can seats =
    let both = seat_changed plan old from seat (refused text verdict) is (λ running. refl) can.2.within seats in
    answer_ok plan old (record old { seats = from.seats }) (Deny seat text verdict) done both.0 refl (can, both.1)

-- ---- a stop

pub stop_taken : {T : Type 0} (plan : Plan) (old from : Core) (seat : ℕ) (cause : Cause) (done : T) → IsCore plan old → seat < 16 → (cause ≡ Bad → ⊥) → from.seats.items ≡ slice_set old.seats.items seat None → from.stopped ≡ Some (unwrap_or old.stopped cause) →
    Answers plan old (Stop seat cause) (Ok done) (record old { seats = from.seats; stopped = from.stopped })
stop_taken plan old from seat cause done is within good seats stopped =
    let inside = sits plan old seat is within in
    answer_ok plan old (record old { seats = from.seats; stopped = from.stopped }) (Stop seat cause) done
    (core_seats plan old (record old { seats = from.seats; stopped = from.stopped }) is is.claimed (ap length seats ∙ length-set old.seats.items seat None ∙ is.seats)
    (subst (λ (items : List (Option Running)). (other : ℕ) (running : Running) → entry items other ≡ Some running → IsSettled plan old running.rule) (sym seats)
    (running_set (IsSettled plan old) old.seats.items seat None inside is.running (λ running now. absurd (none-some running now))))) refl (
      (within, good),
      λ i. record {
        pending = flag old.pending.items;
        claimed = flag old.claimed.items;
        seats = (ap entry seats ∙ items_set old.seats.items seat None None inside) i;
        files = stamp_in old.files;
        bad = entry old.bad.items;
        stopped = stopped i;
      },
    )

-- ---- what a seat's command may ask

-- a seat runs this rule, and its command was refused nothing
pub record IsAsking (plan : Plan) (core : Core) (seat : ℕ) (running : Running) (rule : Rule) : Type 0 where
  pub here : slice_get core.seats.items seat ≡ Some (Some running)
  pub going : running.denied ≡ None
  pub placed : slice_get plan.rules running.rule ≡ Some rule

-- a seat that runs something
pub seat_runs : (plan : Plan) (core : Core) (seat : ℕ) (running : Running) (rule : Rule) → IsCore plan core → slice_get core.seats.items seat ≡ Some (Some running) → slice_get plan.rules running.rule ≡ Some rule → Runs plan (state_of core) seat running rule
seat_runs plan core seat running rule is here placed = record {
  within = subst (λ (n : ℕ). seat < n) is.seats (slice_get_within core.seats.items seat (Some running) here);
  here = seat_here core.seats.items seat (Some running) here;
  placed = placed;
}

pub rule_within : (plan : Plan) (core : Core) (seat : ℕ) (running : Running) → IsCore plan core → slice_get core.seats.items seat ≡ Some (Some running) → running.rule < length plan.rules
rule_within plan core seat running is here = (is.running seat running (seat_here core.seats.items seat (Some running) here)).0

-- it runs but one
pub same_running : (plan : Plan) (core : Core) (seat : ℕ) (one other : Running) (rule : Rule) → slice_get core.seats.items seat ≡ Some (Some one) → Runs plan (state_of core) seat other rule → one ≡ other
same_running plan core seat one other rule here runs = same_Some one other (sym (seat_here core.seats.items seat (Some one) here) ∙ runs.here)

-- its command is judged by its rule and the number of its asks
same_access : (plan : Plan) (core : Core) (seat : ℕ) (one other : Running) (rule another : Rule) (text : List ℕ) → IsAsking plan core seat one rule → Runs plan (state_of core) seat other another →
    access plan.rules rule (length one.asks) text ≡ access plan.rules another (length other.asks) text
same_access plan core seat one other rule another text asking runs =
    let same = same_running plan core seat one other another asking.here runs in
    let ruled : rule ≡ another = same_Some rule another (sym asking.placed ∙ ap (λ (r : Running). slice_get plan.rules r.rule) same ∙ runs.placed) in
    λ i. access plan.rules (ruled i) (length (same i).asks) text

same_told : (plan : Plan) (core : Core) (seat : ℕ) (one other : Running) (rule another : Rule) (path : Names) → IsAsking plan core seat one rule → Runs plan (state_of core) seat other another → told rule (state_of core) path ≡ told another (state_of core) path
same_told plan core seat one other rule another path asking runs =
    let same = same_running plan core seat one other another asking.here runs in
    ap (λ (r : Rule). told r (state_of core) path) (same_Some rule another (sym asking.placed ∙ ap (λ (r : Running). slice_get plan.rules r.rule) same ∙ runs.placed))

yes_is : (one other : Names) → Yes one ≡ Yes other → one ≡ other
yes_is one other e = cc

no_is : (one other : Verdict) → No one ≡ No other → one ≡ other
no_is one other e = cc

yes_no : (path : Names) (verdict : Verdict) → Yes path ≡ No verdict → ⊥
yes_no path verdict e = cc

pub ask_yes : (plan : Plan) (core : Core) (seat : ℕ) (running : Running) (rule : Rule) (path : Names) (text : List ℕ) (answer : Option Stamp) (may : Bool) → IsCore plan core → IsAsking plan core seat running rule → access plan.rules rule (length running.asks) text ≡ Yes path →
    IsTrue may ↔ (told rule (state_of core) path ≡ answer) → IsTrue may ↔ CanAsk plan (state_of core) seat text answer
ask_yes plan core seat running rule path text answer may is asking granted tells = (
  λ up. (running, rule, path, seat_runs plan core seat running rule is asking.here asking.placed, asking.going, granted, sym (tells.0 up)),
  λ can.
      let same : path ≡ can.2 = yes_is path can.2 (sym granted ∙ same_access plan core seat running can.0 rule can.1 text asking can.3 ∙ can.5) in
      tells.1 (ap (told rule (state_of core)) same ∙ same_told plan core seat running can.0 rule can.1 can.2 asking can.3 ∙ sym can.6),
)

pub ask_no : (plan : Plan) (core : Core) (seat : ℕ) (running : Running) (rule : Rule) (verdict : Verdict) (text : List ℕ) (answer : Option Stamp) → IsAsking plan core seat running rule → access plan.rules rule (length running.asks) text ≡ No verdict →
    CanAsk plan (state_of core) seat text answer → ⊥
ask_no plan core seat running rule verdict text answer asking banned can = yes_no can.2 verdict (sym can.5 ∙ sym (same_access plan core seat running can.0 rule can.1 text asking can.3) ∙ banned)

pub deny_no : (plan : Plan) (core : Core) (seat : ℕ) (running : Running) (rule : Rule) (given verdict : Verdict) (text : List ℕ) (may : Bool) → IsCore plan core → IsAsking plan core seat running rule → access plan.rules rule (length running.asks) text ≡ No given →
    IsTrue may ↔ (given ≡ verdict) → IsTrue may ↔ CanDeny plan (state_of core) seat text verdict
deny_no plan core seat running rule given verdict text may is asking banned tells = (
  λ up. (running, rule, seat_runs plan core seat running rule is asking.here asking.placed, asking.going, banned ∙ ap No (tells.0 up)),
  λ can. tells.1 (no_is given verdict (sym banned ∙ same_access plan core seat running can.0 rule can.1 text asking can.2 ∙ can.4)),
)

pub deny_yes : (plan : Plan) (core : Core) (seat : ℕ) (running : Running) (rule : Rule) (path : Names) (verdict : Verdict) (text : List ℕ) → IsAsking plan core seat running rule → access plan.rules rule (length running.asks) text ≡ Yes path →
    CanDeny plan (state_of core) seat text verdict → ⊥
deny_yes plan core seat running rule path verdict text asking granted can = yes_no path verdict (sym granted ∙ same_access plan core seat running can.0 rule can.1 text asking can.2 ∙ can.4)

-- ---- an end

-- what a Good end writes, there is room for
pub has_rooms : (plan : Plan) (old : Core) (seat : ℕ) (writes : List (Names × Stamp)) (at : ℕ) → IsCore plan old → MayEnd plan old seat Good writes at → (path : Names) → among path (map (λ (file : Names × Stamp). file.0) writes) ≡ true → has_room old.files path ≡ true
has_rooms plan old seat written at is ends path found =
    is.room ends.running.rule ends.rule path (is.running seat ends.running ends.runs.here).2 ends.runs.placed (by ends.running.denied ends.fits)
  where
    by : (denied : Option (List ℕ × Verdict)) → FitsEnd ends.rule denied Good written → writes ends.rule path ≡ true
    by None outputs = ap (among path) (sym outputs) ∙ found
    by (Some kept) (given, nothing) = absurd (true≢false (sym found ∙ ap (λ (files : List (Names × Stamp)). among path (map (λ (file : Names × Stamp). file.0) files)) nothing))

pub ends_within : (plan : Plan) (old : Core) (seat : ℕ) (verdict : Verdict) (writes : List (Names × Stamp)) (at : ℕ) → IsCore plan old → MayEnd plan old seat verdict writes at → IsSettled plan old at
ends_within plan old seat verdict writes at is ends = subst (IsSettled plan old) (sym ends.here) (is.running seat ends.running ends.runs.here)

-- the seat's rule can be completed
pub ends_release : (plan : Plan) (old : Core) (at : ℕ) → IsCore plan old → at < length plan.rules → flag old.pending.items at ≡ true → CanRelease at old.waiting
ends_release plan old at is within up = can_release plan.rules (is_reached plan) old.pending.items old.waiting at is.waiting within up

pub completed_new : (at : ℕ) (old from : Core) → flag old.pending.items at ≡ true → from.pending.items ≡ slice_set old.pending.items at false → Releases at old.waiting from.waiting →
    Completes at old (record old { pending = from.pending; waiting = from.waiting })
completed_new at old from up pending done = record {
  pending = pending;
  waiting = λ rules reached is. subst (λ (flags : List Bool). IsWaiting rules reached flags from.waiting) (sym pending) (released rules reached old.pending.items old.waiting from.waiting at is up done);
  fewer = λ other. let fewer = done.fewer other in omega (arith, fewer);
  rest = refl;
}

-- a Good end
module _ (plan : Plan) (old : Core) (seat at : ℕ) (written : List (Names × Stamp)) (from : Core) (is : IsCore plan old) (ends : MayEnd plan old seat Good written at) (seats : from.seats.items ≡ slice_set old.seats.items seat None)
    (pending : from.pending.items ≡ slice_set old.pending.items at false) (waiting : IsWaiting plan.rules (is_reached plan) from.pending.items from.waiting) (fewer : (other : ℕ) → number from.waiting.waits.items other ≤ number old.waiting.waits.items other)
    (first : from.files.first ≡ old.files.first) (stamps : (path : Names) → stamp_in from.files path ≡ with_stamps (stamp_in old.files) written path) (room : (path : Names) → has_room from.files path ≡ has_room old.files path) where
  inside : at < length old.pending.items
  inside = subst (λ (n : ℕ). at < n) (sym is.pending) (ends_within plan old seat Good written at is ends).0

  still_none : (other : ℕ) → number old.waiting.waits.items other ≡ 0 → number from.waiting.waits.items other ≡ 0
  still_none other none = let less = fewer other in omega (arith, less, none)

  apart_flag : (other : ℕ) → (other ≡ at → ⊥) → flag from.pending.items other ≡ flag old.pending.items other
  apart_flag other apart = ap (λ (flags : List Bool). flag flags other) pending ∙ set_other old.pending.items at other false false apart

  here_flag : (other : ℕ) → other ≡ at → flag from.pending.items other ≡ false
  here_flag other same = ap (λ (flags : List Bool). flag flags other) pending ∙ ap (flag (slice_set old.pending.items at false)) same ∙ set_same old.pending.items at false false inside

  good_core : IsCore plan (record old { seats = from.seats; pending = from.pending; waiting = from.waiting; files = from.files })
  good_core = record {
    pending = ap length pending ∙ length-set old.pending.items at false ∙ is.pending;
    claimed = is.claimed;
    bad = is.bad;
    seats = ap length seats ∙ length-set old.seats.items seat None ∙ is.seats;
    generated = is.generated;
    inputs = is.inputs;
    room = λ other rule path reached here written. room path ∙ is.room other rule path reached here written;
    waiting = waiting;
    reached = λ other up. elim (cases_eq other at) [
      | inl same ↦ absurd (true≢false (sym up ∙ here_flag other same))
      | inr apart ↦ is.reached other (sym (apart_flag other apart) ∙ up)
    ];
    settled = λ other reached down. elim (cases_eq other at) [
      | inl same ↦ still_none other (ap (number old.waiting.waits.items) same ∙ (ends_within plan old seat Good written at is ends).1)
      | inr apart ↦ still_none other (is.settled other reached (sym (apart_flag other apart) ∙ down))
    ];
    running = λ other running now.
        let was = running_set (IsSettled plan old) old.seats.items seat None (sits plan old seat is ends.runs.within) is.running (λ one none. absurd (none-some one none)) other running
        (sym (ap (λ (items : List (Option Running)). entry items other) seats) ∙ now) in
        (was.0, still_none running.rule was.1, was.2);
  }

  pub good_taken : Takes plan old (Finish seat Good written) (record old { seats = from.seats; pending = from.pending; waiting = from.waiting; files = from.files })
  good_taken = record {
    core = good_core;
    first = first;
    step = (
      (ends.running, ends.rule, ends.runs, ends.fits),
      (λ i. record {
        pending = (ap flag pending ∙ items_set old.pending.items at false false inside ∙ ap (λ (n : ℕ). changed (flag old.pending.items) n false) ends.here) i;
        claimed = flag old.claimed.items;
        seats = (ap entry seats ∙ items_set old.seats.items seat None None (sits plan old seat is ends.runs.within)) i;
        files = λ path. stamps path i;
        bad = entry old.bad.items;
        stopped = old.stopped;
      })
          ∙ sym (finished_is plan (state_of old) seat ends.running Good written ends.runs.here),
    );
  }

-- the same, with the core between its writes
pub finished_well : (plan : Plan) (old middle done from : Core) (seat at : ℕ) (written : List (Names × Stamp)) → IsCore plan old → MayEnd plan old seat Good written at → middle.seats.items ≡ slice_set old.seats.items seat None →
    Completes at (record old { seats = middle.seats }) done → from.files.first ≡ done.files.first → ((path : Names) → stamp_in from.files path ≡ with_stamps (stamp_in done.files) written path) → ((path : Names) → has_room from.files path ≡ has_room done.files path) →
    Takes plan old (Finish seat Good written) (record done { files = from.files })
finished_well plan old middle done from seat at written is ends seats completes first stamps room =
    subst (λ (core : Core). Takes plan old (Finish seat Good written) (record core { files = from.files })) (sym completes.rest)
    (good_taken plan old seat at written (record old { seats = middle.seats; pending = done.pending; waiting = done.waiting; files = from.files }) is ends seats completes.pending
    (completes.waiting plan.rules (is_reached plan) is.waiting) completes.fewer (first ∙ ap (λ (core : Core). core.files.first) completes.rest)
    (λ path. stamps path ∙ ap (λ (core : Core). with_stamps (stamp_in core.files) written path) completes.rest)
    (λ path. room path ∙ ap (λ (core : Core). has_room core.files path) completes.rest))

-- an end that isn't Good
ended_bad : (plan : Plan) (state : State) (at : ℕ) (verdict : Verdict) (written : List (Names × Stamp)) → (verdict ≡ Good → ⊥) →
    ended plan state at verdict written ≡ record state { bad = changed state.bad at (Some verdict); stopped = if plan.keep_going then state.stopped else stopped_by state Bad }
ended_bad plan state at Good written bad = absurd (bad refl)
ended_bad plan state at (Failed status) written bad = refl
ended_bad plan state at (IllegalRead text) written bad = refl
ended_bad plan state at (IllegalWrite text) written bad = refl
ended_bad plan state at (Unwritten path) written bad = refl
ended_bad plan state at TooManyReads written bad = refl

pub takes_bad : (state : State) (seat : ℕ) (verdict : Verdict) (written : List (Names × Stamp)) (running : Running) → (verdict ≡ Good → ⊥) → state.seats seat ≡ Some running → running.denied ≡ None → TakesMemory state (Finish seat verdict written)
takes_bad state seat Good written running bad here going = absurd (bad refl)
takes_bad state seat (Failed status) written running bad here going = (running, here, going)
takes_bad state seat (IllegalRead text) written running bad here going = (running, here, going)
takes_bad state seat (IllegalWrite text) written running bad here going = (running, here, going)
takes_bad state seat (Unwritten path) written running bad here going = (running, here, going)
takes_bad state seat TooManyReads written running bad here going = (running, here, going)

-- a kept verdict is the one given
pub kept_given : (rule : Rule) (denied : Option (List ℕ × Verdict)) (verdict : Verdict) (written : List (Names × Stamp)) → FitsEnd rule denied verdict written → (kept : List ℕ × Verdict) → denied ≡ Some kept → verdict ≡ kept.1
kept_given rule None verdict written fits kept is = absurd (none-some kept is)
kept_given rule (Some one) verdict written fits kept is = fits.0 ∙ ap (λ (d : List ℕ × Verdict). d.1) (same_Some one kept is)

pub finished_bad : {T : Type 0} (plan : Plan) (old from : Core) (seat at : ℕ) (verdict : Verdict) (written : List (Names × Stamp)) (done : T) → IsCore plan old → (verdict ≡ Good → ⊥) → MayEnd plan old seat verdict written at →
    from.seats.items ≡ slice_set old.seats.items seat None → from.bad.items ≡ slice_set old.bad.items at (Some verdict) → from.stopped ≡ (if plan.keep_going then old.stopped else Some (unwrap_or old.stopped Bad)) →
    Answers plan old (Finish seat verdict written) (Ok done) (record old { seats = from.seats; bad = from.bad; stopped = from.stopped })
finished_bad plan old from seat at verdict written done is bad ends seats bads stopped =
    let inside = sits plan old seat is ends.runs.within in
    let settled = ends_within plan old seat verdict written at is ends in
    let there : at < length old.bad.items = subst (λ (n : ℕ). at < n) (sym is.bad) settled.0 in
    answer_ok plan old (record old { seats = from.seats; bad = from.bad; stopped = from.stopped }) (Finish seat verdict written) done
    (record {
      pending = is.pending;
      claimed = is.claimed;
      bad = ap length bads ∙ length-set old.bad.items at (Some verdict) ∙ is.bad;
      seats = ap length seats ∙ length-set old.seats.items seat None ∙ is.seats;
      generated = is.generated;
      inputs = is.inputs;
      room = is.room;
      waiting = is.waiting;
      reached = is.reached;
      settled = is.settled;
      running = λ other running now.
          running_set (IsSettled plan old) old.seats.items seat None inside is.running (λ one none. absurd (none-some one none)) other running (sym (ap (λ (items : List (Option Running)). entry items other) seats) ∙ now);
    }) refl (
      (ends.running, ends.rule, ends.runs, ends.fits),
      (λ i. record {
        pending = flag old.pending.items;
        claimed = flag old.claimed.items;
        seats = (ap entry seats ∙ items_set old.seats.items seat None None inside) i;
        files = stamp_in old.files;
        bad = (ap entry bads ∙ items_set old.bad.items at (Some verdict) None there ∙ ap (λ (n : ℕ). changed (entry old.bad.items) n (Some verdict)) ends.here) i;
        stopped = stopped i;
      })
          ∙ sym (ended_bad plan (emptied (state_of old) seat) ends.running.rule verdict written bad)
          ∙ sym (finished_is plan (state_of old) seat ends.running verdict written ends.runs.here),
    )

pub not_so : (plan : Plan) (core : Core) (seat : ℕ) (verdict : Verdict) (written : List (Names × Stamp)) (running : Running) (rule : Rule) → slice_get core.seats.items seat ≡ Some (Some running) → slice_get plan.rules running.rule ≡ Some rule →
    (FitsEnd rule running.denied verdict written → ⊥) → CanFinish plan (state_of core) seat verdict written → ⊥
not_so plan core seat verdict written running rule here placed unfit can =
    let same = same_running plan core seat running can.0 can.1 here can.2 in
    let ruled : rule ≡ can.1 = same_Some rule can.1 (sym placed ∙ ap (λ (r : Running). slice_get plan.rules r.rule) same ∙ can.2.placed) in
    unfit (subst (λ (r : Rule). FitsEnd r running.denied verdict written) (sym ruled) (subst (λ (r : Running). FitsEnd can.1 r.denied verdict written) (sym same) can.3))

-- a kept verdict and no files
pub fits_kept : (rule : Rule) (denied : Option (List ℕ × Verdict)) (text : List ℕ) (kept verdict : Verdict) (written : List (Names × Stamp)) (same empty : Bool) → denied ≡ Some (text, kept) → IsTrue same ↔ (verdict ≡ kept) → same ≡ true →
    empty ≡ (length written == 0) → IsTrue empty ↔ FitsEnd rule denied verdict written
fits_kept rule denied text kept verdict written same empty is tells up counts = subst (λ (d : Option (List ℕ × Verdict)). IsTrue empty ↔ FitsEnd rule d verdict written) (sym is) (
  λ e. (tells.0 up, nil_from_length written (eqb-true (length written) 0 (sym counts ∙ e))),
  λ fits. counts ∙ eq-eqb (length written) 0 (ap length fits.1),
)

pub fits_other : (rule : Rule) (denied : Option (List ℕ × Verdict)) (text : List ℕ) (kept verdict : Verdict) (written : List (Names × Stamp)) (same : Bool) → denied ≡ Some (text, kept) → IsTrue same ↔ (verdict ≡ kept) → same ≡ false →
    IsTrue same ↔ FitsEnd rule denied verdict written
fits_other rule denied text kept verdict written same is tells down = subst (λ (d : Option (List ℕ × Verdict)). IsTrue same ↔ FitsEnd rule d verdict written) (sym is) (
  λ e. absurd (true≢false (sym e ∙ down)),
  λ fits. tells.1 fits.0,
)

-- what was read of the seats
pub seat_got : (seats list : List (Option Running)) (seat : ℕ) (got : Option Running) (running : Running) → list ≡ seats → true ≡ nat_lt seat (length list) → got ≡ get_or list seat got → got ≡ Some running → slice_get seats seat ≡ Some (Some running)
seat_got seats list seat got running same up is here =
    ap (λ (l : List (Option Running)). slice_get l seat) (sym same) ∙ slice_get_read list (length list) seat got refl (ltb-true seat (length list) (sym up)) is ∙ ap Some here

pub rule_got : (rules list : List Rule) (at : ℕ) (rule : Rule) → list ≡ rules → at < length rules → rule ≡ get_or list at rule → slice_get rules at ≡ Some rule
rule_got rules list at rule same within is =
    ap (λ (l : List Rule). slice_get l at) (sym same) ∙ slice_get_read list (length list) at rule refl (subst (λ (l : List Rule). at < length l) (sym same) within) is

-- ---- a list behind a borrow

pub items_kept : {X Z : Type 0} (v : Vec X Z) (ws list : List X) → ws ≡ list → list ≡ v.items → (with_items v ws).items ≡ v.items
items_kept v ws list is same = with_items_is v ws (ap length (is ∙ same) ∙ sym v.ok.0) ∙ is ∙ same

pub items_written : {X Z : Type 0} (v : Vec X Z) (ws list : List X) (at : ℕ) (value : List X → X) → list ≡ v.items → ws ≡ slice_set list at (value list) → (with_items v ws).items ≡ slice_set v.items at (value v.items)
items_written {X} v ws list at value same is =
    with_items_is v ws (ap length is ∙ length-set list at (value list) ∙ ap length same ∙ sym v.ok.0) ∙ is ∙ ap (λ (l : List X). slice_set l at (value l)) same

-- a refusal for want of memory
pub memory_is : {T : Type 0} (r : Result T CoreFault) → IsErrAnd r (λ (fault : CoreFault). fault ≡ Memory) → r ≡ Err Memory
memory_is (Ok done) is = absurd is
memory_is (Err fault) is = ap Err is

-- a refusal that is another's, which came for want of memory
pub memory_was : {T : Type 0} (r : Result T CoreFault) (was : CoreFault) → IsErrAnd r (λ (fault : CoreFault). fault ≡ was) → was ≡ Memory → r ≡ Err Memory
memory_was (Ok done) was is same = absurd is
memory_was (Err fault) was is same = ap Err (is ∙ same)

-- what holds whatever is answered
pub on_each_err : {T P : Type 0} (r : Result T CoreFault) → P → OnErr r P
on_each_err (Ok done) p = tt
on_each_err (Err fault) p = p
