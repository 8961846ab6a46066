-- How many events may still happen: each claim, end and stop takes one away, and asks leave them.
use Rattle.std.proofs.Common.{◌≡◌, ℕ, zero, suc, ◌+◌, ◌*◌, ◌<◌, ◌≤◌, ◌==◌, Bool, true, false, ◌||◌, List, [], ◌∷◌, length, Option, None, Some, refl, sym, ap, ◌∙◌, subst, inl, inr, arith}
use Rattle.std.specs.Prelude.{if◌then◌else◌, is_none}
use Rattle.std.specs.List.{list_any}
use Rattle.std.proofs.lemmas.Bool.{true≢false, eqb-true}
use Rattle.tup_path.specs.Name.{Names}
use Rattle.tup_stamp.specs.declared.Stamp.{Stamp}
use Rattle.tup_access.specs.declared.verdict.Verdict.{Verdict}
use Rattle.tup_access.specs.declared.verdict.Verdict.TheVariants.{Good, Failed, IllegalRead, IllegalWrite, Unwritten, TooManyReads}
use Rattle.tup_core.specs.declared.event.Cause.{Cause}
use Rattle.tup_core.specs.declared.event.Cause.TheVariants.{Bad}
use Rattle.tup_core.specs.declared.event.CoreEvent.TheVariants.{Claim, Finish, Stop}
use Rattle.tup_core.specs.declared.plan.Plan.{Plan}
use Rattle.tup_core.specs.declared.running.Running.{Running}
use Rattle.tup_core.specs.Step.{State, IsEnabled, after, changed, emptied, ended, is_reached, opening, stopped_by}
use Rattle.tup_core.proofs.Changed.{changed_cases}
use Rattle.tup_core.proofs.Orderly.{claimed_ended, seats_ended, finished_is}
use Rattle.tup_schedule.specs.Room.{unclaimed, runs_one, busy, to_come}

-- ---- rules that weren't claimed

-- claiming one doesn't add to them
unclaimed_no_more : (claimed : ℕ → Bool) (at : ℕ) (numbers : List ℕ) → unclaimed (changed claimed at true) numbers ≤ unclaimed claimed numbers
unclaimed_no_more claimed at [] = omega arith
unclaimed_no_more claimed at (number ∷ numbers) =
    let rest = unclaimed_no_more claimed at numbers in
    let one = one_less (claimed number) (changed claimed at true number) (stays number) in
    omega (arith, rest, one)
  where
    stays : (n : ℕ) → claimed n ≡ true → changed claimed at true n ≡ true
    stays n up = elim (changed_cases claimed at true n) [ inl here ↦ here.1 | inr apart ↦ apart.1 ∙ up ]

    one_less : (was is : Bool) → (was ≡ true → is ≡ true) → (if is then 0 else 1) ≤ (if was then 0 else 1)
    one_less true true keep = omega arith
    one_less true false keep = absurd (true≢false (sym (keep refl)))
    one_less false true keep = omega arith
    one_less false false keep = omega arith

-- and takes one away, where it is among them
abbrev unless : Bool → ℕ
unless claimed = if claimed then 0 else 1

fewer_here : (claimed : ℕ → Bool) (at number : ℕ) (numbers : List ℕ) → list_any (λ n. at == n) (number ∷ numbers) ≡ true → claimed at ≡ false
    → (list_any (λ n. at == n) numbers ≡ true → unclaimed (changed claimed at true) numbers + 1 ≤ unclaimed claimed numbers) → (b : Bool) → (at == number) ≡ b
    → unclaimed (changed claimed at true) (number ∷ numbers) + 1 ≤ unclaimed claimed (number ∷ numbers)
fewer_here claimed at number numbers there free behind true same =
    let here : at ≡ number = eqb-true at number same in
    let rest = unclaimed_no_more claimed at numbers in
    let one = was_free number here in
    let now = is_claimed number here in
    omega (arith, rest, one, now)
  where
    was_free : (n : ℕ) → at ≡ n → unless (claimed n) ≡ 1
    was_free n is = ap unless (ap claimed (sym is) ∙ free)

    is_claimed : (n : ℕ) → at ≡ n → unless (changed claimed at true n) ≡ 0
    is_claimed n is = elim (changed_cases claimed at true n) [ inl one ↦ ap unless one.1 | inr apart ↦ absurd (apart.0 (sym is)) ]
fewer_here claimed at number numbers there free behind false other =
    let rest = behind (sym (ap (λ (b : Bool). b || list_any (λ n. at == n) numbers) other) ∙ there) in
    let one = unclaimed_no_more claimed at (number ∷ []) in
    omega (arith, rest, one)

pub unclaimed_fewer : (claimed : ℕ → Bool) (at : ℕ) (numbers : List ℕ) → list_any (λ number. at == number) numbers ≡ true → claimed at ≡ false
    → unclaimed (changed claimed at true) numbers + 1 ≤ unclaimed claimed numbers
unclaimed_fewer claimed at [] there free = absurd (true≢false (sym there))
unclaimed_fewer claimed at (number ∷ numbers) there free = fewer_here claimed at number numbers there free (λ behind. unclaimed_fewer claimed at numbers behind free) (at == number) refl

-- ---- seats that run a rule

-- what a seat behind runs doesn't count
busy_behind : (seats : ℕ → Option Running) (seat : ℕ) (what : Option Running) (count : ℕ) → count ≤ seat → busy (changed seats seat what) count ≡ busy seats count
busy_behind seats seat what zero least = refl
busy_behind seats seat what (suc count) least =
    let rest = busy_behind seats seat what count (omega (arith, least)) in
    elim (changed_cases seats seat what count) [
      | inl here ↦ absurd (let same = here.0 in omega (arith, least, same))
      | inr apart ↦ let one = ap runs_one apart.1 in omega (arith, rest, one)
    ]

-- a seat in front counts by what it runs
pub busy_changed : (seats : ℕ → Option Running) (seat : ℕ) (what : Option Running) (count : ℕ) → seat < count
    → busy (changed seats seat what) count + runs_one (seats seat) ≡ busy seats count + runs_one what
busy_changed seats seat what zero less = absurd (omega (arith, less))
busy_changed seats seat what (suc count) less =
    elim (changed_cases seats seat what count) [
      | inl here ↦
          let same = here.0 in
          let rest = busy_behind seats seat what count (omega (arith, same)) in
          let now = ap runs_one here.1 in
          let was : runs_one (seats count) ≡ runs_one (seats seat) = ap (λ (n : ℕ). runs_one (seats n)) same in
          omega (arith, rest, now, was)
      | inr apart ↦
          let other = apart.0 in
          let rest = busy_changed seats seat what count (omega (arith, less, other)) in
          let one = ap runs_one apart.1 in
          omega (arith, rest, one)
    ]

-- ---- what each event takes away

-- a stop that isn't there counts
abbrev no_stop : Option Cause → ℕ
no_stop stopped = if is_none stopped then 1 else 0

abbrev going : State → ℕ
going state = no_stop state.stopped

pub claim_costs : (plan : Plan) (state : State) (seat rule : ℕ) → IsEnabled plan state (Claim seat rule) → is_reached plan rule ≡ true
    → to_come plan (after plan state (Claim seat rule)) + 1 ≤ to_come plan state
claim_costs plan state seat rule enabled reached =
    let fewer = unclaimed_fewer state.claimed rule plan.reach reached enabled.2.unclaimed in
    let more = busy_changed state.seats seat (Some (record { rule = rule; asks = []; denied = None })) 16 enabled.0 in
    let free = ap runs_one enabled.1 in
    omega (arith, fewer, more, free)

-- the end of a command takes one away
bad_goes : (state : State) (keep_going : Bool) → (if is_none (if keep_going then state.stopped else stopped_by state Bad) then 1 else 0) ≤ going state
bad_goes state true = omega arith
bad_goes state false = omega arith

going_ended : (plan : Plan) (state : State) (at : ℕ) (verdict : Verdict) (written : List (Names × Stamp)) → going (ended plan state at verdict written) ≤ going state
going_ended plan state at Good written = omega arith
going_ended plan state at (Failed status) written = bad_goes state plan.keep_going
going_ended plan state at (IllegalRead text) written = bad_goes state plan.keep_going
going_ended plan state at (IllegalWrite text) written = bad_goes state plan.keep_going
going_ended plan state at (Unwritten path) written = bad_goes state plan.keep_going
going_ended plan state at TooManyReads written = bad_goes state plan.keep_going

pub finish_costs : (plan : Plan) (state : State) (seat : ℕ) (running : Running) (verdict : Verdict) (written : List (Names × Stamp)) → seat < 16 → state.seats seat ≡ Some running
    → to_come plan (after plan state (Finish seat verdict written)) + 1 ≤ to_come plan state
finish_costs plan state seat running verdict written within here =
    subst (λ (s : State). to_come plan s + 1 ≤ to_come plan state) (sym (finished_is plan state seat running verdict written here))
    (costs (ended plan (emptied state seat) running.rule verdict written) (claimed_ended plan (emptied state seat) running.rule verdict written) (seats_ended plan (emptied state seat) running.rule verdict written)
    (going_ended plan (emptied state seat) running.rule verdict written))
  where
    costs : (end : State) → end.claimed ≡ state.claimed → end.seats ≡ changed state.seats seat None → going end ≤ going state → to_come plan end + 1 ≤ to_come plan state
    costs end claimed seats goes =
        let fewer = busy_changed state.seats seat None 16 within in
        let was = ap runs_one here in
        let same = ap (λ (c : ℕ → Bool). unclaimed c plan.reach) claimed in
        let now = ap (λ (s : ℕ → Option Running). busy s 16) seats in
        omega (arith, fewer, was, same, now, goes)

-- and so does a stop, at a seat that runs a rule or where nothing is stopped
pub stop_costs : (plan : Plan) (state : State) (seat : ℕ) (cause : Cause) → seat < 16 → (state.seats seat ≡ None → state.stopped ≡ None)
    → to_come plan (after plan state (Stop seat cause)) + 1 ≤ to_come plan state
stop_costs plan state seat cause within one =
    let fewer = busy_changed state.seats seat None 16 within in
    let which = either (state.seats seat) refl in
    omega (arith, fewer, which)
  where
    either : (here : Option Running) → state.seats seat ≡ here → 1 ≤ runs_one (state.seats seat) + going state
    either None is = let goes = ap no_stop (one is) in omega (arith, goes)
    either (Some running) is = let runs = ap runs_one is in omega (arith, runs)

-- at most so many come
pub few_come : (plan : Plan) (state : State) → to_come plan state ≤ 2 * length plan.reach + 17
few_come plan state =
    let free = unclaimed_few state.claimed plan.reach in
    let seats = busy_few state.seats 16 in
    let stop = one_stop (is_none state.stopped) in
    omega (arith, free, seats, stop)
  where
    unclaimed_few : (claimed : ℕ → Bool) (numbers : List ℕ) → unclaimed claimed numbers ≤ length numbers
    unclaimed_few claimed [] = omega arith
    unclaimed_few claimed (number ∷ numbers) = let rest = unclaimed_few claimed numbers in let one = at_most (claimed number) in omega (arith, rest, one)
      where
        at_most : (b : Bool) → (if b then 0 else 1) ≤ 1
        at_most true = omega arith
        at_most false = omega arith

    busy_few : (seats : ℕ → Option Running) (count : ℕ) → busy seats count ≤ count
    busy_few seats zero = omega arith
    busy_few seats (suc count) = let rest = busy_few seats count in let one = at_most (seats count) in omega (arith, rest, one)
      where
        at_most : (here : Option Running) → runs_one here ≤ 1
        at_most None = omega arith
        at_most (Some running) = omega arith

    one_stop : (b : Bool) → (if b then 1 else 0) ≤ 1
    one_stop true = omega arith
    one_stop false = omega arith

-- at the opening a claim and an end of each rule of the reach may come, and a stop
pub opening_come : (plan : Plan) (files : List (Names × Stamp)) → to_come plan (opening plan files) ≡ 2 * length plan.reach + 1
opening_come plan files = let all = free plan.reach in let none = idle 16 in omega (arith, all, none)
  where
    free : (numbers : List ℕ) → unclaimed (λ _. false) numbers ≡ length numbers
    free [] = refl
    free (number ∷ numbers) = let rest = free numbers in omega (arith, rest)

    idle : (count : ℕ) → busy (λ _. None) count ≡ 0
    idle zero = refl
    idle (suc count) = let rest = idle count in omega (arith, rest)
