-- In a run the answer of each ask stands until the seat's command ends or is stopped.
use Rattle.std.proofs.Common.{◌≡◌, ℕ, zero, ◌<◌, Bool, true, false, not, ◌&&◌, List, [], ◌∷◌, ◌++◌, length, Option, None, Some, refl, sym, ap, ◌∙◌, subst, inl, inr, arith}
use Rattle.std.specs.Prelude.{map, All, slice_get}
use Rattle.std.specs.Option.{option_map}
use Rattle.std.proofs.lemmas.Bool.{true≢false, cases_Bool}
use Rattle.std.proofs.lemmas.Option.{same_Some, none-some}
use Rattle.std.proofs.lemmas.List.Elements.{All-push}
use Rattle.tup_path.specs.Name.{Names}
use Rattle.tup_stamp.specs.declared.Stamp.{Stamp}
use Rattle.tup_rule.specs.declared.rule.Rule.{Rule}
use Rattle.tup_rule.specs.Rule.{among, declares, writes, maker, is_generated}
use Rattle.tup_access.specs.declared.verdict.Verdict.{Verdict}
use Rattle.tup_access.specs.declared.verdict.Verdict.TheVariants.{Good, Failed, IllegalRead, IllegalWrite, Unwritten, TooManyReads}
use Rattle.tup_access.specs.Access.{may_read}
use Rattle.tup_access.proofs.Permitted.{access-Yes}
use Rattle.tup_core.specs.declared.event.CoreEvent.{CoreEvent}
use Rattle.tup_core.specs.declared.event.CoreEvent.TheVariants.{Claim, Ask, Deny, Finish, Stop}
use Rattle.tup_core.specs.declared.plan.Plan.{Plan}
use Rattle.tup_core.specs.declared.running.Running.{Running}
use Rattle.tup_core.specs.Step.{State, changed, opening, is_reached, IsClear, IsEnabled, FitsEnd, Runs, told, asked, refused, emptied, ended, after}
use Rattle.tup_core.specs.Run.{IsRun, end_of}
use Rattle.tup_core.specs.Sound.{HasOneMaker, Stands}
use Rattle.tup_core.proofs.Changed.{changed_cases, with_stamps_apart}
use Rattle.tup_core.proofs.Places.{first_of}
use Rattle.tup_core.proofs.Orderly.{IsOrderly, orderly_after, orderly_opening, finished_is, seats_ended, seat_emptied}

-- each ask of each seat stands
pub record AllStand (plan : Plan) (state : State) : Type 0 where
  pub asks : (seat : ℕ) (running : Running) (rule : Rule) → state.seats seat ≡ Some running → slice_get plan.rules running.rule ≡ Some rule → All (Stands plan state rule) running.asks

-- ---- who may write what was read

-- a path that a clear rule may read, and doesn't write, is no output of a pending rule of the reach
pub not_written : (plan : Plan) (state : State) (rule other : Rule) (at : ℕ) (path : Names) → HasOneMaker plan → IsClear plan state rule →
    is_reached plan at ≡ true → state.pending at ≡ true → slice_get plan.rules at ≡ Some other →
    may_read plan.rules rule path ≡ true → writes rule path ≡ false → writes other path ≡ false
not_written plan state rule other at path one clear reached pending here readable foreign =
    elim (cases_Bool (writes other path)) [
      | inr apart ↦ apart
      | inl wrote ↦
          let found = first_of (λ (r : Rule). writes r path) plan.rules at other here wrote in
          let same : at ≡ found.at = one at found.at other found.item path reached here found.here wrote found.passes in
          let made : maker path plan.rules ≡ Some at = found.first ∙ ap Some (sym same) in
          let declared : declares rule path ≡ true = must_declare (is_generated plan.rules path) (declares rule path) (writes rule path) found.any foreign readable in
          absurd (true≢false (sym pending ∙ clear at (zero, (path, declared, made))))
    ]
  where
    must_declare : (generated declares own : Bool) → generated ≡ true → own ≡ false → not (generated && not declares && not own) ≡ true → declares ≡ true
    must_declare true true own g o r = refl
    must_declare true false true g o r = absurd (true≢false o)
    must_declare true false false g o r = absurd (true≢false (sym r))
    must_declare false declares own g o r = absurd (true≢false (sym g))

-- what is told stays where no other rule wrote the path
told_stays : (rule : Rule) (old new : State) (path : Names) → (writes rule path ≡ false → new.files path ≡ old.files path) → told rule old path ≡ told rule new path
told_stays rule old new path same =
    elim (cases_Bool (writes rule path)) [
      | inl own ↦ rw own refl
      | inr foreign ↦ rw foreign (sym (same foreign))
    ]

-- asks stand on where the files that they saw stay
stand_on : (plan : Plan) (old new : State) (rule : Rule) (asks : List (List ℕ × Option Stamp)) → All (Stands plan old rule) asks →
    ((path : Names) → may_read plan.rules rule path ≡ true → writes rule path ≡ false → new.files path ≡ old.files path) → All (Stands plan new rule) asks
stand_on plan old new rule asks stand same = λ k d below.
    let one = stand k d below in
    record {
      path = one.path;
      named = one.named;
      readable = one.readable;
      same = one.same ∙ told_stays rule old new one.path (same one.path one.readable);
    }

-- ---- the end of a command

-- whatever a command writes, it writes outputs of its rule
pub writes_own : (rule : Rule) (denied : Option (List ℕ × Verdict)) (verdict : Verdict) (written : List (Names × Stamp)) → FitsEnd rule denied verdict written → (path : Names) → writes rule path ≡ false →
    among path (map (λ (w : Names × Stamp). w.0) written) ≡ false
writes_own rule (Some denied) verdict written (same, none) path foreign = ap (λ (ws : List (Names × Stamp)). among path (map (λ (w : Names × Stamp). w.0) ws)) none
writes_own rule None Good written outputs path foreign = ap (among path) outputs ∙ foreign
writes_own rule None (Failed status) written (bad, none) path foreign = ap (λ (ws : List (Names × Stamp)). among path (map (λ (w : Names × Stamp). w.0) ws)) none
writes_own rule None (IllegalWrite text) written none path foreign = ap (λ (ws : List (Names × Stamp)). among path (map (λ (w : Names × Stamp). w.0) ws)) none
writes_own rule None (Unwritten output) written none path foreign = ap (λ (ws : List (Names × Stamp)). among path (map (λ (w : Names × Stamp). w.0) ws)) none
writes_own rule None (IllegalRead text) written fits path foreign = absurd fits
writes_own rule None TooManyReads written fits path foreign = absurd fits

-- a file changes only where it was written
pub files_ended : (plan : Plan) (state : State) (at : ℕ) (verdict : Verdict) (written : List (Names × Stamp)) (path : Names) →
    among path (map (λ (w : Names × Stamp). w.0) written) ≡ false → (ended plan state at verdict written).files path ≡ state.files path
files_ended plan state at Good written path apart = with_stamps_apart written state.files path apart
files_ended plan state at (Failed status) written path apart = refl
files_ended plan state at (IllegalRead text) written path apart = refl
files_ended plan state at (IllegalWrite text) written path apart = refl
files_ended plan state at (Unwritten output) written path apart = refl
files_ended plan state at TooManyReads written path apart = refl

-- ---- one event

-- asks stay with a seat of which they are as before
kept : (plan : Plan) (state new : State) (running : Running) (rule : Rule) → All (Stands plan state rule) running.asks → new.files ≡ state.files → All (Stands plan new rule) running.asks
kept plan state new running rule stand files = stand_on plan state new rule running.asks stand (λ path readable foreign. ap (λ (f : Names → Option Stamp). f path) files)

stand_ask : (plan : Plan) (state : State) (seat : ℕ) (text : List ℕ) (answer : Option Stamp) → AllStand plan state → IsEnabled plan state (Ask seat text answer) → AllStand plan (after plan state (Ask seat text answer))
stand_ask plan state seat text answer stand (running, rule, path, runs, going, may, told_so) = record {
  asks = λ other now here_rule is here.
      let new = after plan state (Ask seat text answer) in
      elim (changed_cases state.seats seat (option_map (asked text answer) (state.seats seat)) other) [
        | inr apart ↦ kept plan state new now here_rule (stand.asks other now here_rule (sym apart.1 ∙ is) here) refl
        | inl same ↦
            let became : asked text answer running ≡ now = same_Some _ _ (ap (λ (o : Option Running). option_map (asked text answer) o) (sym runs.here) ∙ sym same.1 ∙ is) in
            let numbered : running.rule ≡ now.rule = ap (λ (r : Running). r.rule) became in
            let ruled : rule ≡ here_rule = same_Some _ _ (sym runs.placed ∙ ap (λ (n : ℕ). slice_get plan.rules n) numbered ∙ here) in
            let asked_all : running.asks ++ (text, answer) ∷ [] ≡ now.asks = ap (λ (r : Running). r.asks) became in
            let allowed = access-Yes plan.rules rule (length running.asks) text path may in
            let before : All (Stands plan new rule) running.asks = kept plan state new running rule (stand.asks seat running rule runs.here runs.placed) refl in
            let last : Stands plan new rule (text, answer) = record { path = path; named = allowed.named; readable = allowed.readable; same = told_so } in
            subst (λ (r : Rule). All (Stands plan new r) now.asks) ruled
            (subst (λ (asks : List (List ℕ × Option Stamp)). All (Stands plan new rule) asks) asked_all
            (All-push (Stands plan new rule) running.asks (text, answer) before last))
      ];
}

pub stand_after : (plan : Plan) (state : State) (event : CoreEvent) → HasOneMaker plan → IsOrderly plan state → AllStand plan state → IsEnabled plan state event → AllStand plan (after plan state event)
stand_after plan state (Claim seat at) one orderly stand enabled = record {
  asks = λ other now rule is here.
      let new = after plan state (Claim seat at) in
      let fresh : Running = record { rule = at; asks = []; denied = None } in
      elim (changed_cases state.seats seat (Some fresh) other) [
        | inr apart ↦ kept plan state new now rule (stand.asks other now rule (sym apart.1 ∙ is) here) refl
        | inl same ↦
            let became : fresh ≡ now = same_Some _ _ (sym same.1 ∙ is) in
            subst (λ (r : Running). All (Stands plan new rule) r.asks) became (λ k d below. absurd (no_place k below))
      ];
}
  where
    no_place : (k : ℕ) → k < 0 → ⊥
    no_place k below = omega arith
stand_after plan state (Ask seat text answer) one orderly stand enabled = stand_ask plan state seat text answer stand enabled
stand_after plan state (Deny seat text verdict) one orderly stand enabled = record {
  asks = λ other now rule is here.
      let new = after plan state (Deny seat text verdict) in
      elim (changed_cases state.seats seat (option_map (refused text verdict) (state.seats seat)) other) [
        | inr apart ↦ kept plan state new now rule (stand.asks other now rule (sym apart.1 ∙ is) here) refl
        | inl same ↦ denied other now rule here (state.seats seat) (ap state.seats same.0) (sym same.1 ∙ is)
      ];
}
  where
    denied : (other : ℕ) (now : Running) (rule : Rule) → slice_get plan.rules now.rule ≡ Some rule → (was : Option Running) → state.seats other ≡ was → option_map (refused text verdict) was ≡ Some now →
        All (Stands plan (after plan state (Deny seat text verdict)) rule) now.asks
    denied other now rule here None e q = absurd (none-some now q)
    denied other now rule here (Some before) e q =
        let became : refused text verdict before ≡ now = same_Some _ _ q in
        let numbered : before.rule ≡ now.rule = ap (λ (r : Running). r.rule) became in
        let asks : before.asks ≡ now.asks = ap (λ (r : Running). r.asks) became in
        let new = after plan state (Deny seat text verdict) in
        subst (λ (list : List (List ℕ × Option Stamp)). All (Stands plan new rule) list) asks
        (kept plan state new before rule (stand.asks other before rule e (ap (λ (n : ℕ). slice_get plan.rules n) numbered ∙ here)) refl)
stand_after plan state (Finish seat verdict written) one orderly stand (running, rule, runs, fits) =
    let new = ended plan (emptied state seat) running.rule verdict written in
    let is = finished_is plan state seat running verdict written runs.here in
    let seats : new.seats ≡ changed state.seats seat None = seats_ended plan (emptied state seat) running.rule verdict written in
    subst (λ (s : State). AllStand plan s) (sym is) (record {
      asks = λ other now its there here.
          let had = seat_emptied state new seat seats other now there in
          stand_on plan state new its now.asks (stand.asks other now its had.1 here) (λ path readable foreign.
          let pending = orderly.pending seat running runs.here in
          let apart : writes rule path ≡ false =
          not_written plan state its rule running.rule path one (orderly.clear other now its had.1 here) (orderly.reached running.rule pending) pending runs.placed readable foreign in
          files_ended plan (emptied state seat) running.rule verdict written path (writes_own rule running.denied verdict written fits path apart));
    })
stand_after plan state (Stop seat cause) one orderly stand enabled = record {
  asks = λ other now rule there here.
      let new = after plan state (Stop seat cause) in
      let had = seat_emptied state new seat refl other now there in
      kept plan state new now rule (stand.asks other now rule had.1 here) refl;
}

-- ---- whole runs

stand_run : (plan : Plan) (events : List CoreEvent) (state : State) → HasOneMaker plan → IsOrderly plan state → AllStand plan state → IsRun plan state events → AllStand plan (end_of plan state events)
stand_run plan [] state one orderly stand run = stand
stand_run plan (event ∷ events) state one orderly stand (enabled, run) =
    stand_run plan events (after plan state event) one (orderly_after plan state event orderly enabled) (stand_after plan state event one orderly stand enabled) run

pub asks_stand : (plan : Plan) (files : List (Names × Stamp)) (events : List CoreEvent) → HasOneMaker plan → IsRun plan (opening plan files) events →
    (seat : ℕ) (running : Running) (rule : Rule) → Runs plan (end_of plan (opening plan files) events) seat running rule → All (Stands plan (end_of plan (opening plan files) events) rule) running.asks
asks_stand plan files events one run seat running rule runs =
    (stand_run plan events (opening plan files) one (orderly_opening plan files) (record { asks = λ other now its there. absurd (none-some now there) }) run).asks seat running rule runs.here runs.placed
