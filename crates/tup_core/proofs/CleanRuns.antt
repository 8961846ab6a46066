-- In an honest run from a planned opening each command ends with the verdict that its rule has in the clean build.
use Rattle.std.proofs.Common.{◌≡◌, ℕ, zero, suc, ◌<◌, Bool, true, false, cond, List, [], ◌∷◌, length, map, Option, Some, refl, sym, ap, ◌∙◌, subst, inl, inr, arith}
use Rattle.std.specs.Prelude.{slice_get, Contains}
use Rattle.std.specs.FinMap as finite
use Rattle.std.specs.Option.{option_map}
use Rattle.std.specs.List.{list_all}
use Rattle.std.proofs.lemmas.Bool.{true≢false, cases_Bool, false_from_ne_true, and_from}
use Rattle.std.proofs.lemmas.Option.{same_Some, none-some}
use Rattle.tup_path.specs.Name.{Names, Content}
use Rattle.tup_path.specs.Tree.{Tree}
use Rattle.tup_stamp.specs.declared.Stamp.{Stamp}
use Rattle.tup_stamp.specs.Stamp.{stamp}
use Rattle.tup_rule.specs.declared.rule.Rule.{Rule}
use Rattle.tup_rule.specs.Rule.{writes, is_generated}
use Rattle.tup_rule.specs.Producer.{DeclaredProducer}
use Rattle.tup_rule.proofs.Laws.{maker-Some, writes-at, producer-trans}
use Rattle.tup_runner.specs.Next.{Next}
use Rattle.tup_access.specs.declared.verdict.Verdict.{Verdict}
use Rattle.tup_access.specs.declared.verdict.Verdict.TheVariants.{Good, Failed, IllegalRead, IllegalWrite, Unwritten, TooManyReads}
use Rattle.tup_access.specs.Verdict.{verdict}
use Rattle.tup_clean.specs.Clean.{Build, is_good, good_at, succeeds}
use Rattle.tup_clean.specs.AnyOrder.{AreProducersGood}
use Rattle.tup_clean.proofs.Among.{is_generated-maker}
use Rattle.tup_clean.proofs.Places.{some_place}
use Rattle.tup_core.specs.declared.event.CoreEvent.{CoreEvent}
use Rattle.tup_core.specs.declared.event.CoreEvent.TheVariants.{Claim, Ask, Deny, Finish, Stop}
use Rattle.tup_core.specs.declared.plan.Plan.{Plan}
use Rattle.tup_core.specs.declared.running.Running.{Running}
use Rattle.tup_core.specs.Step.{State, changed, with_stamps, opening, is_reached, IsClear, IsEnabled, FitsEnd, Runs, emptied, ended, after}
use Rattle.tup_core.specs.Run.{IsRun, end_of}
use Rattle.tup_core.specs.Sound.{Stands}
use Rattle.tup_core.specs.Honest.{EndsHonestly, IsHonest, stamped}
use Rattle.tup_core.specs.Kept.{Kept}
use Rattle.tup_core.specs.Planned.{IsPlanned, sources_of, clean_of}
use Rattle.tup_core.specs.Laws.{EndAsIn}
use Rattle.tup_core.specs.Settled.{IsSettled}
use Rattle.tup_clean.proofs.Acyclic.{placed, by_producers}
use Rattle.tup_core.proofs.Changed.{changed_cases}
use Rattle.tup_core.proofs.Orderly.{IsOrderly, orderly_after, orderly_opening, finished_is}
use Rattle.tup_core.proofs.Counted.{AreCounted, counted_after}
use Rattle.tup_core.proofs.Standing.{AllStand, stand_after, writes_own, files_ended}
use Rattle.tup_core.proofs.Verdicts.{IsAsOver, IsEndOver, end_over}
use Rattle.tup_core.proofs.Settled.{IsSameAt, settled_same, stamps_each, settled_from}
use Rattle.tup_core.proofs.Opening.{acyclic, apart, one_maker, elsewhere, whole, plain_same, read_same, unreached_settled}

-- what a state of such a run has in common with the clean build
pub record IsFaithful (known : List Content) (plan : Plan) (sources : Tree) (build : Build) (begun : Names → Option Stamp) (state : State) : Type 0 where
  -- paths that no rule makes are the sources
  pub elsewhere : (path : Names) → is_generated plan.rules path ≡ false → state.files path ≡ option_map stamp (finite.get sources path)
  -- a rule that was run and isn't pending is settled; outputs of one that isn't to be run are as at the opening
  pub done : (at : ℕ) (rule : Rule) → slice_get plan.rules at ≡ Some rule → is_reached plan at ≡ true → state.pending at ≡ false → IsSettled known build state.files at rule
  pub skipped : (at : ℕ) (rule : Rule) (path : Names) → slice_get plan.rules at ≡ Some rule → is_reached plan at ≡ false → writes rule path ≡ true → state.files path ≡ begun path
  -- bad verdicts are the build's
  pub bad : (at : ℕ) (given : Verdict) → state.bad at ≡ Some given → slice_get build.verdicts at ≡ Some (Some given)

-- what one goes on with where files, pending rules and bad verdicts stay
same_faithful : (known : List Content) (plan : Plan) (sources : Tree) (build : Build) (begun : Names → Option Stamp) (state new : State) → IsFaithful known plan sources build begun state →
    new.files ≡ state.files → new.pending ≡ state.pending → ((at : ℕ) (given : Verdict) → new.bad at ≡ Some given → slice_get build.verdicts at ≡ Some (Some given)) → IsFaithful known plan sources build begun new
same_faithful known plan sources build begun state new faithful files pending bad = record {
  elsewhere = λ path plain. ap (λ (f : Names → Option Stamp). f path) files ∙ faithful.elsewhere path plain;
  done = λ at rule here reached quiet.
      subst (λ (f : Names → Option Stamp). IsSettled known build f at rule) (sym files)
      (faithful.done at rule here reached (ap (λ (p : ℕ → Bool). p at) (sym pending) ∙ quiet));
  skipped = λ at rule path here unreached own. ap (λ (f : Names → Option Stamp). f path) files ∙ faithful.skipped at rule path here unreached own;
  bad = bad;
}

-- a settled rule stays so where its outputs do
still_settled : (known : List Content) (build : Build) (old new : Names → Option Stamp) (at : ℕ) (rule : Rule) → ((path : Names) → writes rule path ≡ true → new path ≡ old path) →
    IsSettled known build old at rule → IsSettled known build new at rule
still_settled known build old new at rule same settled = record {
  good = settled.good;
  made = λ path own. let made = settled.made path own in (made.0, made.1, made.2, same path own ∙ made.3);
}

-- what holds in each state of a run
pub record Holds (known : List Content) (plan : Plan) (sources : Tree) (build : Build) (begun : Names → Option Stamp) (state : State) : Type 0 where
  pub orderly : IsOrderly plan state
  pub counted : AreCounted plan state
  pub stand : AllStand plan state
  pub faithful : IsFaithful known plan sources build begun state

module _ (next : Next) (known : List Content) (kept : Kept) (tree : Tree) (plan : Plan) (files : List (Names × Stamp)) (planned : IsPlanned next known kept tree plan files) where
  abbrev Faithful : State → Type 0
  Faithful state = IsFaithful known plan (sources_of kept tree) (clean_of next kept tree plan) (opening plan files).files state

  abbrev Settled : State → ℕ → Rule → Type 0
  Settled state at rule = IsSettled known (clean_of next kept tree plan) state.files at rule

  opening_faithful : Faithful (opening plan files)
  opening_faithful = record {
    elsewhere = elsewhere next known kept tree plan files planned;
    done = λ at rule here reached quiet. absurd (true≢false (sym reached ∙ quiet));
    skipped = λ at rule path here unreached own. refl;
    bad = λ at given is. absurd (none-some given is);
  }

  module _ (state : State) (faithful : Faithful state) where
    abbrev Waits : ℕ → Type 0
    Waits at = (rule : Rule) → slice_get plan.rules at ≡ Some rule → state.pending at ≡ false → IsClear plan state rule → Settled state at rule

    -- a rule that neither is pending nor waits for one that is, is settled
    settled_state : (at : ℕ) (rule : Rule) → slice_get plan.rules at ≡ Some rule → state.pending at ≡ false → IsClear plan state rule → Settled state at rule
    settled_state at rule here quiet clear =
        by_producers plan.rules (acyclic next known kept tree plan files planned) Waits
        (λ place reader there behind its is_here still waits_for_none.
        let same : reader ≡ its = same_Some reader its (sym there ∙ is_here) in
        elim (cases_Bool (is_reached plan place)) [
          | inl reached ↦ faithful.done place its is_here reached still
          | inr unreached ↦
              still_settled known (clean_of next kept tree plan) (opening plan files).files state.files place its (λ path own. faithful.skipped place its path is_here unreached own)
              (unreached_settled next known kept tree plan files planned place its is_here unreached
              (λ other produces.
              let found = placed plan.rules its other produces in
              (behind other (subst (λ (r : Rule). DeclaredProducer plan.rules r other) (sym same) produces) found.0 found.1 (waits_for_none other produces)
              (λ further beyond. waits_for_none further (producer-trans plan.rules its found.0 other further produces found.1 beyond))).good))
        ])
        at rule here rule here quiet clear

    -- so are the declared producers of a rule that waits for none
    producers_settled : (rule : Rule) → IsClear plan state rule → (other : ℕ) (producer : Rule) → slice_get plan.rules other ≡ Some producer → DeclaredProducer plan.rules rule other → Settled state other producer
    producers_settled rule clear other producer there produces =
        settled_state other producer there (clear other produces) (λ further beyond. clear further (producer-trans plan.rules rule producer other further produces there beyond))

    producers_good : (rule : Rule) → IsClear plan state rule → AreProducersGood plan.rules (clean_of next kept tree plan).verdicts rule
    producers_good rule clear other produces =
        let found = placed plan.rules rule other produces in
        (producers_settled rule clear other found.0 found.1 produces).good

    -- what such a rule's command was answered, the tree of the clean build would answer
    as_clean : (rule : Rule) → IsClear plan state rule → (ask : List ℕ × Option Stamp) → Stands plan state rule ask → IsAsOver known plan.rules rule (clean_of next kept tree plan).tree ask
    as_clean rule clear ask stands = record {
      path = stands.path;
      named = stands.named;
      readable = stands.readable;
      same = elim (cases_Bool (writes rule stands.path)) [
        | inl own ↦ stands.same ∙ rw own refl
        | inr foreign ↦ stands.same ∙ rw foreign (read foreign).same
      ];
      contents = λ foreign. (read foreign).contents;
    }
      where
        read : writes rule stands.path ≡ false → IsSameAt known state.files (clean_of next kept tree plan).tree stands.path
        read foreign =
            read_same next known kept tree plan files planned state.files rule stands.path stands.readable foreign (faithful.elsewhere stands.path)
            (λ other producer there produces own. producers_settled rule clear other producer there produces)

    -- ---- the end of a command

    module _ (seat : ℕ) (running : Running) (rule : Rule) (given : Verdict) (written : List (Names × Stamp)) (runs : Runs plan state seat running rule) (orderly : IsOrderly plan state) (counted : AreCounted plan state)
        (stand : AllStand plan state) (fits : FitsEnd rule running.denied given written) (honest : EndsHonestly next known rule running running.denied given written) where
      clear : IsClear plan state rule
      clear = orderly.clear seat running rule runs.here runs.placed

      end_clean : IsEndOver known (verdict next plan.rules rule (clean_of next kept tree plan).tree) given written
      end_clean =
          end_over next known plan rule running (clean_of next kept tree plan).tree given written planned.is_known (counted.each seat running runs.here) runs.placed
          (λ k d below. as_clean rule clear _ (stand.asks seat running rule runs.here runs.placed k d below)) fits honest

      verdict_clean : slice_get (clean_of next kept tree plan).verdicts running.rule ≡ Some (Some given)
      verdict_clean =
          (whole next known kept tree plan files planned).taken running.rule rule runs.placed (producers_good rule clear)
          ∙ ap (λ (v : Verdict). Some (Some v)) end_clean.verdict

      reached : is_reached plan running.rule ≡ true
      reached = orderly.reached running.rule (orderly.pending seat running runs.here)

      -- outputs of other rules stay, and so do the sources
      others_stay : (outcome : Verdict) (at : ℕ) (other : Rule) (path : Names) → slice_get plan.rules at ≡ Some other → (at ≡ running.rule → ⊥) → writes other path ≡ true →
          (ended plan (emptied state seat) running.rule outcome written).files path ≡ state.files path
      others_stay outcome at other path there foreign own =
          files_ended plan (emptied state seat) running.rule outcome written path
          (writes_own rule running.denied given written fits path
          (false_from_ne_true (writes rule path) (λ mine. foreign (apart next known kept tree plan files planned at running.rule other rule path there runs.placed own mine))))

      plain_stays : (outcome : Verdict) (path : Names) → is_generated plan.rules path ≡ false → (ended plan (emptied state seat) running.rule outcome written).files path ≡ state.files path
      plain_stays outcome path plain =
          files_ended plan (emptied state seat) running.rule outcome written path
          (writes_own rule running.denied given written fits path (writes-at plan.rules path running.rule rule plain runs.placed))

      -- a rule that ended well is settled
      settled_now : given ≡ Good → IsSettled known (clean_of next kept tree plan) (with_stamps state.files written) running.rule rule
      settled_now is_good =
          settled_from next known plan.rules (sources_of kept tree) (clean_of next kept tree plan) (with_stamps state.files written) running.rule rule (whole next known kept tree plan files planned)
          runs.placed (producers_good rule clear) (end_clean.verdict ∙ is_good) end_clean.contents
          (λ content are path own.
          ap (λ (ws : List (Names × Stamp)). with_stamps state.files ws path) (sym end_clean.stamps ∙ ap (map stamped) are)
          ∙ stamps_each content rule.outputs state.files path
          ∙ ap (λ b. cond b (Some (stamp (content path))) (state.files path)) own)

      good_end : given ≡ Good → Faithful (ended plan (emptied state seat) running.rule Good written)
      good_end is_good = record {
        elsewhere = λ path plain. plain_stays Good path plain ∙ faithful.elsewhere path plain;
        done = λ at its here in_reach quiet.
            elim (changed_cases state.pending running.rule false at) [
              | inl itself ↦
                  let same : rule ≡ its = same_Some rule its (sym runs.placed ∙ ap (slice_get plan.rules) (sym itself.0) ∙ here) in
                  subst (λ (n : ℕ). IsSettled known (clean_of next kept tree plan) (with_stamps state.files written) n its) (sym itself.0)
                  (subst (λ (r : Rule). IsSettled known (clean_of next kept tree plan) (with_stamps state.files written) running.rule r) same (settled_now is_good))
              | inr other ↦
                  still_settled known (clean_of next kept tree plan) state.files (with_stamps state.files written) at its (λ path own. others_stay Good at its path here other.0 own)
                  (faithful.done at its here in_reach (sym other.1 ∙ quiet))
            ];
        skipped = λ at its path here unreached own.
            others_stay Good at its path here (λ same. true≢false (sym reached ∙ ap (is_reached plan) (sym same) ∙ unreached)) own
            ∙ faithful.skipped at its path here unreached own;
        bad = faithful.bad;
      }

      -- a bad verdict is noted, and nothing else changes
      bad_end : (outcome : Verdict) → given ≡ outcome → (new : State) → new.files ≡ state.files → new.pending ≡ state.pending → new.bad ≡ changed state.bad running.rule (Some outcome) → Faithful new
      bad_end outcome is new same_files same_pending same_bad =
          same_faithful known plan (sources_of kept tree) (clean_of next kept tree plan) (opening plan files).files state new faithful same_files same_pending
          (λ at noted has.
          let now : changed state.bad running.rule (Some outcome) at ≡ Some noted = sym (ap (λ (b : ℕ → Option Verdict). b at) same_bad) ∙ has in
          elim (changed_cases state.bad running.rule (Some outcome) at) [
            | inl here ↦ ap (slice_get (clean_of next kept tree plan).verdicts) here.0 ∙ verdict_clean ∙ ap (λ (v : Verdict). Some (Some v)) (is ∙ same_Some outcome noted (sym here.1 ∙ now))
            | inr there ↦ faithful.bad at noted (sym there.1 ∙ now)
          ])

      end_as : (outcome : Verdict) → given ≡ outcome → Faithful (ended plan (emptied state seat) running.rule outcome written)
      end_as Good is = good_end is
      end_as (Failed status) is = bad_end (Failed status) is _ refl refl refl
      end_as (IllegalRead text) is = bad_end (IllegalRead text) is _ refl refl refl
      end_as (IllegalWrite text) is = bad_end (IllegalWrite text) is _ refl refl refl
      end_as (Unwritten path) is = bad_end (Unwritten path) is _ refl refl refl
      end_as TooManyReads is = bad_end TooManyReads is _ refl refl refl

      ended_faithful : Faithful (after plan state (Finish seat given written))
      ended_faithful = subst (λ (s : State). Faithful s) (sym (finished_is plan state seat running given written runs.here)) (end_as given refl)

  -- ---- whole runs

  abbrev Sound : State → Type 0
  Sound state = Holds known plan (sources_of kept tree) (clean_of next kept tree plan) (opening plan files).files state

  sound_opening : Sound (opening plan files)
  sound_opening = record {
    orderly = orderly_opening plan files;
    counted = record { each = λ seat running there. absurd (none-some running there) };
    stand = record { asks = λ seat running rule there. absurd (none-some running there) };
    faithful = opening_faithful;
  }

  -- an event at which no command ends
  sound_on : (state : State) (event : CoreEvent) → Sound state → IsEnabled plan state event → (after plan state event).files ≡ state.files → (after plan state event).pending ≡ state.pending → (after plan state event).bad ≡ state.bad →
      Sound (after plan state event)
  sound_on state event sound enabled same_files same_pending same_bad = record {
    orderly = orderly_after plan state event sound.orderly enabled;
    counted = counted_after plan state event sound.counted enabled;
    stand = stand_after plan state event (one_maker next known kept tree plan files planned) sound.orderly sound.stand enabled;
    faithful = same_faithful known plan (sources_of kept tree) (clean_of next kept tree plan) (opening plan files).files state (after plan state event) sound.faithful same_files same_pending
        (λ at given has. sound.faithful.bad at given (sym (ap (λ (b : ℕ → Option Verdict). b at) same_bad) ∙ has));
  }

  -- and one at which a command ends
  sound_end : (state : State) (seat : ℕ) (given : Verdict) (written : List (Names × Stamp)) → Sound state → (enabled : IsEnabled plan state (Finish seat given written)) →
      EndsHonestly next known enabled.1 enabled.0 enabled.0.denied given written →
      Sound (after plan state (Finish seat given written)) × (slice_get (clean_of next kept tree plan).verdicts enabled.0.rule ≡ Some (Some given))
  sound_end state seat given written sound (running, rule, runs, fits) honest = (
    record {
      orderly = orderly_after plan state (Finish seat given written) sound.orderly (running, rule, runs, fits);
      counted = counted_after plan state (Finish seat given written) sound.counted (running, rule, runs, fits);
      stand = stand_after plan state (Finish seat given written) (one_maker next known kept tree plan files planned) sound.orderly sound.stand (running, rule, runs, fits);
      faithful = ended_faithful state sound.faithful seat running rule given written runs sound.orderly sound.counted sound.stand fits honest;
    },
    verdict_clean state sound.faithful seat running rule given written runs sound.orderly sound.counted sound.stand fits honest,
  )

  -- the verdicts of a whole run, and its end
  run_clean : (events : List CoreEvent) (state : State) → Sound state → IsRun plan state events → IsHonest next known plan state events →
      EndAsIn (clean_of next kept tree plan) plan state events × Sound (end_of plan state events)
  run_clean [] state sound run honest = (tt, sound)
  run_clean (Claim seat rule ∷ events) state sound (enabled, run) honest =
      run_clean events (after plan state (Claim seat rule)) (sound_on state (Claim seat rule) sound enabled refl refl refl) run honest
  run_clean (Ask seat text answer ∷ events) state sound (enabled, run) honest =
      run_clean events (after plan state (Ask seat text answer)) (sound_on state (Ask seat text answer) sound enabled refl refl refl) run honest
  run_clean (Deny seat text given ∷ events) state sound (enabled, run) honest =
      run_clean events (after plan state (Deny seat text given)) (sound_on state (Deny seat text given) sound enabled refl refl refl) run honest
  run_clean (Stop seat cause ∷ events) state sound (enabled, run) honest =
      run_clean events (after plan state (Stop seat cause)) (sound_on state (Stop seat cause) sound enabled refl refl refl) run honest
  run_clean (Finish seat given written ∷ events) state sound (enabled, run) (honest, rest) =
      let here = sound_end state seat given written sound enabled (honest enabled.0 enabled.1 enabled.2) in
      let more = run_clean events (after plan state (Finish seat given written)) here.0 run rest in (
        (λ running there. ap (λ (r : Running). slice_get (clean_of next kept tree plan).verdicts r.rule) (same_Some running enabled.0 (sym there ∙ enabled.2.here)) ∙ here.1, more.0),
        more.1,
      )

  pub sound_at : (events : List CoreEvent) → IsRun plan (opening plan files) events → IsHonest next known plan (opening plan files) events →
      Holds known plan (sources_of kept tree) (clean_of next kept tree plan) (opening plan files).files (end_of plan (opening plan files) events)
  sound_at events run honest = (run_clean events (opening plan files) sound_opening run honest).1

  pub ends_clean : (events : List CoreEvent) → IsRun plan (opening plan files) events → IsHonest next known plan (opening plan files) events →
      EndAsIn (clean_of next kept tree plan) plan (opening plan files) events
  ends_clean events run honest = (run_clean events (opening plan files) sound_opening run honest).0

  pub bad_clean : (events : List CoreEvent) → IsRun plan (opening plan files) events → IsHonest next known plan (opening plan files) events →
      (at : ℕ) (given : Verdict) → (end_of plan (opening plan files) events).bad at ≡ Some given → slice_get (clean_of next kept tree plan).verdicts at ≡ Some (Some given)
  bad_clean events run honest = (sound_at events run honest).faithful.bad

  -- a rule that was run and isn't pending is settled
  pub done_clean : (events : List CoreEvent) → IsRun plan (opening plan files) events → IsHonest next known plan (opening plan files) events → (at : ℕ) (rule : Rule) → slice_get plan.rules at ≡ Some rule →
      is_reached plan at ≡ true → (end_of plan (opening plan files) events).pending at ≡ false → Settled (end_of plan (opening plan files) events) at rule
  done_clean events run honest = (sound_at events run honest).faithful.done

  -- and so is each that neither is pending nor waits for one that is
  pub clear_clean : (events : List CoreEvent) → IsRun plan (opening plan files) events → IsHonest next known plan (opening plan files) events → (at : ℕ) (rule : Rule) → slice_get plan.rules at ≡ Some rule →
      (end_of plan (opening plan files) events).pending at ≡ false → IsClear plan (end_of plan (opening plan files) events) rule → Settled (end_of plan (opening plan files) events) at rule
  clear_clean events run honest = settled_state (end_of plan (opening plan files) events) (sound_at events run honest).faithful

  -- ---- an end with nothing pending

  all_good : (verdicts : List (Option Verdict)) → ((at : ℕ) → at < length verdicts → good_at verdicts at ≡ true) → list_all is_good verdicts ≡ true
  all_good [] each = refl
  all_good (outcome ∷ verdicts) each = and_from (is_good outcome) (list_all is_good verdicts) (each zero (first (length verdicts))) (all_good verdicts (λ at below. each (suc at) (later at (length verdicts) below)))
    where
      first : (n : ℕ) → 0 < suc n
      first n = omega arith

      later : (k n : ℕ) → k < n → suc k < suc n
      later k n below = omega arith

  module _ (events : List CoreEvent) (run : IsRun plan (opening plan files) events) (honest : IsHonest next known plan (opening plan files) events)
      (done : (at : ℕ) → (end_of plan (opening plan files) events).pending at ≡ false) where
    all_settled : (at : ℕ) (rule : Rule) → slice_get plan.rules at ≡ Some rule → Settled (end_of plan (opening plan files) events) at rule
    all_settled at rule here =
        settled_state (end_of plan (opening plan files) events) (sound_at events run honest).faithful at rule here (done at) (λ other produces. done other)

    pub succeeds_clean : succeeds (clean_of next kept tree plan) ≡ true
    succeeds_clean = all_good (clean_of next kept tree plan).verdicts (λ at below.
        let rule = some_place plan.rules at (subst (λ (n : ℕ). at < n) (whole next known kept tree plan files planned).many below) in
        (all_settled at rule.0 rule.1).good)

    same_clean : (path : Names) → IsSameAt known (end_of plan (opening plan files) events).files (clean_of next kept tree plan).tree path
    same_clean path =
        elim (cases_Bool (is_generated plan.rules path)) [
          | inr plain ↦
              plain_same next known kept tree plan files planned (end_of plan (opening plan files) events).files path plain
              ((sound_at events run honest).faithful.elsewhere path plain)
          | inl generated ↦
              let made = is_generated-maker plan.rules path generated in
              let found = maker-Some plan.rules path made.0 made.1 in
              settled_same known (clean_of next kept tree plan) (end_of plan (opening plan files) events).files made.0 found.rule path (all_settled made.0 found.rule found.here) found.writes_it
        ]

    pub files_clean : (path : Names) → (end_of plan (opening plan files) events).files path ≡ option_map stamp (finite.get (clean_of next kept tree plan).tree path)
    files_clean path = (same_clean path).same

    pub contents_clean : (path : Names) (content : Content) → finite.get (clean_of next kept tree plan).tree path ≡ Some content → Contains known content
    contents_clean path = (same_clean path).contents
