-- What a board makes of the states of owned paths.
use Rattle.std.proofs.Common.{◌≡◌, ◌⊎◌, inl, inr, ℕ, ◌≤◌, Bool, true, false, List, [], ◌∷◌, ◌++◌, map, Option, Some, Ok, IsTrue, refl, sym, ap, subst, ◌∙◌}
use Rattle.std.specs.FinMap as finite
use Rattle.std.specs.List.{IsDistinct}
use Rattle.std.specs.Option.{option_map}
use Rattle.std.specs.Prelude.{Contains, slice_get}
use Rattle.std.proofs.lemmas.Option.{same_Some}
use Rattle.tup_path.specs.Name.{Names, Content}
use Rattle.tup_path.specs.Order.{same_path}
use Rattle.tup_path.specs.Tree.{Tree}
use Rattle.tup_site.specs.Known.{IsKnown, KnowsTree}
use Rattle.tup_site.specs.World.{World}
use Rattle.tup_site.specs.declared.site.Site.{Ghosts as Site}
use Rattle.tup_stamp.specs.declared.Stamp.{Stamp}
use Rattle.tup_stamp.specs.Stamp.{stamp}
use Rattle.tup_rule.specs.Rule.{among, is_generated, writes}
use Rattle.tup_rule.specs.declared.rule.Rule.{Rule}
use Rattle.tup_rule.proofs.Laws.{maker-Some}
use Rattle.tup_runner.specs.Next.{Next}
use Rattle.tup_runner.specs.declared.runner.Runner.{Ghosts as Runner}
use Rattle.tup_access.specs.declared.verdict.Verdict.{Verdict}
use Rattle.tup_access.specs.declared.verdict.Verdict.TheVariants.{Good}
use Rattle.tup_clean.specs.Clean.{Build, clean}
use Rattle.tup_clean.proofs.Among.{is_generated-maker}
use Rattle.tup_project.specs.Project.{ComeTo}
use Rattle.tup_record.specs.declared.owned.OwnedState.TheVariants.{Unsure, Written}
use Rattle.tup_record.specs.declared.run.RunRecord.{RunRecord}
use Rattle.tup_graph.specs.declared.owned.Owned.{Owned}
use Rattle.tup_graph.specs.Graph.{GraphState}
use Rattle.tup_graph.specs.Reach.{stamp_in}
use Rattle.tup_graph.specs.Transactions.{finished, maker_of}
use Rattle.tup_ledger.specs.Sources.{sources_of}
use Rattle.tup_core.specs.Honest.{EndsHonestly, IsHonest}
use Rattle.tup_core.specs.Planned.{clean_of}
use Rattle.tup_core.specs.Run.{IsRun, end_of}
use Rattle.tup_core.specs.Settled.{IsSettled}
use Rattle.tup_core.specs.Step.{FitsEnd, IsEnabled, Runs, State, after, emptied, ended, is_reached, with_stamps}
use Rattle.tup_core.specs.declared.event.CoreEvent.{CoreEvent}
use Rattle.tup_core.specs.declared.event.CoreEvent.TheVariants.{Claim, Ask, Deny, Finish, Stop}
use Rattle.tup_core.specs.declared.plan.Plan.{Plan}
use Rattle.tup_core.specs.declared.running.Running.{Running}
use Rattle.tup_core.proofs.Changed.{changed_here}
use Rattle.tup_core.proofs.CleanRuns.{done_clean}
use Rattle.tup_core.proofs.Orderly.{finished_is}
use Rattle.tup_schedule.proofs.Courses.{end_more, run_more}
use Rattle.tup_board.specs.Board.{BoardState, course_of, first_graph, plan_of, start}
use Rattle.tup_board.specs.Come.{HasCome, WasToKeep}
use Rattle.tup_board.specs.Ends.{HasEnded}
use Rattle.tup_board.specs.Images.{IsImageOver}
use Rattle.tup_board.specs.Sound.{Before, IsSound}
use Rattle.tup_board.proofs.Coming.{begun_own, written_own}
use Rattle.tup_board.proofs.Seated.{orderly}
use Rattle.tup_board.proofs.Sounds.{honest_more}
use Rattle.tup_law_site.proofs.Stores.{in_bytes}
use Rattle.tup_law_board.specs.Kept.{CameTo}
use Rattle.tup_law_board.proofs.Runs.{honest_at, one_file, run_front, stamp_written}
use Rattle.tup_law_phases.specs.Planning.{kept_of}
use Rattle.tup_promise.specs.Kept.{OfGraph}
use Rattle.tup_promise.specs.Prepared.{IsPrepared}
use Rattle.tup_promise.specs.States.{IsNewlyOwned, IsWrittenClean, KeepsStates, StateStays, States}
use Rattle.tup_ends.proofs.Quiet.{is_planned, same_build}

-- states that are kept
pub kept_stated : (next : Next) (old new : World) → OfGraph new (KeepsStates old) → States next old new
kept_stated next old new (h, there, (g, here, keeps)) = (g, here, (h, there, λ path owned is. by path owned (keeps path owned is)))
  where
    by : (path : Names) (owned : Owned) → StateStays g path owned ⊎ IsNewlyOwned g path owned ⊎ (owned.state ≡ Unsure)
        → StateStays g path owned ⊎ IsNewlyOwned g path owned ⊎ (owned.state ≡ Unsure) ⊎ IsWrittenClean next old path owned
    by path owned (inl stays) = inl stays
    by path owned (inr (inl new)) = inr (inl new)
    by path owned (inr (inr unsure)) = inr (inr (inl unsure))

-- the front of an honest list of events is honest
honest_front : (next : Next) (known : List Content) (plan : Plan) (before more : List CoreEvent) (at : State) → IsHonest next known plan at (before ++ more) → IsHonest next known plan at before
honest_front next known plan [] more at honest = tt
honest_front next known plan (Claim seat rule ∷ before) more at honest = honest_front next known plan before more (after plan at (Claim seat rule)) honest
honest_front next known plan (Ask seat text answer ∷ before) more at honest = honest_front next known plan before more (after plan at (Ask seat text answer)) honest
honest_front next known plan (Deny seat text verdict ∷ before) more at honest = honest_front next known plan before more (after plan at (Deny seat text verdict)) honest
honest_front next known plan (Finish seat given files ∷ before) more at honest = (honest.0, honest_front next known plan before more (after plan at (Finish seat given files)) honest.1)
honest_front next known plan (Stop seat cause ∷ before) more at honest = honest_front next known plan before more (after plan at (Stop seat cause)) honest

module _ {S R : Type 0} (site : Site S) (runner : Runner R) (b : BoardState S) (sound : IsSound site runner b) (tells : IsTrue site.tells) (told : IsTrue runner.tells) (first : World) (since : ℕ)
    (prepared : IsPrepared site runner.next first since b.opening.graph b.opening.site)
    (earlier : (t u : ℕ) (w : World) → t ≤ u → site.left_since b.opening.site u w → site.left_since b.opening.site t w) (present : Before site b (site.world b.opening.site))
    (knows : KnowsTree (site.known b.opening.site) (site.world b.opening.site).tree) (apart : IsKnown (site.known b.site))
    (once : (number : ℕ) (rule : Rule) → slice_get (plan_of b).rules number ≡ Some rule → IsDistinct same_path rule.outputs) where
  abbrev plan : Plan
  plan = plan_of b

  abbrev fg : GraphState
  fg = first_graph b

  abbrev known : List Content
  known = site.known b.site

  abbrev tree : Tree
  tree = (site.world b.opening.site).tree

  abbrev built : Build
  built = clean runner.next plan.rules (sources_of prepared.rules.0 first.tree)

  honest : IsHonest runner.next known plan (start b) b.history
  honest = sound.honest tells told

  -- ---- a command that came to a good end, or could have
  came : (number : ℕ) (run : RunRecord) → HasEnded plan (start b) b.history number run ⊎ WasToKeep b.lost number run → CameTo b runner.next known number run
  came number run (inl done) = record {
    front = done.before;
    back = Finish done.seat Good run.writes ∷ done.after;
    whole = done.whole;
    seat = done.seat;
    kept = done.kept;
    ends = subst (λ (denied : Option (List ℕ × Verdict)). EndsHonestly runner.next known done.kept.rule done.kept.running denied Good run.writes) done.kept.granted
        (honest_at runner.next known plan done.before done.after done.seat Good run.writes (start b) (subst (IsHonest runner.next known plan (start b)) done.whole honest) done.kept.running done.kept.rule done.kept.runs);
  }
  came number run (inr lost) =
      let could = (sound.lost lost.commit lost.here).run run lost.kept in
      record {
        front = could.before;
        back = could.after;
        whole = could.whole;
        seat = could.seat;
        kept = record {
          running = could.kept.running;
          rule = could.kept.rule;
          runs = could.kept.runs;
          here = could.kept.here ∙ lost.rule;
          granted = could.kept.granted;
          asks = could.kept.asks;
          writes = could.kept.writes;
        };
        ends = could.ended (tells, told);
      }

  module _ (number : ℕ) (rule : Rule) (here : slice_get plan.rules number ≡ Some rule) (run : RunRecord) (c : CameTo b runner.next known number run) where
    abbrev mid : State
    mid = end_of plan (start b) c.front

    abbrev event : CoreEvent
    event = Finish c.seat Good run.writes

    abbrev events : List CoreEvent
    events = c.front ++ event ∷ []

    rule_is : c.kept.rule ≡ rule
    rule_is = same_Some c.kept.rule rule (sym (ap (slice_get plan.rules) (sym c.kept.here) ∙ c.kept.runs.placed) ∙ here)

    names : map (λ (file : Names × Stamp). file.0) run.writes ≡ rule.outputs
    names = c.kept.writes ∙ ap (λ (r : Rule). r.outputs) rule_is

    run_before : IsRun plan (start b) c.front
    run_before = run_front plan c.front c.back (start b) (subst (IsRun plan (start b)) c.whole sound.run)

    enabled : IsEnabled plan mid event
    enabled =
        (c.kept.running, c.kept.rule, c.kept.runs, subst (λ (denied : Option (List ℕ × Verdict)). FitsEnd c.kept.rule denied Good run.writes) (sym c.kept.granted) c.kept.writes)

    run_then : IsRun plan (start b) events
    run_then = run_more plan (start b) c.front event run_before enabled

    ends_then : (running : Running) (other : Rule) → Runs plan mid c.seat running other → EndsHonestly runner.next known other running running.denied Good run.writes
    ends_then running other runs =
        subst (λ (r : Running). EndsHonestly runner.next known other r r.denied Good run.writes) running_is
        (subst (λ (r : Rule). EndsHonestly runner.next known r c.kept.running c.kept.running.denied Good run.writes) other_is
        (subst (λ (denied : Option (List ℕ × Verdict)). EndsHonestly runner.next known c.kept.rule c.kept.running denied Good run.writes) (sym c.kept.granted) c.ends))
      where
        running_is : c.kept.running ≡ running
        running_is = same_Some c.kept.running running (sym c.kept.runs.here ∙ runs.here)

        other_is : c.kept.rule ≡ other
        other_is = same_Some c.kept.rule other (sym c.kept.runs.placed ∙ ap (λ (r : Running). slice_get plan.rules r.rule) running_is ∙ runs.placed)

    honest_then : IsHonest runner.next known plan (start b) events
    honest_then =
        honest_more runner.next known plan (start b) c.front event
        (honest_front runner.next known plan c.front c.back (start b) (subst (IsHonest runner.next known plan (start b)) c.whole honest)) (ends_then, tt)

    -- the state behind that end
    end_is : end_of plan (start b) events ≡ ended plan (emptied mid c.seat) c.kept.running.rule Good run.writes
    end_is = end_more plan (start b) c.front event ∙ finished_is plan mid c.seat c.kept.running Good run.writes c.kept.runs.here

    gone : (end_of plan (start b) events).pending number ≡ false
    gone = ap (λ (s : State). s.pending number) end_is ∙ subst (λ (n : ℕ). (ended plan (emptied mid c.seat) c.kept.running.rule Good run.writes).pending n ≡ false) c.kept.here (changed_here mid.pending c.kept.running.rule false)

    reached : is_reached plan number ≡ true
    reached =
        let order = orderly plan (course_of b).files c.front run_before in
        subst (λ (n : ℕ). is_reached plan n ≡ true) c.kept.here (order.reached c.kept.running.rule (order.pending c.seat c.kept.running c.kept.runs.here))

    settled : IsSettled known (clean_of runner.next (kept_of fg) tree plan) (end_of plan (start b) events).files number rule
    settled =
        done_clean runner.next known (kept_of fg) tree plan (course_of b).files (is_planned site runner b sound tells told first since prepared earlier present knows apart) events run_then honest_then
        number rule here reached gone

    -- what it wrote is what the clean build leaves
    written_clean : (path : Names) (file : Names × Stamp) → writes rule path ≡ true → Contains run.writes file → file.0 ≡ path → stamp_in built.tree path ≡ Some file.1
    written_clean path file output wrote is = by (settled.made path output) (stamp_written run.writes mid.files path (ap (among path) names ∙ output))
      where
        files_are : (end_of plan (start b) events).files path ≡ with_stamps mid.files run.writes path
        files_are = ap (λ (s : State). s.files path) end_is

        by : (content : Content) × (finite.get (clean_of runner.next (kept_of fg) tree plan).tree path ≡ Some content) × Contains known content × ((end_of plan (start b) events).files path ≡ Some (stamp content))
            → (found : Names × Stamp) × Contains run.writes found × (found.0 ≡ path) × (with_stamps mid.files run.writes path ≡ Some found.1) → stamp_in built.tree path ≡ Some file.1
        by (content, there, known_one, stands) (found, among_them, named, value) =
            ap (λ (build : Build). stamp_in build.tree path) (sym (same_build site runner b sound tells told first since prepared earlier present knows apart))
            ∙ ap (option_map stamp) there ∙ sym stands ∙ files_are ∙ value
            ∙ ap (λ (f : Names × Stamp). Some f.1) (one_file run.writes (subst (IsDistinct same_path) (sym names) (once number rule here)) found file among_them wrote (named ∙ sym is))

  -- ---- the states
  module _ (keeps : KeepsStates first fg) where
    abbrev Stated : Names → Owned → Type 0
    Stated path owned = StateStays keeps.0 path owned ⊎ IsNewlyOwned keeps.0 path owned ⊎ (owned.state ≡ Unsure) ⊎ IsWrittenClean runner.next first path owned

    as_before : (path : Names) (owned : Owned) → finite.get fg.owned path ≡ Some owned → Stated path owned
    as_before path owned is = by (keeps.2 path owned is)
      where
        by : StateStays keeps.0 path owned ⊎ IsNewlyOwned keeps.0 path owned ⊎ (owned.state ≡ Unsure) → Stated path owned
        by (inl stays) = inl stays
        by (inr (inl new)) = inr (inl new)
        by (inr (inr unsure)) = inr (inr (inl unsure))

    -- how an output is owned once its rule ended
    abbrev owned_after : ℕ → Names × Stamp → Owned
    owned_after number file = record { maker = maker_of fg number file.0; state = Written file.1 }

    in_graph : (number : ℕ) (rule : Rule) → slice_get plan.rules number ≡ Some rule → slice_get fg.rules number ≡ Some rule
    in_graph number rule here = ap (λ (rules : List Rule). slice_get rules number) (sym sound.opening.plan.rules) ∙ here

    module _ (g : GraphState) (path : Names) (owned : Owned) (is : finite.get g.owned path ≡ Some owned) where
      of_rule : (number : ℕ) (rule : Rule) → slice_get plan.rules number ≡ Some rule → writes rule path ≡ true → HasCome b g number rule → Stated path owned
      of_rule number rule here output (inl has) = as_before path owned (sym (has.owned path output) ∙ is)
      of_rule number rule here output (inr (inl (claimed, has))) =
          inr (inr (inl (sym (ap (λ (o : Owned). o.state) (same_Some _ owned (sym (begun_own fg number rule (in_graph number rule here) path output) ∙ sym (has.owned path output) ∙ is))))))
      of_rule number rule here output (inr (inr (run, ends, has))) =
          by (written_own fg number rule (in_graph number rule here) run (names number rule here run c) path output)
        where
          c : CameTo b runner.next known number run
          c = came number run ends

          rules_come : ComeTo (sources_of prepared.rules.0 first.tree) (Ok plan.rules)
          rules_come = subst (λ (rules : List Rule). ComeTo (sources_of prepared.rules.0 first.tree) (Ok rules)) (sym sound.opening.plan.rules) prepared.rules.2

          by : (file : Names × Stamp) × (file.0 ≡ path) × (finite.get (finished fg number run).owned path ≡ Some (owned_after number file)) × Contains run.writes file → Stated path owned
          by (file, named, there, wrote) =
              inr (inr (inr (
                prepared.rules.0,
                prepared.rules.1,
                (
                  plan.rules,
                  rules_come,
                  (
                    file.1,
                    sym (ap (λ (o : Owned). o.state) (same_Some (owned_after number file) owned (sym there ∙ sym (has.owned path output) ∙ is))),
                    written_clean number rule here run c path file output wrote named,
                  ),
                ),
              )))

      stated : IsImageOver b (site.world b.opening.site) (site.world b.site) g → Stated path owned
      stated image = by (is_generated plan.rules path) refl
        where
          by : (generated : Bool) → is_generated plan.rules path ≡ generated → Stated path owned
          by false unmade = as_before path owned (sym (image.come.beside.owned path unmade) ∙ is)
          by true made =
              let it = is_generated-maker plan.rules path made in
              let maker = maker-Some plan.rules path it.0 it.1 in
              of_rule it.0 maker.rule maker.here maker.writes_it (image.come.each it.0 maker.rule maker.here)

    pub board_stated : States runner.next first (site.world b.site)
    board_stated =
        let image = sound.now tells in
        (keeps.0, keeps.1, (image.0, in_bytes image.0 (site.world b.site).store image.1.store, λ path owned is. stated image.0 path owned is image.1))
