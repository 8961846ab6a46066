-- Where the outputs of a running rule may be put: no file stands above or below them, whatever stands at them.
use Rattle.std.proofs.Common.{◌≡◌, ℕ, Bool, true, false, List, [], ◌∷◌, length, map, Option, None, Some, refl, sym, ap, ◌∙◌, subst, inl, inr}
use Rattle.std.specs.Prelude.{All, IsSome, IsTrue, slice_get}
use Rattle.std.specs.FinMap as finite
use Rattle.std.specs.Option.{option_map}
use Rattle.std.proofs.lemmas.Bool.{false≢true, lt-ltb}
use Rattle.std.proofs.lemmas.List.Elements.{All-contains, All-map}
use Rattle.std.proofs.lemmas.Option.{slice_get_within}
use Rattle.tup_path.specs.Name.{Names, Content}
use Rattle.tup_stamp.specs.Stamp.{stamp}
use Rattle.tup_rule.specs.declared.rule.Rule.{Rule}
use Rattle.tup_rule.specs.Rule.{among}
use Rattle.tup_site.specs.declared.site.Site.{Ghosts as Site}
use Rattle.tup_runner.specs.declared.runner.Runner.{Ghosts as Runner}
use Rattle.tup_runner.specs.declared.step.Ended.{Ended}
use Rattle.tup_access.specs.Judge.{Judged, good, judge}
use Rattle.tup_access.proofs.Outputs.{judge-LeavesOutputs}
use Rattle.tup_record.specs.declared.run.RunRecord.{RunRecord}
use Rattle.tup_core.specs.declared.event.CoreEvent.{CoreEvent}
use Rattle.tup_core.specs.declared.event.CoreEvent.TheVariants.{Claim, Ask, Deny, Finish, Stop}
use Rattle.tup_core.specs.declared.plan.Plan.{Plan}
use Rattle.tup_core.specs.Run.{IsRun, end_of}
use Rattle.tup_core.specs.Sound.{HasOneMaker}
use Rattle.tup_core.specs.Step.{State, IsEnabled, after, emptied, is_reached, opening}
use Rattle.tup_core.proofs.Changed.{changed_cases}
use Rattle.tup_core.proofs.Orderly.{IsOrderly, claimed_ended, finished_is, orderly_after, orderly_opening}
use Rattle.tup_rule_outputs.specs.Ground.{AreAtOnce, CanMake, HavePlaces, paths_of}
use Rattle.tup_board.specs.Board.{BoardState, course_of, plan_of, first_graph, state}
use Rattle.tup_board.specs.Come.{IsPresent}
use Rattle.tup_board.specs.Ends.{IsRecordOf}
use Rattle.tup_board.specs.Outputs.{IsClaimed, IsToMake}
use Rattle.tup_board.specs.Sound.{IsSound}
use Rattle.tup_board.proofs.Coming.{outputs_are}
use Rattle.tup_board.proofs.Ending.{judge_contents}
use Rattle.tup_board.proofs.Finishing.{in_graph, placed, reached}
use Rattle.tup_board.proofs.Seated.{orderly}

-- ---- only rules that are to be run are claimed
claimed_more : (plan : Plan) (before : State) (event : CoreEvent) → IsOrderly plan before → ((m : ℕ) → before.claimed m ≡ true → is_reached plan m ≡ true) → IsEnabled plan before event
    → (m : ℕ) → (after plan before event).claimed m ≡ true → is_reached plan m ≡ true
claimed_more plan before (Claim seat rule) in_order within enabled m now =
    elim (changed_cases before.claimed rule true m) [
      | inl here ↦ subst (λ (n : ℕ). is_reached plan n ≡ true) (sym here.0) (in_order.reached rule enabled.2.pending)
      | inr apart ↦ within m (sym apart.1 ∙ now)
    ]
claimed_more plan before (Ask seat text answer) in_order within enabled m now = within m now
claimed_more plan before (Deny seat text verdict) in_order within enabled m now = within m now
claimed_more plan before (Finish seat given written) in_order within (running, rule, runs, fits) m now =
    within m (sym (ap (λ (c : ℕ → Bool). c m) (claimed_ended plan (emptied before seat) running.rule given written))
    ∙ sym (ap (λ (s : State). s.claimed m) (finished_is plan before seat running given written runs.here)) ∙ now)
claimed_more plan before (Stop seat cause) in_order within enabled m now = within m now

claimed_run : (plan : Plan) (events : List CoreEvent) (before : State) → IsOrderly plan before → ((m : ℕ) → before.claimed m ≡ true → is_reached plan m ≡ true) → IsRun plan before events
    → (m : ℕ) → (end_of plan before events).claimed m ≡ true → is_reached plan m ≡ true
claimed_run plan [] before in_order within run = within
claimed_run plan (event ∷ events) before in_order within (enabled, run) =
    claimed_run plan events (after plan before event) (orderly_after plan before event in_order enabled) (claimed_more plan before event in_order within enabled) run

some_stamp : (found : Option Content) → IsSome found → IsSome (option_map stamp found)
some_stamp (Some content) there = there
some_stamp None there = absurd (false≢true there)

module _ {S R : Type 0} (site : Site S) (runner : Runner R) (b : BoardState S) (sound : IsSound site runner b) where
  pub claimed_reached : (m : ℕ) → (state b).claimed m ≡ true → is_reached (plan_of b) m ≡ true
  claimed_reached =
      claimed_run (plan_of b) b.history (opening (plan_of b) (course_of b).files) (orderly_opening (plan_of b) (course_of b).files) (λ m was. absurd (false≢true was)) sound.run

  -- a file that stands was seen at the opening, or is an output that is to be made
  seen_at : IsTrue site.tells → (path : Names) → IsSome (finite.get (site.world b.site).tree path) → (IsClaimed (plan_of b) (state b) path → ⊥) → IsSome (finite.get (first_graph b).seen path)
  seen_at told path there free =
      subst IsSome (sym (sound.opening.seen told path)) (some_stamp (finite.get (site.world b.opening.site).tree path) (subst IsSome ((sound.now told).1.others path free) there))

  module _ (none : b.lost ≡ None) (seat number : ℕ) (run : RunRecord) (kept : IsRecordOf (plan_of b) (state b) seat number run) (ended : Ended) (files : List (Names × Content)) (judged : judge kept.rule ended ≡ good files) where
    abbrev rule : Rule
    rule = kept.rule

    one_maker : HasOneMaker (plan_of b)
    one_maker = sound.opening.apart.one_maker

    in_order : IsOrderly (plan_of b) (state b)
    in_order = orderly (plan_of b) (course_of b).files b.history sound.run

    at_present : IsPresent b b.graph.nodes
    at_present = sound.present none

    here : slice_get (plan_of b).rules number ≡ Some rule
    here = placed b none b.graph.nodes sound.opening.plan.rules one_maker in_order at_present seat number run kept

    graph_has : slice_get b.graph.nodes.rules number ≡ Some rule
    graph_has = in_graph b none b.graph.nodes sound.opening.plan.rules one_maker in_order at_present seat number run kept

    within : is_reached (plan_of b) number ≡ true
    within = reached b none b.graph.nodes sound.opening.plan.rules one_maker in_order at_present seat number run kept

    -- the files are those of its outputs
    pub files_outputs : paths_of files ≡ rule.outputs
    files_outputs = sym (ap (λ (j : Judged). paths_of j.files) judged) ∙ (judge-LeavesOutputs rule ended).good (ap (λ (j : Judged). j.verdict) judged)

    to_make : (path : Names) → among path (paths_of files) ≡ true → IsToMake (plan_of b) path
    to_make path own = (number, within, record { rule = rule; here = here; output = ap (among path) (sym files_outputs) ∙ own })

    at_once : AreAtOnce files
    at_once one other first second same =
        All-contains (λ (file : Names × Content). file.1 ≡ contents.0 file.0) files one each first ∙ ap contents.0 same
        ∙ sym (All-contains (λ (file : Names × Content). file.1 ≡ contents.0 file.0) files other each second)
      where
        contents : (content : Names → Content) × ((judge rule ended).files ≡ map (λ path. (path, content path)) rule.outputs)
        contents = judge_contents rule ended (ap (λ (j : Judged). j.verdict) judged)

        each : All (λ (file : Names × Content). file.1 ≡ contents.0 file.0) files
        each =
            subst (All (λ (file : Names × Content). file.1 ≡ contents.0 file.0)) (sym contents.1 ∙ ap (λ (j : Judged). j.files) judged)
            (All-map (λ (file : Names × Content). file.1 ≡ contents.0 file.0) (λ (path : Names). (path, contents.0 path)) rule.outputs (λ k d less. refl))

    places : IsTrue site.tells → HavePlaces (paths_of files) (site.world b.site).tree
    places told other path beside inside = record {
      not_top = sound.opening.apart.not_top path (to_make path inside);
      none_above = λ file there below.
          no_file file there (λ made. sound.opening.apart.above_other file path made (to_make path inside) below) (λ seen. sound.opening.apart.below_seen path file (to_make path inside) seen below);
      none_below = λ file there below.
          no_file file there (λ made. sound.opening.apart.above_other path file (to_make path inside) made below) (λ seen. sound.opening.apart.above_seen path file (to_make path inside) seen below);
    }
      where
        no_file : (file : Names) → IsSome (finite.get other file) → (IsToMake (plan_of b) file → ⊥) → (IsSome (finite.get (first_graph b).seen file) → ⊥) → ⊥
        no_file file there not_made not_seen = by (among file (paths_of files)) refl
          where
            by : (own : Bool) → among file (paths_of files) ≡ own → ⊥
            by true own = not_made (to_make file own)
            by false outside = not_seen (seen_at told file (subst IsSome (beside file outside) there) (λ it. not_made (it.0, claimed_reached it.0 it.1, it.2)))

    pub can_make : CanMake site (record { site = b.site; graph = b.graph; lost = b.lost }) number files
    can_make = record {
      is_ground = record { fresh = sound.fresh; stands = sound.stands };
      rule = lt-ltb number (length b.graph.nodes.rules) (slice_get_within b.graph.nodes.rules number rule graph_has);
      outputs = files_outputs ∙ sym (outputs_are b.graph.nodes number rule graph_has);
      at_once = at_once;
      places = places;
    }
