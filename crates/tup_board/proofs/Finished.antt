-- The end of a Good command of a board: before its files are made, and after, whether or not a commit was lost before.
use Rattle.std.proofs.Common.{◌≡◌, ℕ, ◌≤◌, Bool, true, false, List, [], ◌∷◌, ◌++◌, Option, None, Some, Result, Ok, Err, refl, sym, ap, ◌∙◌, subst}
use Rattle.std.specs.Prelude.{All, Contains, IsTrue, if◌then◌else◌, is_none, slice_get}
use Rattle.std.specs.FinMap as finite
use Rattle.std.proofs.lemmas.Option.{same_Some}
use Rattle.tup_path.specs.Name.{Names, Content}
use Rattle.tup_stamp.specs.declared.Stamp.{Stamp}
use Rattle.tup_rule.specs.declared.rule.Rule.{Rule}
use Rattle.tup_site.specs.Known.{KnowsTree}
use Rattle.tup_site.specs.World.{World}
use Rattle.tup_site.specs.declared.site.Site.{Ghosts as Site}
use Rattle.tup_runner.specs.Honest.{EndsAfter}
use Rattle.tup_runner.specs.Next.{Asks}
use Rattle.tup_runner.specs.declared.runner.Runner.{Ghosts as Runner}
use Rattle.tup_runner.specs.declared.step.Ended.{Ended}
use Rattle.tup_access.specs.Judge.{good, judge}
use Rattle.tup_access.specs.declared.verdict.Verdict.TheVariants.{Good}
use Rattle.tup_record.specs.declared.run.RunRecord.{RunRecord}
use Rattle.tup_table.specs.Table.{entries_in}
use Rattle.tup_graph.specs.Opening.{IsGraphOf}
use Rattle.tup_stored_graph.specs.Held.{Held, is_fresh}
use Rattle.tup_core.specs.declared.event.CoreEvent.{CoreEvent}
use Rattle.tup_core.specs.declared.event.CoreEvent.TheVariants.{Finish}
use Rattle.tup_core.specs.declared.running.Running.{Running}
use Rattle.tup_core.specs.Honest.{EndsHonestly}
use Rattle.tup_core.specs.Step.{IsEnabled}
use Rattle.tup_schedule.specs.Course.{CourseState, IsGoodEnd, with_events}
use Rattle.tup_rule_outputs.specs.declared.fault.BoardFault.{BoardFault}
use Rattle.tup_rule_outputs.specs.declared.fault.BoardFault.TheVariants as fault_by
use Rattle.tup_rule_outputs.specs.declared.ground.Ground.{Ground}
use Rattle.tup_rule_outputs.specs.Fault.{CountsFaults, lost_fault}
use Rattle.tup_rule_outputs.specs.Ground.{CanMake, Makes}
use Rattle.tup_rule_outputs.specs.Lost.{Lost}
use Rattle.tup_board.specs.Board.{BoardState, course_of, plan_of, state, with_history}
use Rattle.tup_board.specs.Calls.{AreFilesAt, AreStamped, Ends, IsGoodEndAt, IsReportOf}
use Rattle.tup_board.specs.Cause.{stops_by}
use Rattle.tup_board.specs.Ends.{IsRecordOf}
use Rattle.tup_board.specs.Sound.{IsSound, IsTrueFault}
use Rattle.tup_board.proofs.Ended.{ends_ok, ends_refused, none_before}
use Rattle.tup_board.proofs.Ending.{ends_well}
use Rattle.tup_board.proofs.Judging.{memory_ends}
use Rattle.tup_board.proofs.Making.{enabled, refusal_true, sound_ended, sound_refused}
use Rattle.tup_board.proofs.Placing.{can_make}

made_refused : (one other : BoardFault) → (let refused : Result (Unit {0}) BoardFault = Err one in refused) ≡ Err other → one ≡ other
made_refused one other e = cc

module _ {S R : Type 0} (site : Site S) (runner : Runner R) (b : BoardState S) (sound : IsSound site runner b) (seat : ℕ) (dir : Names) (text : List ℕ) (asks : Asks) (ended : Ended)
    (report : IsReportOf site b seat dir text asks) (means : IsTrue runner.tells → EndsAfter (runner.next dir text) asks ended) where
  -- ---- memory is wanting before anything is done
  pub ends_early : Ends site seat ended b (Err fault_by.Memory) b
  ends_early = memory_ends site runner b sound seat ended report.it

  module _ (files : List (Names × Content)) (judged : AreFilesAt b seat ended files) (number : ℕ) (run : RunRecord) (event : CoreEvent) (good_end : IsGoodEndAt b seat files number run event) where
    abbrev kept : IsRecordOf (plan_of b) (state b) seat number run
    kept = good_end.kept

    judged_here : judge kept.rule ended ≡ good files
    judged_here = judged (record { running = kept.running; rule = kept.rule; runs = kept.runs })

    abbrev ground_of : Ground S
    ground_of = record { site = b.site; graph = b.graph; lost = b.lost }

    pub can_make_here : b.lost ≡ None → CanMake site ground_of number files
    can_make_here none = can_make site runner b sound none seat number run kept ended files judged_here

    -- the end is what its runner means, once what it leaves is known
    same_running : report.it.it.running ≡ kept.running
    same_running = same_Some _ _ (sym report.it.it.runs.here ∙ kept.runs.here)

    same_rule : report.it.it.rule ≡ kept.rule
    same_rule = same_Some _ _ (sym report.it.it.runs.placed ∙ ap (λ (r : Running). slice_get (plan_of b).rules r.rule) same_running ∙ kept.runs.placed)

    ends : IsTrue site.tells → IsTrue runner.tells → (known : List Content) → ((content : Content) → Contains (site.known b.site) content → Contains known content)
        → All (λ (file : Names × Content). Contains known file.1) files → EndsHonestly runner.next known kept.rule kept.running None Good run.writes
    ends told tells known more all =
        ends_well runner.next known kept.rule kept.running asks ended files run.writes (subst (λ (r : Running). AreStamped r.asks asks) same_running report.asks_are)
        (λ t content within. more content (report.known told t content within))
        (subst (λ (t : List ℕ). EndsAfter (runner.next kept.rule.dir t) asks ended) (report.text_is ∙ ap (λ (r : Rule). r.text) same_rule)
        (subst (λ (d : Names). EndsAfter (runner.next d text) asks ended) (report.dir_is ∙ ap (λ (r : Rule). r.dir) same_rule) (means tells)))
        judged_here good_end.writes all

    -- ---- after it
    module _ (law_before : IsTrue (is_fresh b.graph) → IsGraphOf (entries_in b.graph.table) b.graph.nodes)
        (present : (s : S) → IsTrue site.tells → site.left_since s (site.moment s) (site.world s))
        (earlier : (s : S) (t u : ℕ) (w : World) → IsTrue site.tells → t ≤ u → site.left_since s u w → site.left_since s t w)
        (knows_tree : (s : S) → IsTrue site.tells → KnowsTree (site.known s) (site.world s).tree)
        (result : Result (Unit {0}) BoardFault) (new : Ground S) (makes : Makes site number run files ground_of result new)
        (counts : CountsFaults (site.faults b.site) (site.faults new.site) b.lost result) where
      is_graph : b.lost ≡ None → IsGraphOf (entries_in b.graph.table) b.graph.nodes
      is_graph none = law_before (sound.fresh ∙ ap is_none none)

      counts_here : b.lost ≡ None → CountsFaults (site.faults b.site) (site.faults new.site) None result
      counts_here none = subst (λ (l : Option Lost). CountsFaults (site.faults b.site) (site.faults new.site) l result) none counts

      -- it was refused
      module _ (fault : BoardFault) (refused : result ≡ Err fault) where
        abbrev pub then_refused : BoardState S
        then_refused = record b { site = new.site; graph = new.graph; lost = new.lost }

        pub refused_sound : IsSound site runner then_refused
        refused_sound = by b.lost refl
          where
            by : (lost : Option Lost) → b.lost ≡ lost → IsSound site runner then_refused
            by None none =
                sound_refused site runner b sound none (is_graph none) present earlier knows_tree seat number run files kept good_end.writes ends result new (makes.makes none) (counts_here none) fault refused
            by (Some commit) some =
                subst (λ (it : Ground S). IsSound site runner (record b { site = it.site; graph = it.graph; lost = it.lost })) (sym (makes.idle commit some).0) sound

        pub refused_true : (IsTrue (is_fresh new.graph) → IsGraphOf (entries_in new.graph.table) new.graph.nodes) → IsTrueFault site runner then_refused seat fault
        refused_true law_after = by b.lost refl
          where
            lost_true : (commit : Lost) → b.lost ≡ Some commit → (by_site : Bool) → commit.by_site ≡ by_site → IsTrueFault site runner b seat (if by_site then fault_by.Site else fault_by.Memory)
            lost_true commit some true is = (sound.lost commit some).cause is
            lost_true commit some false is = tt

            by : (lost : Option Lost) → b.lost ≡ lost → IsTrueFault site runner then_refused seat fault
            by None none =
                refusal_true site runner b sound none (is_graph none) present earlier knows_tree seat number run files kept good_end.writes ends result new (makes.makes none) (counts_here none) fault refused law_after
            by (Some commit) some =
                subst (λ (it : Ground S). IsTrueFault site runner (record b { site = it.site; graph = it.graph; lost = it.lost }) seat fault) (sym (makes.idle commit some).0)
                (subst (IsTrueFault site runner b seat) (made_refused (lost_fault commit) fault (sym (makes.idle commit some).1 ∙ refused)) (lost_true commit some commit.by_site refl))

        pub refused_ends : Ends site seat ended b (Err fault) (with_history then_refused (b.history ++ stops_by seat fault))
        refused_ends = ends_refused site b seat number run files ended kept good_end.writes judged_here result new makes counts fault refused

      -- it was made
      module _ (done : Unit {0}) (ok : result ≡ Ok done) where
        abbrev pub then_made : BoardState S
        then_made = record b { history = b.history ++ event ∷ []; site = new.site; graph = new.graph; lost = new.lost }

        none : b.lost ≡ None
        none = none_before site b seat number run files ended kept good_end.writes judged_here result new makes counts done ok

        as_event : (P : CoreEvent → Type 0) → P (Finish seat Good run.writes) → P event
        as_event P it = subst P (sym good_end.event_is) it

        pub made_enabled : IsEnabled (plan_of b) (state b) event
        made_enabled =
            as_event (IsEnabled (plan_of b) (state b))
            (enabled site runner b sound none (is_graph none) present earlier knows_tree seat number run files kept good_end.writes ends result new (makes.makes none) (counts_here none) done ok)

        pub made_end : IsGoodEnd (course_of b) number event
        made_end = record {
          seat = seat;
          files = run.writes;
          is = good_end.event_is;
          it = record { it = record { running = kept.running; rule = kept.rule; runs = kept.runs }; granted = kept.granted };
          rule = kept.here;
          enabled = made_enabled;
        }

        pub made_sound : IsSound site runner then_made
        made_sound =
            as_event (λ (e : CoreEvent). IsSound site runner (record b { history = b.history ++ e ∷ []; site = new.site; graph = new.graph; lost = new.lost }))
            (sound_ended site runner b sound none (is_graph none) present earlier knows_tree seat number run files kept good_end.writes ends result new (makes.makes none) (counts_here none) done ok)

        pub made_ends : Ends site seat ended b (Ok Good) then_made
        made_ends =
            as_event (λ (e : CoreEvent). Ends site seat ended b (Ok Good) (record b { history = b.history ++ e ∷ []; site = new.site; graph = new.graph; lost = new.lost }))
            (ends_ok site b seat number run files ended kept good_end.writes judged_here result new makes counts done ok)

-- ---- the same as callers see it, of a board by its parts
module _ {S R : Type 0} (site : Site S) (runner : Runner R) (b given : BoardState S) (sound : IsSound site runner b) (view : b ≡ given) (seat : ℕ) (dir : Names) (text : List ℕ) (asks : Asks) (ended : Ended)
    (report : IsReportOf site given seat dir text asks) (means : IsTrue runner.tells → EndsAfter (runner.next dir text) asks ended) where
  report_here : IsReportOf site b seat dir text asks
  report_here = subst (λ (it : BoardState S). IsReportOf site it seat dir text asks) (sym view) report

  pub early_seen : Ends site seat ended given (Err fault_by.Memory) given
  early_seen = subst (λ (it : BoardState S). Ends site seat ended it (Err fault_by.Memory) it) view (ends_early site runner b sound seat dir text asks ended report_here means)

  module _ (files : List (Names × Content)) (judged : AreFilesAt given seat ended files) (number : ℕ) (run : RunRecord) (event : CoreEvent) (good_end : IsGoodEndAt given seat files number run event) where
    judged_so : AreFilesAt b seat ended files
    judged_so = subst (λ (it : BoardState S). AreFilesAt it seat ended files) (sym view) judged

    good_so : IsGoodEndAt b seat files number run event
    good_so = subst (λ (it : BoardState S). IsGoodEndAt it seat files number run event) (sym view) good_end

    pub can_make_seen : b.lost ≡ None → CanMake site (record { site = b.site; graph = b.graph; lost = b.lost }) number files
    can_make_seen = can_make_here site runner b sound seat dir text asks ended report_here means files judged_so number run event good_so

    module _ (law_before : IsTrue (is_fresh b.graph) → IsGraphOf (entries_in b.graph.table) b.graph.nodes)
        (present : (s : S) → IsTrue site.tells → site.left_since s (site.moment s) (site.world s))
        (earlier : (s : S) (t u : ℕ) (w : World) → IsTrue site.tells → t ≤ u → site.left_since s u w → site.left_since s t w)
        (knows_tree : (s : S) → IsTrue site.tells → KnowsTree (site.known s) (site.world s).tree)
        (result : Result (Unit {0}) BoardFault) (new : Ground S) (makes : Makes site number run files (record { site = b.site; graph = b.graph; lost = b.lost }) result new)
        (counts : CountsFaults (site.faults b.site) (site.faults new.site) b.lost result) where
      abbrev pub now_refused : BoardState S
      now_refused = record b { site = new.site; graph = new.graph; lost = new.lost }

      pub refused_kept_here : (fault : BoardFault) → result ≡ Err fault → IsSound site runner now_refused
      refused_kept_here = refused_sound site runner b sound seat dir text asks ended report_here means files judged_so number run event good_so law_before present earlier knows_tree result new makes counts

      pub refused_true_here : (fault : BoardFault) → result ≡ Err fault → (IsTrue (is_fresh new.graph) → IsGraphOf (entries_in new.graph.table) new.graph.nodes) → IsTrueFault site runner now_refused seat fault
      refused_true_here = refused_true site runner b sound seat dir text asks ended report_here means files judged_so number run event good_so law_before present earlier knows_tree result new makes counts

      pub refused_seen : (fault : BoardFault) → result ≡ Err fault → (after : BoardState S) → after ≡ with_history now_refused (b.history ++ stops_by seat fault) → Ends site seat ended given (Err fault) after
      refused_seen fault refused after is =
          subst (Ends site seat ended given (Err fault)) (sym is)
          (subst (λ (it : BoardState S). Ends site seat ended it (Err fault) (with_history now_refused (b.history ++ stops_by seat fault))) view
          (refused_ends site runner b sound seat dir text asks ended report_here means files judged_so number run event good_so law_before present earlier knows_tree result new makes counts fault refused))

      module _ (done : Unit {0}) (ok : result ≡ Ok done) where
        pub end_here : IsGoodEnd (course_of b) number event
        end_here = made_end site runner b sound seat dir text asks ended report_here means files judged_so number run event good_so law_before present earlier knows_tree result new makes counts done ok

        pub made_kept_here : IsSound site runner (record b { history = b.history ++ event ∷ []; site = new.site; graph = new.graph; lost = new.lost })
        made_kept_here = made_sound site runner b sound seat dir text asks ended report_here means files judged_so number run event good_so law_before present earlier knows_tree result new makes counts done ok

        pub made_seen : (after : BoardState S) → after ≡ record b { history = b.history ++ event ∷ []; site = new.site; graph = new.graph; lost = new.lost } → Ends site seat ended given (Ok Good) after
        made_seen after is =
            subst (Ends site seat ended given (Ok Good)) (sym is)
            (subst (λ (it : BoardState S). Ends site seat ended it (Ok Good) (record b { history = b.history ++ event ∷ []; site = new.site; graph = new.graph; lost = new.lost })) view
            (made_ends site runner b sound seat dir text asks ended report_here means files judged_so number run event good_so law_before present earlier knows_tree result new makes counts done ok))

-- ---- a board whose course has taken one more event
module _ {S R : Type 0} (site : Site S) (runner : Runner R) (first_graph graph : Held) (first_site s : S) (lost : Option Lost) where
  abbrev board_of : CourseState → BoardState S
  board_of it = record { opening = record { plan = it.plan; graph = first_graph; site = first_site }; history = it.history; site = s; graph = graph; lost = lost }

  module _ (course new : CourseState) (event : CoreEvent) (is : new ≡ with_events course (event ∷ [])) where
    pub board_more : board_of new ≡ board_of (with_events course (event ∷ []))
    board_more = ap board_of is

    pub more_kept : course.files ≡ finite.entries first_graph.nodes.seen → IsSound site runner (board_of (with_events course (event ∷ []))) → (new.files ≡ finite.entries first_graph.nodes.seen) × IsSound site runner (board_of new)
    more_kept files sound = (ap (λ (it : CourseState). it.files) is ∙ files, subst (λ (it : CourseState). IsSound site runner (board_of it)) (sym is) sound)

-- the course of a board has the files that its graph had seen
pub end_of_course : (course : CourseState) (first_graph : Held) (number : ℕ) (event : CoreEvent) → course.files ≡ finite.entries first_graph.nodes.seen
    → IsGoodEnd (record course { files = finite.entries first_graph.nodes.seen }) number event → IsGoodEnd course number event
end_of_course course first_graph number event files end = subst (λ (it : CourseState). IsGoodEnd it number event) (sym (ap (λ (fs : List (Names × Stamp)). record course { files = fs }) files)) end
