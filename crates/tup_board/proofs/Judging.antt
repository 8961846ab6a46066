-- The end of a command: one that isn't Good, one for which there was no memory, and the record of one that is Good.
use Rattle.std.proofs.Common.{◌≡◌, ◌≢◌, ℕ, List, [], ◌∷◌, ◌++◌, map, Option, None, Err, refl, sym, ap, ◌∙◌, subst, inl, inr, arith}
use Rattle.std.specs.Prelude.{IsTrue}
use Rattle.tup_path.specs.Name.{Names, Content}
use Rattle.tup_stamp.specs.declared.Stamp.{Stamp}
use Rattle.tup_rule.specs.declared.rule.Rule.{Rule}
use Rattle.tup_site.specs.declared.site.Site.{Ghosts as Site}
use Rattle.tup_runner.specs.declared.runner.Runner.{Ghosts as Runner}
use Rattle.tup_runner.specs.Next.{Asks}
use Rattle.tup_runner.specs.Honest.{EndsAfter}
use Rattle.tup_runner.specs.declared.step.Ended.{Ended}
use Rattle.tup_access.specs.declared.verdict.Verdict.{Verdict}
use Rattle.tup_access.specs.declared.verdict.Verdict.TheVariants.{Good}
use Rattle.tup_access.specs.Judge.{IsJudged, Judged, good as good_of, judge}
use Rattle.tup_access.proofs.Outputs.{judge-LeavesOutputs}
use Rattle.tup_record.specs.declared.run.RunRecord.{RunRecord}
use Rattle.tup_stale.proofs.Going.{at_rest}
use Rattle.tup_core.specs.declared.event.CoreEvent.{CoreEvent}
use Rattle.tup_core.specs.declared.event.CoreEvent.TheVariants.{Finish}
use Rattle.tup_core.specs.declared.running.Running.{Running}
use Rattle.tup_core.specs.Honest.{EndsHonestly, stamped}
use Rattle.tup_core.specs.Step.{IsEnabled}
use Rattle.tup_schedule.specs.Course.{GoesOn, RunsRule}
use Rattle.tup_rule_outputs.specs.declared.fault.BoardFault.TheVariants.{Memory}
use Rattle.tup_rule_outputs.specs.Ground.{paths_of}
use Rattle.tup_board.specs.Board.{BoardState, course_of, plan_of, state, with_history}
use Rattle.tup_board.specs.Calls.{AreFilesAt, Ends, IsGoodAt, IsGoodEndAt, IsReportOf, IsRunAt, IsVerdictAt}
use Rattle.tup_board.specs.Ends.{AreNamed, AreRecorded}
use Rattle.tup_board.specs.Sound.{IsSound}
use Rattle.tup_board.proofs.Asking.{same_rule_at, same_running}
use Rattle.tup_board.proofs.Ending.{bad_fits, ends_badly}
use Rattle.tup_board.proofs.Kept.{sound_bad}
use Rattle.tup_board.proofs.Named.{asks_named, recorded}
use Rattle.tup_board.proofs.Sounds.{IsHonestEvent}

-- ---- the files of a Good command are its rule's outputs
names_kept : (files : List (Names × Content)) → map (λ (file : Names × Stamp). file.0) (map stamped files) ≡ paths_of files
names_kept [] = refl
names_kept (file ∷ files) = ap (λ (rest : List Names). file.0 ∷ rest) (names_kept files)

module _ {S : Type 0} (b : BoardState S) (seat : ℕ) where
  -- one rule is judged, whatever a seat is said to run
  pub good_here : (ended : Ended) (it other : RunsRule (course_of b) seat) → (judge it.rule ended).verdict ≡ Good → (judge other.rule ended).verdict ≡ Good
  good_here ended it other good = ap (λ (r : Rule). (judge r ended).verdict) (sym (same_rule_at (course_of b) seat it other)) ∙ good

module _ {S R : Type 0} (site : Site S) (runner : Runner R) (b : BoardState S) (sound : IsSound site runner b) (seat : ℕ) (ended : Ended) where
  -- what the command of a seat asked names paths
  pub named_at : (it : RunsRule (course_of b) seat) → AreNamed it.rule.dir it.running.asks
  named_at it = asks_named (plan_of b) (course_of b).files b.history sound.opening.apart.one_maker sound.run seat it.running it.rule it.runs

  -- there is a record of its Good end
  pub run_there : GoesOn (course_of b) seat → IsGoodAt b seat ended → (number : ℕ) × (run : RunRecord) × IsRunAt b seat ended number run
  run_there goes is =
      let noted = recorded goes.it.rule.dir goes.it.running.asks (named_at goes.it) in
      let good = good_here b seat ended is.0 goes.it is.1 in (
        goes.it.running.rule,
        record { asks = noted.0; writes = map stamped (judge goes.it.rule ended).files },
        record {
          kept = record {
            running = goes.it.running;
            rule = goes.it.rule;
            runs = goes.it.runs;
            here = refl;
            granted = goes.granted;
            asks = noted.1;
            writes = names_kept (judge goes.it.rule ended).files ∙ (judge-LeavesOutputs goes.it.rule ended).good good;
          };
          writes = refl;
        },
      )

  -- ---- there was no memory: nothing happened
  pub memory_ends : GoesOn (course_of b) seat → Ends site seat ended b (Err Memory) b
  memory_ends goes = record {
    finishes = refl;
    lost = inl refl;
    touches = record {
      opening = refl;
      bad = λ _. refl;
      good = λ told is.
          let there = run_there goes is in record {
            number = there.0;
            run = there.1;
            is = there.2;
            now = inl (inl refl, refl);
            crash = at_rest site.moment site.left_since b.site _;
          };
      idle = λ commit some is. (refl, inr refl);
    };
    known = λ told content had. had;
    cause = record { later = omega arith; site = λ e. cc; steady = λ _. refl };
  }

  -- ---- a verdict that isn't Good
  module _ (dir : Names) (text : List ℕ) (asks : Asks) (report : IsReportOf site b seat dir text asks) (verdict : Verdict) (judged : IsVerdictAt b seat ended verdict) (bad : verdict ≢ Good) where
    abbrev it : RunsRule (course_of b) seat
    it = report.it.it

    pub bad_can : IsEnabled (plan_of b) (state b) (Finish seat verdict [])
    bad_can = (it.running, it.rule, it.runs, bad_fits it.rule ended verdict it.running.denied report.it.granted (judged it) bad)

    pub bad_honest : (IsTrue runner.tells → EndsAfter (runner.next dir text) asks ended) → IsTrue site.tells → IsTrue runner.tells
        → IsHonestEvent runner.next (site.known b.site) (plan_of b) (state b) (Finish seat verdict [])
    bad_honest means told tells = (λ running rule runs. ends (record { running = running; rule = rule; runs = runs }), tt)
      where
        meant : EndsAfter (runner.next dir text) asks ended → EndsAfter (runner.next it.rule.dir it.rule.text) asks ended
        meant given =
            subst (λ (t : List ℕ). EndsAfter (runner.next it.rule.dir t) asks ended) report.text_is (subst (λ (d : Names). EndsAfter (runner.next d text) asks ended) report.dir_is given)

        ends : (other : RunsRule (course_of b) seat) → EndsHonestly runner.next (site.known b.site) other.rule other.running other.running.denied verdict []
        ends other =
            let ran : it.running ≡ other.running = same_running (course_of b) seat it other in
            let ruled : it.rule ≡ other.rule = same_rule_at (course_of b) seat it other in
            subst (λ (d : Option (List ℕ × Verdict)). EndsHonestly runner.next (site.known b.site) other.rule other.running d verdict []) (sym (ap (λ (r : Running). r.denied) (sym ran) ∙ report.it.granted))
            (subst (λ (r : Running). EndsHonestly runner.next (site.known b.site) other.rule r None verdict []) ran
            (subst (λ (r : Rule). EndsHonestly runner.next (site.known b.site) r it.running None verdict []) ruled
            (ends_badly runner.next (site.known b.site) it.rule it.running asks ended verdict report.asks_are (report.known told) (meant (means tells)) (judged it) bad)))

    pub bad_sound : (IsTrue runner.tells → EndsAfter (runner.next dir text) asks ended) → IsSound site runner (with_history b (b.history ++ Finish seat verdict [] ∷ []))
    bad_sound means = sound_bad site runner b sound seat it.running verdict it.runs.here bad bad_can (bad_honest means)

module _ {S : Type 0} (b : BoardState S) (seat : ℕ) (ended : Ended) (files : List (Names × Content)) (judged : AreFilesAt b seat ended files) where
  pub outputs_at : (it : RunsRule (course_of b) seat) → paths_of files ≡ it.rule.outputs
  outputs_at it = sym (ap (λ (j : Judged). paths_of j.files) (judged it)) ∙ (judge-LeavesOutputs it.rule ended).good (ap (λ (j : Judged). j.verdict) (judged it))

-- what the store is told of it
module _ {S R : Type 0} (site : Site S) (runner : Runner R) (b : BoardState S) (sound : IsSound site runner b) (seat : ℕ) (goes : GoesOn (course_of b) seat) (running : Running) (ran : goes.it.running ≡ running)
    (rule : Rule) (is : (it : RunsRule (course_of b) seat) → rule ≡ it.rule) where
  pub names_there : AreNamed rule.dir running.asks
  names_there =
      subst (λ (r : Running). AreNamed rule.dir r.asks) ran
      (subst (λ (r : Rule). AreNamed r.dir goes.it.running.asks) (sym (is goes.it))
      (asks_named (plan_of b) (course_of b).files b.history sound.opening.apart.one_maker sound.run seat goes.it.running goes.it.rule goes.it.runs))

  pub end_told : (files : List (Names × Content)) (run : RunRecord) (event : CoreEvent) → AreRecorded rule.dir running.asks run.asks → run.writes ≡ map stamped files → paths_of files ≡ goes.it.rule.outputs
      → event ≡ Finish seat Good run.writes → IsGoodEndAt b seat files running.rule run event
  end_told files run event asks writes outputs event_is = record {
    kept = record {
      running = goes.it.running;
      rule = goes.it.rule;
      runs = goes.it.runs;
      here = ap (λ (r : Running). r.rule) ran;
      granted = goes.granted;
      asks =
          subst (λ (r : Rule). AreRecorded r.dir goes.it.running.asks run.asks) (is goes.it)
          (subst (λ (r : Running). AreRecorded rule.dir r.asks run.asks) (sym ran) asks);
      writes = ap (map (λ (file : Names × Stamp). file.0)) writes ∙ names_kept files ∙ outputs;
    };
    writes = writes;
    event_is = event_is;
  }

-- ---- what the judge said of the rule that a seat runs
module _ {S : Type 0} (b : BoardState S) (seat : ℕ) (ended : Ended) (rule : Rule) (is : (it : RunsRule (course_of b) seat) → rule ≡ it.rule) (verdict : Verdict) (files : List (Names × Content))
    (judged : IsJudged verdict files (judge rule ended)) where
  pub verdict_at : IsVerdictAt b seat ended verdict
  verdict_at it = judged.0 ∙ ap (λ (r : Rule). (judge r ended).verdict) (is it)

  pub files_at : verdict ≡ Good → AreFilesAt b seat ended files
  files_at good it = ap (λ (r : Rule). judge r ended) (sym (is it)) ∙ parts (judge rule ended) (sym judged.0 ∙ good) (sym judged.1)
    where
      parts : (it : Judged) → it.verdict ≡ Good → it.files ≡ files → it ≡ good_of files
      parts it verdict_is files_are = ap (λ (v : Verdict). record it { verdict = v }) verdict_is ∙ ap (λ (fs : List (Names × Content)). good_of fs) files_are

-- what was judged of an end is what was of the same end
pub judged_of : (rule : Rule) (ended given : Ended) → ended ≡ given → (verdict : Verdict) (files : List (Names × Content)) → IsJudged verdict files (judge rule ended) → IsJudged verdict files (judge rule given)
judged_of rule ended given same verdict files judged = subst (λ (e : Ended). IsJudged verdict files (judge rule e)) same judged
