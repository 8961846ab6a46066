-- What the end of a Good command does, by what making its files did.
use Rattle.std.proofs.Common.{◌≡◌, ℕ, Bool, true, false, List, [], ◌∷◌, ◌++◌, map, Option, None, Some, Result, Ok, Err, refl, sym, ap, ◌∙◌, subst, ⊎_elim, inl, inr}
use Rattle.std.specs.Prelude.{IsTrue, if◌then◌else◌, slice_get}
use Rattle.std.proofs.lemmas.List.{append-nil}
use Rattle.std.proofs.lemmas.Option.{none-some, same_Some}
use Rattle.tup_path.specs.Name.{Names, Content}
use Rattle.tup_stamp.specs.declared.Stamp.{Stamp}
use Rattle.tup_rule.specs.declared.rule.Rule.{Rule}
use Rattle.tup_site.specs.Crash.{GoesOn}
use Rattle.tup_site.specs.Known.{Keeps}
use Rattle.tup_site.specs.World.{World}
use Rattle.tup_site.specs.declared.site.Site.{Ghosts as Site}
use Rattle.tup_runner.specs.declared.step.Ended.{Ended}
use Rattle.tup_access.specs.Judge.{Judged, good, judge}
use Rattle.tup_access.specs.declared.verdict.Verdict.{Verdict}
use Rattle.tup_access.specs.declared.verdict.Verdict.TheVariants.{Good}
use Rattle.tup_record.specs.declared.run.RunRecord.{RunRecord}
use Rattle.tup_table.proofs.Going.{as_step}
use Rattle.tup_stale.proofs.Going.{at_rest}
use Rattle.tup_core.specs.declared.event.CoreEvent.{CoreEvent}
use Rattle.tup_core.specs.declared.event.CoreEvent.TheVariants.{Finish}
use Rattle.tup_core.specs.declared.running.Running.{Running}
use Rattle.tup_core.specs.Honest.{stamped}
use Rattle.tup_rule_outputs.specs.declared.fault.BoardFault.{BoardFault}
use Rattle.tup_rule_outputs.specs.declared.fault.BoardFault.TheVariants as fault_by
use Rattle.tup_rule_outputs.specs.declared.ground.Ground.{Ground}
use Rattle.tup_rule_outputs.specs.Fault.{CountsFaults, lost_fault}
use Rattle.tup_rule_outputs.specs.Ground.{LacksRoomFor, MakeStep, Makes, WasTried}
use Rattle.tup_rule_outputs.specs.Lost.{Lost}
use Rattle.tup_board.specs.Board.{BoardState, plan_of, state}
use Rattle.tup_board.specs.Calls.{Ends, Finishes, IsGoodAt, IsRunAt, LacksRoom, LeavesBeside, MayLose, Touches}
use Rattle.tup_board.specs.Cause.{stops_by}
use Rattle.tup_board.specs.Ends.{AreRecorded, IsRecordOf}
use Rattle.tup_board.proofs.Named.{one_recorded}
use Rattle.tup_board.proofs.Visiting.{same_fault}

abbrev judged_so : Type 0
judged_so = Result Verdict BoardFault

abbrev made_so : Type 0
made_so = Result (Unit {0}) BoardFault

good_or_not : (fault : BoardFault) → (let well : judged_so = Ok Good in well) ≡ Err fault → ⊥
good_or_not fault e = cc

made_or_not : (done : Unit {0}) (fault : BoardFault) → (let made : made_so = Ok done in made) ≡ Err fault → ⊥
made_or_not done fault e = cc

lost_not_large : (commit : Lost) (bytes : ℕ) → lost_fault commit ≡ fault_by.TooLarge bytes → ⊥
lost_not_large commit bytes = by commit.by_site
  where
    by : (site : Bool) → (if site then fault_by.Site else fault_by.Memory) ≡ fault_by.TooLarge bytes → ⊥
    by true e = cc
    by false e = cc

lost_not_full : (commit : Lost) → lost_fault commit ≡ fault_by.Full → ⊥
lost_not_full commit = by commit.by_site
  where
    by : (site : Bool) → (if site then fault_by.Site else fault_by.Memory) ≡ fault_by.Full → ⊥
    by true e = cc
    by false e = cc

abbrev run_with : List (Names × Option Stamp) → List (Names × Stamp) → RunRecord
run_with asks written = record { asks = asks; writes = written }

module _ {S : Type 0} (site : Site S) (b : BoardState S) (seat number : ℕ) (run : RunRecord) (files : List (Names × Content)) (ended : Ended)
    (kept : IsRecordOf (plan_of b) (state b) seat number run) (writes_are : run.writes ≡ map stamped files) (judged : judge kept.rule ended ≡ good files) where
  abbrev rule : Rule
  rule = kept.rule

  abbrev left : List (Names × Content)
  left = (judge rule ended).files

  files_are : files ≡ left
  files_are = sym (ap (λ (j : Judged). j.files) judged)

  abbrev run_at : IsRunAt b seat ended number run
  run_at = record { kept = kept; writes = writes_are ∙ ap (map stamped) files_are }

  abbrev good_at : IsGoodAt b seat ended
  good_at = (record { running = kept.running; rule = kept.rule; runs = kept.runs }, ap (λ (j : Judged). j.verdict) judged)

  -- there is one run of what a seat runs
  module _ (m : ℕ) (ran : RunRecord) (at : IsRunAt b seat ended m ran) where
    same_running : at.kept.running ≡ kept.running
    same_running = same_Some _ _ (sym at.kept.runs.here ∙ kept.runs.here)

    same_rule : at.kept.rule ≡ rule
    same_rule = same_Some _ _ (sym at.kept.runs.placed ∙ ap (λ (r : Running). slice_get (plan_of b).rules r.rule) same_running ∙ kept.runs.placed)

    same_number : m ≡ number
    same_number = sym at.kept.here ∙ ap (λ (r : Running). r.rule) same_running ∙ kept.here

    same_asks : ran.asks ≡ run.asks
    same_asks =
        one_recorded rule.dir kept.running.asks ran.asks run.asks
        (subst (λ (r : Running). AreRecorded rule.dir r.asks ran.asks) same_running (subst (λ (r : Rule). AreRecorded r.dir at.kept.running.asks ran.asks) same_rule at.kept.asks)) kept.asks

    same_writes : ran.writes ≡ run.writes
    same_writes = at.writes ∙ ap (λ (r : Rule). map stamped (judge r ended).files) same_rule ∙ sym run_at.writes

    one_run : ran ≡ run
    one_run = ap (λ (asks : List (Names × Option Stamp)). run_with asks ran.writes) same_asks ∙ ap (λ (written : List (Names × Stamp)). run_with run.asks written) same_writes

    lacks_here : LacksRoomFor b.graph m ran → LacksRoomFor b.graph number run
    lacks_here lacks = subst (λ (n : ℕ). LacksRoomFor b.graph n run) same_number (subst (LacksRoomFor b.graph m) one_run lacks)

  no_room : LacksRoom b seat ended → LacksRoomFor b.graph number run
  no_room lacks = lacks_here lacks.0 lacks.1 lacks.2 lacks.3

  module _ (result : made_so) (new : Ground S) (makes : Makes site number run files (record { site = b.site; graph = b.graph; lost = b.lost }) result new)
      (counts : CountsFaults (site.faults b.site) (site.faults new.site) b.lost result) where
    -- what making them did, as the end of the command tells it
    module _ (answer : judged_so) (as_tried : (lost : Option Lost) → WasTried run result lost → WasTried run answer lost) (as_lost : (commit : Lost) → b.lost ≡ Some commit → answer ≡ Err (lost_fault commit)) where
      abbrev step_made : World → World → Type 0
      step_made v w = MakeStep (WasTried run result new.lost) b.graph.nodes number run files v w

      abbrev step_left : World → World → Type 0
      step_left v w = MakeStep (WasTried run answer new.lost) b.graph.nodes number run left v w

      step_on : (v w : World) → step_made v w → step_left v w
      step_on v w step = subst (λ (fs : List (Names × Content)). MakeStep (WasTried run answer new.lost) b.graph.nodes number run fs v w) files_are (tried_on step)
        where
          tried_on : step_made v w → MakeStep (WasTried run answer new.lost) b.graph.nodes number run files v w
          tried_on (inl not) = inl not
          tried_on (inr (inl began)) = inr (inl began)
          tried_on (inr (inr was)) = inr (inr (as_tried new.lost was.0, was.1))

      idle_now : new ≡ record { site = b.site; graph = b.graph; lost = b.lost } → step_left (site.world b.site) (site.world new.site)
      idle_now same = subst (λ (s : S). step_left (site.world b.site) (site.world s)) (sym (ap (λ (it : Ground S). it.site) same)) (inl (inl refl, refl))

      idle_crash : new ≡ record { site = b.site; graph = b.graph; lost = b.lost } → GoesOn site.moment site.left_since b.site new.site step_left
      idle_crash same = subst (λ (s : S). GoesOn site.moment site.left_since b.site s step_left) (sym (ap (λ (it : Ground S). it.site) same)) (at_rest site.moment site.left_since b.site step_left)

      leaves_now : IsTrue site.tells → (lost : Option Lost) → b.lost ≡ lost → step_left (site.world b.site) (site.world new.site)
      leaves_now told None none = step_on _ _ ((makes.makes none).now told)
      leaves_now told (Some commit) some = idle_now (makes.idle commit some).0

      leaves_crash : IsTrue site.tells → (lost : Option Lost) → b.lost ≡ lost → GoesOn site.moment site.left_since b.site new.site step_left
      leaves_crash told None none = as_step site.moment site.left_since b.site new.site step_made step_left (λ v w before step. step_on v w step) ((makes.makes none).crash told)
      leaves_crash told (Some commit) some = idle_crash (makes.idle commit some).0

      leaves : (hist : List CoreEvent) → IsTrue site.tells → LeavesBeside site seat ended b answer (record b { history = hist; site = new.site; graph = new.graph; lost = new.lost })
      leaves hist told = record { number = number; run = run; is = run_at; now = leaves_now told b.lost refl; crash = leaves_crash told b.lost refl }

      touches : (hist : List CoreEvent) → Touches site seat ended b answer (record b { history = hist; site = new.site; graph = new.graph; lost = new.lost })
      touches hist = record {
        opening = refl;
        bad = λ not. absurd (not good_at);
        good = λ told is. leaves hist told;
        idle = λ commit some is. (
          ap (λ (it : Ground S). record b { history = hist; site = it.site; graph = it.graph; lost = it.lost }) (makes.idle commit some).0,
          inl (as_lost commit some),
        );
      }

      known_now : (lost : Option Lost) → b.lost ≡ lost → IsTrue site.tells → Keeps (site.known b.site) (site.known new.site)
      known_now None none told = (makes.makes none).known told
      known_now (Some commit) some told =
          subst (λ (s : S). Keeps (site.known b.site) (site.known s)) (sym (ap (λ (it : Ground S). it.site) (makes.idle commit some).0)) (λ content had. had)

    -- ---- it was made
    module _ (done : Unit {0}) (ok : result ≡ Ok done) where
      pub none_before : b.lost ≡ None
      none_before = by b.lost refl
        where
          by : (lost : Option Lost) → b.lost ≡ lost → b.lost ≡ None
          by None is = is
          by (Some commit) is = absurd (made_or_not done (lost_fault commit) (sym ok ∙ (makes.idle commit is).1))

      tried_well : (lost : Option Lost) → WasTried run result lost → WasTried run (let well : judged_so = Ok Good in well) lost
      tried_well lost (inl was) = inl (Good, refl)
      tried_well lost (inr was) = inr was

      lost_well : (commit : Lost) → b.lost ≡ Some commit → (let well : judged_so = Ok Good in well) ≡ Err (lost_fault commit)
      lost_well commit some = absurd (none-some commit (sym none_before ∙ some))

      pub ends_ok : Ends site seat ended b (Ok Good) (record b { history = b.history ++ Finish seat Good run.writes ∷ []; site = new.site; graph = new.graph; lost = new.lost })
      ends_ok = record {
        finishes = (
          run.writes,
          record { it = good_at.0; verdict_is = sym good_at.1; writes_are = run_at.writes },
          refl,
          ((makes.makes none_before).ok done ok).0 ∙ sym none_before,
          λ well. (none_before, λ lacks. (makes.makes none_before).room done ok (no_room lacks)),
        );
        lost = inl (((makes.makes none_before).ok done ok).0 ∙ sym none_before);
        touches = touches (Ok Good) tried_well lost_well (b.history ++ Finish seat Good run.writes ∷ []);
        known = known_now (Ok Good) tried_well lost_well b.lost refl;
        cause = record { later = counts.later; site = λ e. absurd (good_or_not fault_by.Site e); steady = λ other. counts.steady (λ e. made_or_not done fault_by.Site (sym ok ∙ e)) };
      }

    -- ---- or refused
    module _ (fault : BoardFault) (refused : result ≡ Err fault) where
      abbrev refusal : judged_so
      refusal = Err fault

      tried_badly : (lost : Option Lost) → WasTried run result lost → WasTried run refusal lost
      tried_badly lost (inl was) = absurd (made_or_not was.0 fault (sym was.1 ∙ refused))
      tried_badly lost (inr was) = inr was

      lost_badly : (commit : Lost) → b.lost ≡ Some commit → refusal ≡ Err (lost_fault commit)
      lost_badly commit some = ap Err (same_fault {T = Unit {0}} fault (lost_fault commit) (sym refused ∙ (makes.idle commit some).1))

      abbrev then_is : BoardState S
      then_is = record b { history = b.history ++ stops_by seat fault; site = new.site; graph = new.graph; lost = new.lost }

      small : (bytes : ℕ) → fault ≡ fault_by.TooLarge bytes → ⊥
      small bytes is = by b.lost refl
        where
          by : (lost : Option Lost) → b.lost ≡ lost → ⊥
          by None none = (makes.makes none).small bytes (refused ∙ ap Err is)
          by (Some commit) some = lost_not_large commit bytes (same_fault {T = Unit {0}} (lost_fault commit) (fault_by.TooLarge bytes) (sym (makes.idle commit some).1 ∙ refused ∙ ap Err is))

      full : fault ≡ fault_by.Full → LacksRoom b seat ended
      full is = by b.lost refl
        where
          by : (lost : Option Lost) → b.lost ≡ lost → LacksRoom b seat ended
          by None none = (number, run, run_at, ⊎_elim (λ first. inl first.0) (λ last. inr last.0) ((makes.makes none).full (refused ∙ ap Err is)))
          by (Some commit) some = absurd (lost_not_full commit (same_fault {T = Unit {0}} (lost_fault commit) fault_by.Full (sym (makes.idle commit some).1 ∙ refused ∙ ap Err is)))

      finishes_as : (it : BoardFault) → fault ≡ it → Finishes seat ended b (Err it) (record then_is { history = b.history ++ stops_by seat it })
      finishes_as fault_by.Site is = (refl, good_at)
      finishes_as (fault_by.TooLarge bytes) is = small bytes is
      finishes_as fault_by.Full is = (refl, good_at, full is)
      finishes_as fault_by.Memory is = append-nil b.history

      may_lose : (before lost : Option Lost) → b.lost ≡ before → new.lost ≡ lost → MayLose seat ended b refusal then_is
      may_lose (Some commit) lost some is = inl (ap (λ (it : Ground S). it.lost) (makes.idle commit some).0)
      may_lose None None none is = inl (is ∙ sym none)
      may_lose None (Some commit) none is =
          let loses = (makes.makes none).lost commit is in
          inr (none, commit, is, number, run, run_at, record { rule = loses.rule; kept = loses.kept; fault = ap Err (same_fault {T = Unit {0}} fault (lost_fault commit) (sym refused ∙ loses.fault)) })

      counts_so : CountsFaults (site.faults b.site) (site.faults new.site) b.lost refusal
      counts_so = record {
        later = counts.later;
        site = λ e. counts.site (refused ∙ ap Err (same_fault {T = Verdict} fault fault_by.Site e));
        steady = λ other. counts.steady (λ e. other (ap Err (same_fault {T = Unit {0}} fault fault_by.Site (sym refused ∙ e))));
      }

      pub ends_refused : Ends site seat ended b refusal then_is
      ends_refused = record {
        finishes = finishes_as fault refl;
        lost = may_lose b.lost new.lost refl refl;
        touches = touches refusal tried_badly lost_badly (b.history ++ stops_by seat fault);
        known = known_now refusal tried_badly lost_badly b.lost refl;
        cause = counts_so;
      }
