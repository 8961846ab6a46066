-- What the graph of a board has seen are the core's files, whatever happens.
use Rattle.std.proofs.Common.{◌≡◌, ℕ, Bool, true, false, cond, List, [], ◌∷◌, fold, Option, None, Some, Result, Ok, Err, refl, sym, ap, ◌∙◌, subst, ⊎_elim}
use Rattle.std.specs.Prelude.{if◌then◌else◌}
use Rattle.std.specs.FinMap as finite
use Rattle.tup_path.specs.Name.{Names, Content}
use Rattle.tup_path.specs.Order.{by_names, same_path}
use Rattle.tup_stamp.specs.declared.Stamp.{Stamp}
use Rattle.tup_site.specs.declared.site.Site.{Ghosts as Site}
use Rattle.tup_access.specs.declared.verdict.Verdict.{Verdict}
use Rattle.tup_access.specs.declared.verdict.Verdict.TheVariants.{Good, Failed, IllegalRead, IllegalWrite, Unwritten, TooManyReads}
use Rattle.tup_record.specs.declared.run.RunRecord.{RunRecord}
use Rattle.tup_graph.specs.Graph.{GraphState}
use Rattle.tup_stored_graph.specs.Held.{Held}
use Rattle.tup_core.specs.declared.event.CoreEvent.{CoreEvent}
use Rattle.tup_core.specs.declared.event.CoreEvent.TheVariants.{Finish}
use Rattle.tup_core.specs.declared.plan.Plan.{Plan}
use Rattle.tup_core.specs.declared.running.Running.{Running}
use Rattle.tup_core.specs.Run.{end_of}
use Rattle.tup_core.specs.Step.{State, after, finished, with_stamps}
use Rattle.tup_core.proofs.Orderly.{finished_is}
use Rattle.tup_schedule.specs.Course.{CourseState, first, now, with_events}
use Rattle.tup_schedule.proofs.Courses.{end_more}
use Rattle.tup_rule_outputs.specs.declared.fault.BoardFault.{BoardFault}
use Rattle.tup_rule_outputs.specs.declared.ground.Ground.{Ground}
use Rattle.tup_rule_outputs.specs.Ground.{Makes, ReadsSite, after_end}
use Rattle.tup_rule_outputs.specs.Lost.{HasNodes, Lost}
use Rattle.tup_board.specs.Seen.{HasFiles}
use Rattle.tup_board.proofs.Folds.{get_put}
use Rattle.tup_core.proofs.Entries.{stamps_of_entries}

-- ---- the opening
pub has_first : (g : GraphState) (course : CourseState) → course.history ≡ [] → course.files ≡ finite.entries g.seen → HasFiles None g course
has_first g course none files = record {
  stamps = λ nodes path.
      sym (
      ap (λ (events : List CoreEvent). (end_of course.plan (first course) events).files path) none
      ∙ ap (λ (l : List (Names × Stamp)). with_stamps (λ _. None) l path) files
      ∙ stamps_of_entries g.seen path
      );
}

-- ---- what leaves the core's files
-- an end that wrote nothing
pub end_leaves : (plan : Plan) (state : State) (seat : ℕ) (given : Verdict) (path : Names) → (after plan state (Finish seat given [])).files path ≡ state.files path
end_leaves plan state seat given path = by (state.seats seat) given
  where
    by : (runs : Option Running) (verdict : Verdict) → (finished plan state seat runs verdict []).files path ≡ state.files path
    by None verdict = refl
    by (Some running) Good = refl
    by (Some running) (Failed status) = refl
    by (Some running) (IllegalRead text) = refl
    by (Some running) (IllegalWrite text) = refl
    by (Some running) (Unwritten name) = refl
    by (Some running) TooManyReads = refl

-- a course that went on so
pub has_on : (lost : Option Lost) (g : GraphState) (course new : CourseState) → ((path : Names) → (now new).files path ≡ (now course).files path) → HasFiles lost g course → HasFiles lost g new
has_on lost g course new same has = record { stamps = λ nodes path. has.stamps nodes path ∙ sym (same path) }

-- a site that was read
pub has_read : {S : Type 0} (site : Site S) (old new : Ground S) (course : CourseState) → ReadsSite site old new → HasFiles old.lost old.graph.nodes course → HasFiles new.lost new.graph.nodes course
has_read site old new course reads has =
    subst (λ (l : Option Lost). HasFiles l new.graph.nodes course) (sym reads.lost) (subst (λ (h : Held). HasFiles old.lost h.nodes course) (sym reads.graph) has)

-- ---- a Good end
-- the stamps of its files come into both
pub puts_stamps : (writes : List (Names × Stamp)) (seen : finite.FinMap by_names Stamp) (files : Names → Option Stamp) → ((path : Names) → finite.get seen path ≡ files path)
    → (path : Names) → finite.get (fold (λ m (file : Names × Stamp). finite.insert m file.0 file.1) seen writes) path ≡ with_stamps files writes path
puts_stamps [] seen files same path = same path
puts_stamps (file ∷ more) seen files same path =
    puts_stamps more (finite.insert seen file.0 file.1) (λ p. if same_path p file.0 then Some file.1 else files p) one path
  where
    by : (b : Bool) (p : Names) → cond b (Some file.1) (finite.get seen p) ≡ (if b then Some file.1 else files p)
    by true p = refl
    by false p = same p

    one : (p : Names) → finite.get (finite.insert seen file.0 file.1) p ≡ (if same_path p file.0 then Some file.1 else files p)
    one p = get_put (λ (f : Names × Stamp). f.0) (λ (f : Names × Stamp). f.1) seen file p ∙ by (same_path p file.0) p

pub has_ended : (number : ℕ) (run : RunRecord) (old graph : Held) → graph ≡ after_end old number run → (course new : CourseState) (seat : ℕ) (running : Running) → (now course).seats seat ≡ Some running
    → (event : CoreEvent) → event ≡ Finish seat Good run.writes → new ≡ with_events course (event ∷ []) → ((path : Names) → finite.get old.nodes.seen path ≡ (now course).files path)
    → (path : Names) → finite.get graph.nodes.seen path ≡ (now new).files path
has_ended number run old graph graph_is course new seat running here event event_is new_is same path =
    ap (λ (h : Held). finite.get h.nodes.seen path) graph_is
    ∙ puts_stamps run.writes old.nodes.seen (now course).files same path
    ∙ sym (
    ap (λ (c : CourseState). (now c).files path) new_is
    ∙ ap (λ (s : State). s.files path) (end_more course.plan (first course) course.history event)
    ∙ ap (λ (e : CoreEvent). (after course.plan (now course) e).files path) event_is
    ∙ ap (λ (s : State). s.files path) (finished_is course.plan (now course) seat running Good run.writes here)
    )

-- ---- the files of a rule were made, or not
module _ {S : Type 0} (site : Site S) (number : ℕ) (run : RunRecord) (files : List (Names × Content)) (old new : Ground S) (result : Result (Unit {0}) BoardFault) (makes : Makes site number run files old result new) where
  refused_ok : (fault : BoardFault) (done : Unit {0}) → (let refused : Result (Unit {0}) BoardFault = Err fault in refused) ≡ Ok done → ⊥
  refused_ok fault done e = cc

  -- then no commit was lost before, and the graph has the end
  made_end : (done : Unit {0}) → result ≡ Ok done → (old.lost ≡ None) × (new.graph ≡ after_end old.graph number run)
  made_end done ok = by old.lost refl
    where
      by : (lost : Option Lost) → old.lost ≡ lost → (old.lost ≡ None) × (new.graph ≡ after_end old.graph number run)
      by None none = (none, ((makes.makes none).ok done ok).1)
      by (Some commit) some = absurd (refused_ok _ done (sym (makes.idle commit some).1 ∙ ok))

  pub has_made : (done : Unit {0}) → result ≡ Ok done → (course next : CourseState) (seat : ℕ) (running : Running) → (now course).seats seat ≡ Some running → (event : CoreEvent) → event ≡ Finish seat Good run.writes
      → next ≡ with_events course (event ∷ []) → HasFiles old.lost old.graph.nodes course → HasFiles new.lost new.graph.nodes next
  has_made done ok course next seat running here event event_is next_is has =
      let end = made_end done ok in
      record {
        stamps = λ nodes path. has_ended number run old.graph new.graph end.1 course next seat running here event event_is next_is (has.stamps (subst HasNodes (sym end.0) tt)) path;
      }

  -- else what was seen is as it was, as long as the graph has its nodes
  still : (fault : BoardFault) → result ≡ Err fault → HasNodes new.lost → HasNodes old.lost × (new.graph.nodes.seen ≡ old.graph.nodes.seen)
  still fault refused nodes = by old.lost refl
    where
      at : old.lost ≡ None → (lost : Option Lost) → new.lost ≡ lost → HasNodes lost → new.graph.nodes.seen ≡ old.graph.nodes.seen
      at none None going here =
          ⊎_elim (λ same. ap (λ (it : Ground S). it.graph.nodes.seen) same) (λ began. ap (λ (h : Held). h.nodes.seen) began) ((makes.makes none).err fault refused going)
      at none (Some commit) is here = (makes.makes none).still commit is here

      by : (lost : Option Lost) → old.lost ≡ lost → HasNodes old.lost × (new.graph.nodes.seen ≡ old.graph.nodes.seen)
      by None none = (subst HasNodes (sym none) tt, at none new.lost refl nodes)
      by (Some commit) some =
          let same = (makes.idle commit some).0 in
          (subst (λ (it : Ground S). HasNodes it.lost) same nodes, ap (λ (it : Ground S). it.graph.nodes.seen) same)

  pub has_refused : (fault : BoardFault) → result ≡ Err fault → (course : CourseState) → HasFiles old.lost old.graph.nodes course → HasFiles new.lost new.graph.nodes course
  has_refused fault refused course has = record {
    stamps = λ nodes path.
        let kept = still fault refused nodes in ap (λ (m : finite.FinMap by_names Stamp). finite.get m path) kept.1 ∙ has.stamps kept.0 path;
  }
