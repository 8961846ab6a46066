-- What holds of a board holds once the files of a rule were made for it, or not.
use Rattle.std.proofs.Common.{◌≡◌, ◌≢◌, ◌⊎◌, ℕ, ◌≤◌, Bool, true, false, ◌||◌, List, [], ◌∷◌, ◌++◌, map, Option, None, Some, Result, Ok, Err, refl, sym, ap, ◌∙◌, subst, ⊎_elim, inl, inr, arith}
use Rattle.std.specs.Prelude.{All, Contains, IsTrue, if◌then◌else◌, is_none, slice_get}
use Rattle.std.specs.FinMap as finite
use Rattle.std.specs.Option.{option_map}
use Rattle.std.proofs.lemmas.Bool.{true≢false, false_from_ne_true}
use Rattle.std.proofs.lemmas.List.{append_assoc, append-nil}
use Rattle.std.proofs.lemmas.List.Elements.{All-contains, All-head, All-map, All-tail, All-weaker}
use Rattle.std.proofs.lemmas.Option.{same_Some, none-some}
use Rattle.tup_path.specs.Count.{Rose}
use Rattle.tup_path.specs.Name.{Names, Content}
use Rattle.tup_path.specs.Order.{same_path}
use Rattle.tup_path.specs.Tree.{Tree}
use Rattle.tup_path.proofs.Same.{same_path-decides}
use Rattle.tup_stamp.specs.declared.Stamp.{Stamp}
use Rattle.tup_stamp.specs.Stamp.{stamp}
use Rattle.tup_rule.specs.declared.rule.Rule.{Rule}
use Rattle.tup_rule.specs.Rule.{among, writes}
use Rattle.tup_site.specs.Crash.{Follows}
use Rattle.tup_site.specs.Known.{KnowsTree}
use Rattle.tup_site.specs.World.{World}
use Rattle.tup_site.specs.declared.site.Site.{Ghosts as Site}
use Rattle.tup_runner.specs.declared.runner.Runner.{Ghosts as Runner}
use Rattle.tup_access.specs.declared.verdict.Verdict.{Verdict}
use Rattle.tup_access.specs.declared.verdict.Verdict.TheVariants.{Good}
use Rattle.tup_record.specs.declared.run.RunRecord.{RunRecord}
use Rattle.tup_table.specs.Table.{entries_in}
use Rattle.tup_graph.specs.Graph.{GraphState, is_flagged, outputs_of}
use Rattle.tup_graph.specs.Opening.{IsGraphOf}
use Rattle.tup_graph.specs.Transactions.{begun, finished, begin_edits, finish_edits}
use Rattle.tup_stored_graph.specs.Crash.{IsStoreOf}
use Rattle.tup_stored_graph.specs.Held.{Held, is_fresh}
use Rattle.tup_stored_graph.specs.Transaction.{IsFull}
use Rattle.tup_stale.proofs.Crashes.{stores_now}
use Rattle.tup_ledger.proofs.Guarding.{one_store}
use Rattle.tup_core.specs.declared.event.Cause.{Cause}
use Rattle.tup_core.specs.declared.event.Cause.TheVariants as causes
use Rattle.tup_core.specs.declared.event.CoreEvent.{CoreEvent}
use Rattle.tup_core.specs.declared.event.CoreEvent.TheVariants.{Finish}
use Rattle.tup_core.specs.declared.running.Running.{Running}
use Rattle.tup_core.specs.Honest.{EndsHonestly, IsHonest, stamped}
use Rattle.tup_core.specs.Run.{IsRun}
use Rattle.tup_core.specs.Sound.{HasOneMaker}
use Rattle.tup_core.specs.Step.{State, FitsEnd, IsEnabled, Runs, changed, emptied, ended, with_stamps}
use Rattle.tup_core.proofs.Changed.{changed_cases, with_stamps_apart}
use Rattle.tup_core.proofs.Orderly.{IsOrderly, finished_is}
use Rattle.tup_schedule.proofs.Courses.{end_more, run_more}
use Rattle.tup_rule_outputs.specs.declared.fault.BoardFault.{BoardFault}
use Rattle.tup_rule_outputs.specs.declared.fault.BoardFault.TheVariants as fault_by
use Rattle.tup_rule_outputs.specs.declared.ground.Ground.{Ground}
use Rattle.tup_rule_outputs.specs.Fault.{CountsFaults, lost_fault}
use Rattle.tup_rule_outputs.specs.Ground.{HoldsFiles, IsBegun, IsEnded, IsNotBegun, LostStep, MakeStep, MakesFiles, WasTried}
use Rattle.tup_rule_outputs.specs.Lost.{Lost}
use Rattle.tup_board.specs.Board.{BoardState, course_of, plan_of, first_graph, start, state, with_history}
use Rattle.tup_board.specs.Cause.{HasNoRoom, stops_by}
use Rattle.tup_board.specs.Come.{HasComeTo, IsPresent, WasToKeep}
use Rattle.tup_board.specs.Ends.{CouldEnd, HasEnded, IsRecordOf}
use Rattle.tup_board.specs.Images.{IsImageOver, LeavesImages, StandsUnmade}
use Rattle.tup_board.specs.Outputs.{IsPending, Makes}
use Rattle.tup_board.specs.Sound.{FlagsPending, IsImage, IsSound, IsTrueFault, IsTrueNow, WasToHappen, Since, Before}
use Rattle.tup_board.proofs.Coming.{outputs_are}
use Rattle.tup_board.proofs.Finishing.{claimed, come_begun, come_done, come_then, flagged, in_graph, other_outputs, placed, present_done, same_or_other, unflagged_on}
use Rattle.tup_board.proofs.Imaging.{begun_unmade, done_unmade, is_begun, is_done, not_begun, not_begun_unmade}
use Rattle.tup_board.proofs.Known.{ends_more, honest_known, keeps_all, known_among}
use Rattle.tup_board.proofs.WasRead.{rose_on, rose_since}
use Rattle.tup_board.proofs.Seated.{orderly}
use Rattle.tup_board.proofs.Sounds.{IsHonestEvent, honest_more}

-- ---- stamps that were put into files are those of a tree that has them
stamped_at : (at : Names → Option Stamp) (written : List (Names × Stamp)) (before : Names → Option Stamp) (path : Names) → All (λ (file : Names × Stamp). at file.0 ≡ Some file.1) written
    → (among path (map (λ (file : Names × Stamp). file.0) written) ≡ true) ⊎ (before path ≡ at path) → with_stamps before written path ≡ at path
stamped_at at [] before path all (inl within) = absurd (true≢false (sym within))
stamped_at at [] before path all (inr same) = same
stamped_at at (file ∷ written) before path all either =
    stamped_at at written (λ other. if same_path other file.0 then Some file.1 else before other) path (All-tail (λ (one : Names × Stamp). at one.0 ≡ Some one.1) file written all) (by (same_path path file.0) refl either)
  where
    by : (b : Bool) → same_path path file.0 ≡ b → ((same_path path file.0 || among path (map (λ (one : Names × Stamp). one.0) written)) ≡ true) ⊎ (before path ≡ at path)
        → (among path (map (λ (one : Names × Stamp). one.0) written) ≡ true) ⊎ ((if same_path path file.0 then Some file.1 else before path) ≡ at path)
    by true is any =
        inr (ap (λ (b : Bool). if b then Some file.1 else before path) is ∙ sym (All-head (λ (one : Names × Stamp). at one.0 ≡ Some one.1) file written all) ∙ ap at (sym ((same_path-decides path file.0).0 is)))
    by false is (inl any) = inl (ap (λ (b : Bool). b || among path (map (λ (one : Names × Stamp). one.0) written)) (sym is) ∙ any)
    by false is (inr same) = inr (ap (λ (b : Bool). if b then Some file.1 else before path) is ∙ same)

holds_stamps : (files : List (Names × Content)) (tree : Tree) → HoldsFiles files tree → All (λ (file : Names × Stamp). option_map stamp (finite.get tree file.0) ≡ Some file.1) (map stamped files)
holds_stamps files tree stand =
    All-map (λ (file : Names × Stamp). option_map stamp (finite.get tree file.0) ≡ Some file.1) stamped files
    (All-weaker (λ (file : Names × Content). finite.get tree file.0 ≡ Some file.1) (λ (file : Names × Content). option_map stamp (finite.get tree file.0) ≡ Some (stamp file.1)) (λ file is. ap (option_map stamp) is) files stand)

lost_by_site : (commit : Lost) → IsTrue commit.by_site → lost_fault commit ≡ fault_by.Site
lost_by_site commit by = ap (λ (b : Bool). if b then fault_by.Site else fault_by.Memory) by

-- a commit that is lost is never one for which there was no room
lost_never_full : (commit : Lost) → lost_fault commit ≡ fault_by.Full → ⊥
lost_never_full commit = by commit.by_site
  where
    by : (site : Bool) → (if site then fault_by.Site else fault_by.Memory) ≡ fault_by.Full → ⊥
    by true e = cc
    by false e = cc

abbrev answer : Type 0
answer = Result (Unit {0}) BoardFault

same_fault : (one other : BoardFault) → (let refused : answer = Err one in refused) ≡ Err other → one ≡ other
same_fault one other e = cc

ok_or_not : (done : Unit {0}) (fault : BoardFault) → (let made : answer = Ok done in made) ≡ Err fault → ⊥
ok_or_not done fault e = cc

none_or_run : (run : RunRecord) → (let none : Option RunRecord = None in none) ≡ Some run → ⊥
none_or_run run e = cc

same_run : (one other : RunRecord) → (let kept : Option RunRecord = Some one in kept) ≡ Some other → one ≡ other
same_run one other e = cc

module _ {S R : Type 0} (site : Site S) (runner : Runner R) (b : BoardState S) (sound : IsSound site runner b) (none : b.lost ≡ None) (is_graph : IsGraphOf (entries_in b.graph.table) b.graph.nodes)
    (present_now : (s : S) → IsTrue site.tells → site.left_since s (site.moment s) (site.world s))
    (earlier : (s : S) (t u : ℕ) (w : World) → IsTrue site.tells → t ≤ u → site.left_since s u w → site.left_since s t w)
    (knows_tree : (s : S) → IsTrue site.tells → KnowsTree (site.known s) (site.world s).tree)
    (seat number : ℕ) (run : RunRecord) (files : List (Names × Content)) (kept : IsRecordOf (plan_of b) (state b) seat number run) (writes_are : run.writes ≡ map stamped files)
    (ends : IsTrue site.tells → IsTrue runner.tells → (known : List Content) → ((content : Content) → Contains (site.known b.site) content → Contains known content)
    → All (λ (file : Names × Content). Contains known file.1) files → EndsHonestly runner.next known kept.rule kept.running None Good run.writes)
    (result : Result (Unit {0}) BoardFault) (new : Ground S) (makes : MakesFiles site number run files (record { site = b.site; graph = b.graph; lost = b.lost }) result new)
    (counts : CountsFaults (site.faults b.site) (site.faults new.site) None result) where
  abbrev g : GraphState
  g = b.graph.nodes

  abbrev rule : Rule
  rule = kept.rule

  abbrev tried : Type 0
  tried = WasTried run result new.lost

  abbrev step : World → World → Type 0
  step v w = MakeStep tried g number run files v w

  -- ---- the rule, its outputs and the graph
  rules_are : (plan_of b).rules ≡ (first_graph b).rules
  rules_are = sound.opening.plan.rules

  one_maker : HasOneMaker (plan_of b)
  one_maker = sound.opening.apart.one_maker

  in_order : IsOrderly (plan_of b) (state b)
  in_order = orderly (plan_of b) (course_of b).files b.history sound.run

  at_present : IsPresent b g
  at_present = sound.present none

  here : slice_get (plan_of b).rules number ≡ Some rule
  here = placed b none g rules_are one_maker in_order at_present seat number run kept

  graph_has : slice_get g.rules number ≡ Some rule
  graph_has = in_graph b none g rules_are one_maker in_order at_present seat number run kept

  is_pending : (state b).pending number ≡ true
  is_pending = subst (λ (n : ℕ). (state b).pending n ≡ true) kept.here (in_order.pending seat kept.running kept.runs.here)

  in_outputs : outputs_of g number ≡ rule.outputs
  in_outputs = outputs_are g number rule graph_has

  -- an own output is one of a pending rule
  own_pending : (path : Names) → writes rule path ≡ true → IsPending (plan_of b) (state b) path
  own_pending path own = (number, is_pending, record { rule = rule; here = here; output = own })

  not_own : (path : Names) → (IsPending (plan_of b) (state b) path → ⊥) → writes rule path ≡ false
  not_own path free = false_from_ne_true (writes rule path) (λ own. free (own_pending path own))

  -- beside them the tree stays
  beside_in : (v w : World) → step v w → (path : Names) → writes rule path ≡ false → finite.get w.tree path ≡ finite.get v.tree path
  beside_in v w (inl not) path other = ap (λ (t : Tree). finite.get t path) not.1
  beside_in v w (inr (inl began)) path other = began.1 path (ap (among path) in_outputs ∙ other)
  beside_in v w (inr (inr ended)) path other = ended.1.2 path (ap (among path) in_outputs ∙ other)

  beside_now : IsTrue site.tells → (path : Names) → writes rule path ≡ false → finite.get (site.world new.site).tree path ≡ finite.get (site.world b.site).tree path
  beside_now told = beside_in (site.world b.site) (site.world new.site) (makes.now told)

  -- what its files have, the record of its run has
  holds_in : (tree : Tree) → HoldsFiles files tree → All (λ (file : Names × Stamp). option_map stamp (finite.get tree file.0) ≡ Some file.1) run.writes
  holds_in tree stand = subst (All (λ (file : Names × Stamp). option_map stamp (finite.get tree file.0) ≡ Some file.1)) (sym writes_are) (holds_stamps files tree stand)

  -- what is known
  more_known : IsTrue site.tells → (content : Content) → Contains (site.known b.site) content → Contains (site.known new.site) content
  more_known told = keeps_all (site.known b.site) (site.known new.site) (makes.known told)

  standing_known : IsTrue site.tells → HoldsFiles files (site.world new.site).tree → All (λ (file : Names × Content). Contains (site.known new.site) file.1) files
  standing_known told stand =
      All-weaker (λ (file : Names × Content). finite.get (site.world new.site).tree file.0 ≡ Some file.1) (λ (file : Names × Content). Contains (site.known new.site) file.1)
      (λ file is. known_among (site.known new.site) file.1 (knows_tree new.site told file.0 file.1 is)) files stand

  files_known : tried → IsTrue site.tells → All (λ (file : Names × Content). Contains (site.known new.site) file.1) files
  files_known was told = standing_known told (makes.made was told)

  -- each world that a crash right before may leave has the graph
  stored : IsTrue site.tells → (w : World) → site.left_since b.site (site.moment b.site) w → IsStoreOf g w.store
  stored told = stores_now site.world site.moment site.left_since b.graph.table g b.site (sound.stands told none) is_graph

  rose : Rose (site.faults b.opening.site) (site.faults b.site) → Rose (site.faults b.opening.site) (site.faults new.site)
  rose it = rose_on (site.faults b.opening.site) (site.faults b.site) (site.faults new.site) sound.counted counts.later it

  -- ---- the board then: with this more of a history, in which its rule has ended where the answer is Ok
  module _ (hist more : List CoreEvent) (whole : hist ≡ b.history ++ more) where
    abbrev then_board : BoardState S
    then_board = record b { history = hist; site = new.site; graph = new.graph; lost = new.lost }

    ended_on : (m : ℕ) (ran : RunRecord) → HasEnded (plan_of b) (start b) b.history m ran → HasEnded (plan_of b) (start b) hist m ran
    ended_on m ran was = record {
      before = was.before;
      after = was.after ++ more;
      seat = was.seat;
      whole = whole ∙ ap (λ (events : List CoreEvent). events ++ more) was.whole ∙ append_assoc was.before _ more;
      kept = was.kept;
    }

    module _ (claims_on : (m : ℕ) → (state b).claimed m ≡ true → (state then_board).claimed m ≡ true)
        (pending_back : (m : ℕ) → (state then_board).pending m ≡ true → (state b).pending m ≡ true)
        (stopped_is : (state then_board).stopped ≡ (state b).stopped)
        (ok_ends : (done : Unit {0}) → result ≡ Ok done → HasEnded (plan_of b) (start b) hist number run) where
      come_on : (h : GraphState) → HasComeTo b h → HasComeTo then_board h
      come_on h come = come_then b none g rules_are one_maker in_order at_present seat number run kept hist new.site new.graph new.lost claims_on ended_on h come

      ends_or_lost : tried → HasEnded (plan_of b) (start b) hist number run ⊎ WasToKeep new.lost number run
      ends_or_lost (inl done) = inl (ok_ends done.0 done.1)
      ends_or_lost (inr lost) = inr (record { commit = lost.0; here = lost.1; rule = (makes.lost lost.0 lost.1).rule; kept = lost.2 })

      -- ---- an image of before is one still, and one that making adds is one
      image_old : (v w : World) (h : GraphState) → IsImageOver b v w h → IsImageOver then_board v w h
      image_old v w h image = record {
        store = image.store;
        come = come_on h image.come;
        others = λ path free. image.others path (λ it. free (it.0, claims_on it.0 it.1, it.2));
        made = image.made;
        unmade = image.unmade;
      }

      module _ (v u w : World) (image : IsImageOver b v u g) (store : IsStoreOf g u.store) where
        come_now : HasComeTo then_board g
        come_now = come_on g at_present.come

        come_began : HasComeTo then_board (begun g number)
        come_began = come_on (begun g number) (come_begun b none g rules_are one_maker in_order at_present seat number run kept)

        come_ended : tried → HasComeTo then_board (finished (begun g number) number run)
        come_ended was = come_done b none g rules_are one_maker in_order at_present seat number run kept hist new.site new.graph new.lost claims_on ended_on (ends_or_lost was)

        claimed_now : (state then_board).claimed number ≡ true
        claimed_now = claims_on number (claimed b none g rules_are one_maker in_order at_present seat number run kept)

        flagged_now : is_flagged g number ≡ true
        flagged_now = flagged b none g rules_are one_maker in_order at_present seat number run kept

        apart_now : (m : ℕ) (another : Rule) → slice_get (plan_of b).rules m ≡ Some another → m ≢ number → (q : Names) → writes another q ≡ true → writes rule q ≡ false
        apart_now = other_outputs b none g rules_are one_maker in_order at_present seat number run kept

        stamps_in : (tree : Tree) → All (λ (file : Names × Content). finite.get tree file.0 ≡ Some file.1) files → (file : Names × Stamp) → Contains run.writes file → option_map stamp (finite.get tree file.0) ≡ Some file.1
        stamps_in tree stand file within = All-contains (λ (one : Names × Stamp). option_map stamp (finite.get tree one.0) ≡ Some one.1) run.writes file (holds_in tree stand) within

        image_not : IsNotBegun g number run files u w → IsImageOver then_board v w g
        image_not not =
            not_begun b then_board g number rule run files tried refl come_now come_began come_ended claims_on claimed_now here graph_has flagged_now apart_now kept.writes stamps_in v u w image
            (⊎_elim (λ same. subst (IsStoreOf g) (sym same) store) (λ it. it) not.0) not.1

        image_begun : IsBegun g number run files u w → IsImageOver then_board v w (begun g number)
        image_begun began =
            is_begun b then_board g number rule run files tried refl come_now come_began come_ended claims_on claimed_now here graph_has flagged_now apart_now kept.writes stamps_in v u w image
            (beside_in u w (inr (inl began))) began.0

        image_ended : tried × IsEnded g number run files u w → IsImageOver then_board v w (finished (begun g number) number run)
        image_ended ended =
            is_done b then_board g number rule run files tried refl come_now come_began come_ended claims_on claimed_now here graph_has flagged_now apart_now kept.writes stamps_in v u w image
            (beside_in u w (inr (inr ended))) ended.0 ended.1.0 ended.1.1

        image_step : step u w → (h : GraphState) × IsImageOver then_board v w h
        image_step (inl not) = (g, image_not not)
        image_step (inr (inl began)) = (begun g number, image_begun began)
        image_step (inr (inr ended)) = (finished (begun g number) number run, image_ended ended)

        -- what isn't made yet, by each of these graphs
        unmade_not : w.tree ≡ u.tree → StandsUnmade then_board v w g
        unmade_not =
            not_begun_unmade b then_board g number rule run files tried refl come_now come_began come_ended claims_on claimed_now here graph_has flagged_now apart_now kept.writes stamps_in v u w image

        module _ (beside : (path : Names) → writes rule path ≡ false → finite.get w.tree path ≡ finite.get u.tree path) where
          unmade_begun : StandsUnmade then_board v w (begun g number)
          unmade_begun =
              begun_unmade b then_board g number rule run files tried refl come_now come_began come_ended claims_on claimed_now here graph_has flagged_now apart_now kept.writes stamps_in v u w image beside

          unmade_ended : StandsUnmade then_board v w (finished (begun g number) number run)
          unmade_ended =
              done_unmade b then_board g number rule run files tried refl come_now come_began come_ended claims_on claimed_now here graph_has flagged_now apart_now kept.writes stamps_in v u w image beside

      store_was : IsTrue site.tells → IsStoreOf g (site.world b.site).store
      store_was told = stored told (site.world b.site) (present_now b.site told)

      image_was : IsTrue site.tells → IsImageOver b (site.world b.opening.site) (site.world b.site) g
      image_was told =
          let was = sound.now told in
          subst (IsImageOver b (site.world b.opening.site) (site.world b.site)) (one_store (site.world b.site).store was.0 g was.1.store (store_was told)) was.1

      image_now : IsTrue site.tells → (h : GraphState) × IsImageOver then_board (site.world b.opening.site) (site.world new.site) h
      image_now told = image_step (site.world b.opening.site) (site.world b.site) (site.world new.site) (image_was told) (store_was told) (makes.now told)

      image_still : (w : World) → IsImage site b w → IsImage site then_board w
      image_still w image = (image.0, image.1, image.2, image_old image.0 w image.2 image.3)

      -- what a crash right before might have left is an image with the board's graph
      image_before : IsTrue site.tells → (u : World) → site.left_since b.site (site.moment b.site) u → (v : World) × Before site b v × IsImageOver b v u g
      image_before told u left =
          let image = sound.images told u (earlier b.site (site.moment b.opening.site) (site.moment b.site) u told (sound.later told) left) in
          (image.0, image.1, subst (IsImageOver b image.0 u) (one_store u.store image.2 g image.3.store (stored told u left)) image.3)

      -- what making adds to what a crash may leave
      image_made : IsTrue site.tells → (w : World) → Follows step (site.left_since b.site (site.moment b.site)) w → IsImage site then_board w
      image_made told w from =
          let image = image_before told from.0 from.1 in
          let made = image_step image.0 from.0 w image.2 (stored told from.0 from.1) from.2 in
          (image.0, image.1, made.0, made.1)

      -- a rule that is flagged once its rule has ended was flagged before
      flagged_still : (m : ℕ) → is_flagged (finished (begun g number) number run) m ≡ true → is_flagged g m ≡ true
      flagged_still m on = by (is_flagged g m) refl
        where
          by : (flag : Bool) → is_flagged g m ≡ flag → is_flagged g m ≡ true
          by true is = is
          by false is = absurd (true≢false (sym on ∙ unflagged_on b none g rules_are one_maker in_order at_present seat number run kept m is))

      -- and what a crash may leave once a commit was lost, where what was pending is
      image_lost : IsTrue site.tells → ((m : ℕ) → (state b).pending m ≡ true → (state then_board).pending m ≡ true) → (u w : World) → site.left_since b.site (site.moment b.site) u → LostStep tried g number run files (site.world b.site) (site.world new.site) u w
          → (v : World) × Before site b v × (h : GraphState) × IsImageOver then_board v w h × StandsUnmade then_board (site.world b.opening.site) (site.world new.site) h × FlagsPending then_board h
      image_lost told pends u w left lost = by lost
        where
          was_pending : (m : ℕ) → is_flagged g m ≡ true → (state then_board).pending m ≡ true
          was_pending m on = pends m (sym (at_present.flags m) ∙ on)

          image : (v : World) × Before site b v × IsImageOver b v u g
          image = image_before told u left

          store : IsStoreOf g u.store
          store = stored told u left

          by : LostStep tried g number run files (site.world b.site) (site.world new.site) u w
              → (v : World) × Before site b v × (h : GraphState) × IsImageOver then_board v w h × StandsUnmade then_board (site.world b.opening.site) (site.world new.site) h × FlagsPending then_board h
          by (inl (tree, not)) = (
            image.0,
            image.1,
            g,
            image_not image.0 u w image.2 store not,
            unmade_not (site.world b.opening.site) (site.world b.site) (site.world new.site) (image_was told) (store_was told) tree,
            was_pending,
          )
          by (inr (inl began)) = (
            image.0,
            image.1,
            begun g number,
            image_begun image.0 u w image.2 store began,
            unmade_begun (site.world b.opening.site) (site.world b.site) (site.world new.site) (image_was told) (store_was told) (beside_now told),
            was_pending,
          )
          by (inr (inr ended)) = (
            image.0,
            image.1,
            finished (begun g number) number run,
            image_ended image.0 u w image.2 store ended,
            unmade_ended (site.world b.opening.site) (site.world b.site) (site.world new.site) (image_was told) (store_was told) (beside_now told),
            λ m on. was_pending m (flagged_still m on),
          )

      images_now : IsTrue site.tells → LeavesImages then_board (Before site then_board) (Since site then_board)
      images_now told w left =
          elim ((makes.crash told).since (site.moment b.opening.site) w (sound.later told) left) [
            | inl before ↦ image_still w (sound.images told w before)
            | inr from ↦ image_made told w from
          ]

      since_now : IsTrue site.tells → (t : ℕ) (w : World) → t ≤ site.moment b.opening.site → site.left_since new.site t w → site.left_since b.opening.site t w ⊎ IsImage site then_board w
      since_now told t w soon left =
          elim ((makes.crash told).since t w (let later = sound.later told in omega (arith, soon, later)) left) [
            | inl before ↦ ⊎_elim inl (λ image. inr (image_still w image)) (sound.since told t w soon before)
            | inr from ↦ inr (image_made told w from)
          ]

      -- ---- a lost commit was to happen
      could_end : ((commit : Lost) → new.lost ≡ Some commit → (m : ℕ) → (state b).pending m ≡ true → (state then_board).pending m ≡ true) → (commit : Lost) → new.lost ≡ Some commit → WasToHappen site runner then_board commit
      could_end still commit lost =
          let loses = makes.lost commit lost in record {
            cause = λ by.
                ⊎_elim (λ rises. rose_since (site.faults b.opening.site) (site.faults b.site) (site.faults new.site) sound.counted rises) (λ was. absurd (none-some was.0 was.1))
                (counts.site (loses.fault ∙ ap Err (lost_by_site commit by)));
            pending = ap (state then_board).pending loses.rule ∙ still commit lost number is_pending;
            run = λ ran ran_is.
                let tries : commit.run ≡ Some run = ⊎_elim (λ began. absurd (none_or_run ran (sym began ∙ ran_is))) (λ kept. kept) loses.kept in
                let same : run ≡ ran = same_run run ran (sym tries ∙ ran_is) in
                could commit.rule (sym loses.rule) ran same (inr (commit, lost, tries));
            torn = λ told w left. let from = makes.torn commit lost told w left in image_lost told (still commit lost) from.0 w from.1 from.2;
          }
        where
          could : (m : ℕ) → number ≡ m → (ran : RunRecord) → run ≡ ran → tried
              → CouldEnd (plan_of b) (start b) hist m ran (IsTrue site.tells × IsTrue runner.tells) (EndsHonestly runner.next (site.known new.site))
          could m same ran is was =
              subst (λ (n : ℕ). CouldEnd (plan_of b) (start b) hist n ran (IsTrue site.tells × IsTrue runner.tells) (EndsHonestly runner.next (site.known new.site))) same
              (subst (λ (r : RunRecord). CouldEnd (plan_of b) (start b) hist number r (IsTrue site.tells × IsTrue runner.tells) (EndsHonestly runner.next (site.known new.site))) is
              (record {
                before = b.history;
                after = more;
                seat = seat;
                whole = whole;
                kept = kept;
                ended = λ told. ends told.0 told.1 (site.known new.site) (more_known told.0) (files_known was told.0);
              }))

      -- ---- a cause that was true is
      pending_on : (path : Names) → IsPending (plan_of b) (state then_board) path → IsPending (plan_of b) (state b) path
      pending_on path it = (it.0, pending_back it.0 it.1, it.2)

      cause_on : (cause : Cause) → IsTrueNow site runner b cause → IsTrueNow site runner then_board cause
      cause_on causes.Site it = rose it
      cause_on (causes.TooLarge bytes) it = (
        it.0,
        λ told. let large = it.1 told in record {
          path = large.path;
          content = large.content;
          here = beside_now told large.path (not_own large.path large.stands) ∙ large.here;
          long = large.long;
          stands = λ pending. large.stands (pending_on large.path pending);
        },
      )
      cause_on causes.Full it = λ told. let full = it told in (
        full.0,
        (makes.crash told).kept (site.moment b.opening.site) full.0 (sound.later told) full.1,
        record {
          graph = full.2.graph;
          stands = full.2.stands;
          before = full.2.before;
          after = full.2.after ++ more;
          seat = full.2.seat;
          number = full.2.number;
          run = full.2.run;
          whole = whole ∙ ap (λ (events : List CoreEvent). events ++ more) full.2.whole ∙ append_assoc full.2.before _ more;
          kept = full.2.kept;
          full = ⊎_elim inl
              (λ end. inr (end.0, λ both. ends_more (site.known b.site) (site.known new.site) (more_known both.0) runner.next full.2.kept.rule full.2.kept.running None Good full.2.run.writes (end.1 both)))
              full.2.full;
        },
      )
      cause_on causes.Bad it = it
      cause_on causes.Run it = it
      cause_on causes.Memory it = it

      -- ---- all of it
      pub sound_then : IsRun (plan_of b) (start b) hist
          → (IsTrue site.tells → IsTrue runner.tells → IsHonest runner.next (site.known new.site) (plan_of b) (start b) hist)
          → (IsTrue site.tells → (path : Names) → (IsPending (plan_of b) (state then_board) path → ⊥) → option_map stamp (finite.get (site.world new.site).tree path) ≡ (state then_board).files path)
          → (new.lost ≡ None → IsPresent then_board new.graph.nodes)
          → ((commit : Lost) → new.lost ≡ Some commit → (m : ℕ) → (state b).pending m ≡ true → (state then_board).pending m ≡ true) → IsSound site runner then_board
      sound_then runs honest files_are presents still = record {
        opening = record { fresh = sound.opening.fresh; stands = sound.opening.stands; seen = sound.opening.seen; plan = sound.opening.plan; apart = sound.opening.apart };
        run = runs;
        honest = honest;
        files = files_are;
        fresh = makes.is_ground.fresh;
        stands = makes.is_ground.stands;
        present = presents;
        lost = could_end still;
        now = image_now;
        images = images_now;
        since = since_now;
        cause = λ cause stopped. cause_on cause (sound.cause cause (sym stopped_is ∙ stopped));
        counted = let first = sound.counted in let last = counts.later in omega (arith, first, last);
        later = λ told. let first = sound.later told in let last = (makes.crash told).later in omega (arith, first, last);
        known = λ told content had. makes.known told content (sound.known told content had);
      }

  -- ---- it was refused: nothing happened yet
  module _ (fault : BoardFault) (refused : result ≡ Err fault) where
    abbrev pub refused_board : BoardState S
    refused_board = record b { site = new.site; graph = new.graph; lost = new.lost }

    whole_is : b.history ≡ b.history ++ []
    whole_is = sym (append-nil b.history)

    never_ok : (done : Unit {0}) → result ≡ Ok done → HasEnded (plan_of b) (start b) b.history number run
    never_ok done ok = absurd (ok_or_not done fault (sym ok ∙ refused))

    come_so : (h : GraphState) → HasComeTo b h → HasComeTo refused_board h
    come_so = come_on b.history [] whole_is (λ m is. is) (λ m is. is) refl never_ok

    present_so : new.lost ≡ None → IsPresent refused_board new.graph.nodes
    present_so still =
        elim (makes.err fault refused still) [
          | inl same ↦ subst (λ (h : Held). IsPresent refused_board h.nodes) (sym (ap (λ (it : Ground S). it.graph) same)) (record { come = come_so g at_present.come; flags = at_present.flags })
          | inr began ↦ subst (λ (h : Held). IsPresent refused_board h.nodes) (sym began)
              (record { come = come_so (begun g number) (come_begun b none g rules_are one_maker in_order at_present seat number run kept); flags = at_present.flags })
        ]

    pub sound_refused : IsSound site runner refused_board
    sound_refused =
        sound_then b.history [] whole_is (λ m is. is) (λ m is. is) refl never_ok sound.run
        (λ told means. honest_known (site.known b.site) (site.known new.site) (more_known told) runner.next (plan_of b) (start b) b.history (sound.honest told means))
        (λ told path free. ap (option_map stamp) (beside_now told path (not_own path free)) ∙ sound.files told path free) present_so (λ commit lost m was. was)

    -- ---- and the refusal is true
    still_fresh : fault ≡ fault_by.Full → new.lost ≡ None
    still_fresh full = by new.lost refl
      where
        by : (lost : Option Lost) → new.lost ≡ lost → new.lost ≡ None
        by None is = is
        by (Some commit) is = absurd (lost_never_full commit (same_fault (lost_fault commit) fault_by.Full (sym (makes.lost commit is).fault ∙ refused ∙ ap Err full)))

    no_room : IsTrue site.tells → (is_graph_now : IsGraphOf (entries_in new.graph.table) new.graph.nodes) → fault ≡ fault_by.Full
        → (w : World) × Since site refused_board w
        × HasNoRoom (with_history refused_board (b.history ++ stops_by seat fault_by.Full)) w.store (IsTrue site.tells × IsTrue runner.tells) (EndsHonestly runner.next (site.known new.site))
    no_room told is_graph_now full =
        let stands = makes.is_ground.stands told (still_fresh full) in (
          site.world new.site,
          earlier new.site (site.moment b.opening.site) (site.moment new.site) (site.world new.site) told later_is (present_now new.site told),
          record {
            graph = new.graph;
            stands = record { commits = stands.commits; rests = stands.rests.bytes; entries = stands.entries; gate = stands.gate; nodes = is_graph_now };
            before = b.history;
            after = [];
            seat = seat;
            number = number;
            run = run;
            whole = refl;
            kept = kept;
            full = elim (makes.full (refused ∙ ap Err full)) [
              | inl first ↦ inl (subst (λ (h : Held). IsFull h (begin_edits h.nodes number)) (sym first.1) first.0)
              | inr last ↦ inr (
                subst (λ (h : Held). IsFull h (finish_edits h.nodes number run)) (sym last.1) last.0,
                λ both. ends both.0 both.1 (site.known new.site) (more_known both.0) (standing_known both.0 (last.2 both.0)),
              )
            ];
          },
        )
      where
        later_is : site.moment b.opening.site ≤ site.moment new.site
        later_is = let first = sound.later told in let last = (makes.crash told).later in omega (arith, first, last)

    pub refusal_true : (IsTrue (is_fresh new.graph) → IsGraphOf (entries_in new.graph.table) new.graph.nodes) → IsTrueFault site runner refused_board seat fault
    refusal_true law = by fault refl
      where
        by : (it : BoardFault) → fault ≡ it → IsTrueFault site runner refused_board seat it
        by fault_by.Site is =
            ⊎_elim (λ rises. rose_since (site.faults b.opening.site) (site.faults b.site) (site.faults new.site) sound.counted rises) (λ was. absurd (none-some was.0 was.1))
            (counts.site (refused ∙ ap Err is))
        by (fault_by.TooLarge bytes) is = absurd (makes.small bytes (refused ∙ ap Err is))
        by fault_by.Full is = λ told. no_room told (law (makes.is_ground.fresh ∙ ap is_none (still_fresh is))) is
        by fault_by.Memory is = tt

  -- ---- it was made: its command ended Good
  module _ (done : Unit {0}) (ok : result ≡ Ok done) where
    abbrev pub event : CoreEvent
    event = Finish seat Good run.writes

    abbrev pub ended_board : BoardState S
    ended_board = record b { history = b.history ++ event ∷ []; site = new.site; graph = new.graph; lost = new.lost }

    state_is : state ended_board ≡ ended (plan_of b) (emptied (state b) seat) kept.running.rule Good run.writes
    state_is = end_more (plan_of b) (start b) b.history event ∙ finished_is (plan_of b) (state b) seat kept.running Good run.writes kept.runs.here

    pending_is : (m : ℕ) → (state ended_board).pending m ≡ changed (state b).pending number false m
    pending_is m = ap (λ (s : State). s.pending m) state_is ∙ ap (λ (n : ℕ). changed (state b).pending n false m) kept.here

    claims_so : (m : ℕ) → (state b).claimed m ≡ true → (state ended_board).claimed m ≡ true
    claims_so m was = ap (λ (s : State). s.claimed m) state_is ∙ was

    pending_was : (m : ℕ) → (state ended_board).pending m ≡ true → (state b).pending m ≡ true
    pending_was m now =
        elim (changed_cases (state b).pending number false m) [
          | inl same ↦ absurd (true≢false (sym now ∙ pending_is m ∙ same.1))
          | inr apart ↦ sym apart.1 ∙ sym (pending_is m) ∙ now
        ]

    ends_so : (d : Unit {0}) → result ≡ Ok d → HasEnded (plan_of b) (start b) (b.history ++ event ∷ []) number run
    ends_so d is = record { before = b.history; after = []; seat = seat; whole = refl; kept = kept }

    -- the event may happen, and is honest
    pub enabled : IsEnabled (plan_of b) (state b) event
    enabled = (kept.running, kept.rule, kept.runs, subst (λ (denied : Option (List ℕ × Verdict)). FitsEnd kept.rule denied Good run.writes) (sym kept.granted) kept.writes)

    honest_event : IsTrue site.tells → IsTrue runner.tells → IsHonestEvent runner.next (site.known new.site) (plan_of b) (state b) event
    honest_event told means = (λ running another runs. at running another runs, tt)
      where
        meant : EndsHonestly runner.next (site.known new.site) kept.rule kept.running None Good run.writes
        meant = ends told means (site.known new.site) (more_known told) (files_known (inl (done, ok)) told)

        at : (running : Running) (another : Rule) → Runs (plan_of b) (state b) seat running another → EndsHonestly runner.next (site.known new.site) another running running.denied Good run.writes
        at running another runs =
            let same : kept.running ≡ running = same_Some _ _ (sym kept.runs.here ∙ runs.here) in
            let placed_so : kept.rule ≡ another = same_Some _ _ (sym kept.runs.placed ∙ ap (λ (r : Running). slice_get (plan_of b).rules r.rule) same ∙ runs.placed) in
            subst (λ (d : Option (List ℕ × Verdict)). EndsHonestly runner.next (site.known new.site) another running d Good run.writes) (sym kept.granted ∙ ap (λ (r : Running). r.denied) same)
            (subst (λ (r : Running). EndsHonestly runner.next (site.known new.site) another r None Good run.writes) same
            (subst (λ (r : Rule). EndsHonestly runner.next (site.known new.site) r kept.running None Good run.writes) placed_so meant))

    -- the files have what was made
    files_so : IsTrue site.tells → (path : Names) → (IsPending (plan_of b) (state ended_board) path → ⊥) → option_map stamp (finite.get (site.world new.site).tree path) ≡ (state ended_board).files path
    files_so told path free = by (writes rule path) refl ∙ sym (ap (λ (s : State). s.files path) state_is)
      where
        free_before : writes rule path ≡ false → IsPending (plan_of b) (state b) path → ⊥
        free_before other pending =
            elim (same_or_other pending.0 number) [
              | inl same ↦
                  let makes_it : Makes (plan_of b) number path = subst (λ (n : ℕ). Makes (plan_of b) n path) same pending.2 in
                  absurd (true≢false (sym makes_it.output ∙ ap (λ (r : Rule). writes r path) (same_Some _ _ (sym makes_it.here ∙ here)) ∙ other))
              | inr differ ↦ elim (changed_cases (state b).pending number false pending.0) [
                | inl same ↦ differ same.0
                | inr apart ↦ free (pending.0, pending_is pending.0 ∙ apart.1 ∙ pending.1, pending.2)
              ]
            ]

        by : (own : Bool) → writes rule path ≡ own → option_map stamp (finite.get (site.world new.site).tree path) ≡ with_stamps (state b).files run.writes path
        by true own =
            sym (stamped_at (λ (p : Names). option_map stamp (finite.get (site.world new.site).tree p)) run.writes (state b).files path (holds_in (site.world new.site).tree (makes.made (inl (done, ok)) told))
            (inl (ap (among path) kept.writes ∙ own)))
        by false other =
            ap (option_map stamp) (beside_now told path other) ∙ sound.files told path (free_before other)
            ∙ sym (with_stamps_apart run.writes (state b).files path (ap (among path) kept.writes ∙ other))

    present_ended : new.lost ≡ None → IsPresent ended_board new.graph.nodes
    present_ended still =
        subst (λ (h : Held). IsPresent ended_board h.nodes) (sym (makes.ok done ok).1)
        (present_done b none g rules_are one_maker in_order at_present seat number run kept (b.history ++ event ∷ []) new.site new.graph new.lost claims_so (ended_on (b.history ++ event ∷ []) (event ∷ []) refl) (inl (ends_so done ok)) pending_is)

    pub sound_ended : IsSound site runner ended_board
    sound_ended =
        sound_then (b.history ++ event ∷ []) (event ∷ []) refl claims_so pending_was (ap (λ (s : State). s.stopped) state_is) ends_so
        (run_more (plan_of b) (start b) b.history event sound.run enabled)
        (λ told means.
        honest_more runner.next (site.known new.site) (plan_of b) (start b) b.history event
        (honest_known (site.known b.site) (site.known new.site) (more_known told) runner.next (plan_of b) (start b) b.history (sound.honest told means)) (honest_event told means))
        files_so present_ended (λ commit lost. absurd (none-some commit (sym (makes.ok done ok).0 ∙ lost)))
