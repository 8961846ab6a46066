-- What making the files of a rule leaves, by what its parts leave: a commit, files, a commit.
use Rattle.std.proofs.Common.{◌≡◌, ◌⊎◌, ℕ, ◌≤◌, Bool, true, false, List, Option, None, Some, Result, Ok, Err, ⊎_elim, inl, inr, refl, sym, ap, subst, ◌∙◌, arith}
use Rattle.std.specs.Prelude.{if◌then◌else◌, IsTrue, is_none}
use Rattle.std.proofs.lemmas.Option.{same_Some}
use Rattle.tup_path.specs.Name.{Names, Content}
use Rattle.tup_path.specs.Tree.{Tree}
use Rattle.tup_site.specs.Crash.{Follows, GoesOn, PinsTree}
use Rattle.tup_site.specs.Known.{Keeps, knows}
use Rattle.tup_site.specs.World.{World, StoreStays, TreeStays}
use Rattle.tup_site.specs.declared.fault.SiteFailed.{SiteFailed}
use Rattle.tup_site.specs.declared.fault.SiteFailed.TheVariants as failed_by
use Rattle.tup_site.specs.declared.site.Site.{Ghosts as Site}
use Rattle.tup_record.specs.declared.run.RunRecord.{RunRecord}
use Rattle.tup_table.proofs.Going.{IsEarlier, as_step}
use Rattle.tup_table.proofs.Stands.{stands_on}
use Rattle.tup_graph.specs.Graph.{GraphState, outputs_of}
use Rattle.tup_graph.specs.declared.edit.Edit.{Edit}
use Rattle.tup_graph.specs.Opening.{IsGraphOf}
use Rattle.tup_graph.specs.Transactions.{begin_edits, begun, finish_edits, finished}
use Rattle.tup_table.specs.Table.{entries_in}
use Rattle.tup_stored_graph.specs.Crash.{IsStoreOf, GraphStep, LeavesEither}
use Rattle.tup_stored_graph.specs.Held.{Held, is_fresh}
use Rattle.tup_stored_graph.specs.Transaction.{after, IsFull}
use Rattle.tup_stale.specs.Files.{SameBeside, FilesStep}
use Rattle.tup_stale.proofs.Crashes.{stores_now}
use Rattle.tup_stale.proofs.Going.{then_by}
use Rattle.tup_stale.proofs.Removals.{beside_same, beside_then}
use Rattle.tup_rule_outputs.specs.declared.fault.BoardFault.{BoardFault}
use Rattle.tup_rule_outputs.specs.declared.fault.BoardFault.TheVariants as board
use Rattle.tup_rule_outputs.specs.declared.ground.Ground.{Ground}
use Rattle.tup_rule_outputs.specs.Fault.{of_site, lost_fault}
use Rattle.tup_rule_outputs.specs.Ground.{IsGround, Commits, HoldsFiles, IsNotBegun, IsBegun, IsEnded, LostStep, MakeStep, MakesFiles, Makes, WasTried, paths_of, after_begin}
use Rattle.tup_rule_outputs.specs.Lost.{Lost}
use Rattle.tup_rule_outputs.proofs.Committed.{some_none, same_fault, refusal}
use Rattle.tup_rule_outputs.proofs.Faults.{never_full, of_too_large}

-- ---- what a crash leaves
module _ {S : Type 0} (moment : S → ℕ) (left_since : S → ℕ → World → Type 0) (tried : Type 0) (g : GraphState) (number : ℕ) (run : RunRecord) (files : List (Names × Content)) where
  abbrev outputs : List Names
  outputs = outputs_of g number

  abbrev Step : World → World → Type 0
  Step v w = MakeStep tried g number run files v w

  -- what is left up to the settle
  abbrev Half : World → World → Type 0
  Half v w = IsNotBegun g number run files v w ⊎ IsBegun g number run files v w

  -- what the last commit adds
  abbrev Last : World → World → Type 0
  Last v w = TreeStays v w × (IsStoreOf (begun g number) w.store ⊎ (tried × IsEnded g number run files v w))

  half_of : (v w : World) → GraphStep g (begun g number) v w → Half v w
  half_of v w step = ⊎_elim (λ was. inl (inr was, step.tree)) (λ began. inr (began, beside_same outputs v.tree w.tree step.tree)) step.store

  step_of : (v w : World) → Half v w → Step v w
  step_of v w half = ⊎_elim inl (λ began. inr (inl began)) half

  beside_half : (u v : World) → Half u v → SameBeside outputs u.tree v.tree
  beside_half u v half = ⊎_elim (λ was. beside_same outputs u.tree v.tree was.1) (λ began. began.1) half

  last_of : (v w : World) → Last v w → Step v w
  last_of v w last = ⊎_elim (λ began. inr (inl (began, beside_same outputs v.tree w.tree last.0))) (λ ended. inr (inr ended)) last.1

  -- the run begins
  pub begins : (old new : S) → LeavesEither moment left_since old new g (begun g number) → GoesOn moment left_since old new Step
  begins old new leaves = as_step moment left_since old new (GraphStep g (begun g number)) Step (λ v w left step. step_of v w (half_of v w step)) leaves.on

  -- ---- and files are put
  module _ (old mid new : S) (earlier : IsEarlier moment left_since mid) (begin : LeavesEither moment left_since old mid g (begun g number))
      (stores : (v : World) → left_since mid (moment mid) v → IsStoreOf (begun g number) v.store) (put : GoesOn moment left_since mid new (FilesStep outputs)) where
    half : GoesOn moment left_since old new Half
    half =
        then_by moment left_since old mid new (GraphStep g (begun g number)) (λ v w. IsBegun g number run files v w) Half earlier half_of (λ v w began. inr began)
        (λ u v w first began. inr (began.0, beside_then outputs u.tree v.tree w.tree (beside_same outputs u.tree v.tree first.tree) began.1)) begin.on
        (as_step moment left_since mid new (FilesStep outputs) (λ v w. IsBegun g number run files v w)
        (λ v w left step. (subst (IsStoreOf (begun g number)) (sym step.store) (stores v left), step.others)) put)

    pub puts : GoesOn moment left_since old new Step
    puts = as_step moment left_since old new Half Step (λ v w left step. step_of v w step) half

    -- from then on a crash leaves that the run began, beside other files at its outputs
    has_begun : IsEarlier moment left_since new → ((v : World) → left_since new (moment new) v → IsStoreOf (begun g number) v.store) → (v : World) → left_since new (moment new) v
        → Follows (λ (u w : World). IsBegun g number run files u w) (left_since old (moment old)) v
    has_begun done began v left =
        ⊎_elim
        (λ was. (v, was, (began v left, beside_same outputs v.tree v.tree refl)))
        (λ from. (from.0, from.1, (began v left, beside_half from.0 v from.2)))
        (half.since (moment old) v (omega arith) (done (moment old) (moment new) v half.later left))

    -- ---- and the run is kept
    module _ (was : tried) (end : S) (done : IsEarlier moment left_since new) (present : Tree) (pinned : (v : World) → left_since new (moment new) v → v.tree ≡ present) (holds : HoldsFiles files present)
        (keep : LeavesEither moment left_since new end (begun g number) (finished (begun g number) number run)) where
      last : GoesOn moment left_since new end Last
      last = as_step moment left_since new end (GraphStep (begun g number) (finished (begun g number) number run)) Last (λ v w left step. (
        step.tree,
        ⊎_elim inl (λ ended. inr (was, (ended, subst (HoldsFiles files) (sym (step.tree ∙ pinned v left)) holds, beside_same outputs v.tree w.tree step.tree))) step.store,
      )) keep.on

      pub keeps : GoesOn moment left_since old end Step
      keeps =
          then_by moment left_since old new end Half Last Step done step_of last_of
          (λ u v w first later.
          ⊎_elim (λ began. inr (inl (began, beside_then outputs u.tree v.tree w.tree (beside_half u v first) (beside_same outputs v.tree w.tree later.0))))
          (λ ended. inr (inr (ended.0, (ended.1.0, ended.1.1, beside_then outputs u.tree v.tree w.tree (beside_half u v first) ended.1.2)))) later.1)
          half last

      -- where that commit is lost: what a crash from then on may leave
      pub lost_last : (before now : World) → ((v : World) → left_since new (moment new) v → IsStoreOf (begun g number) v.store) → IsEarlier moment left_since end → (w : World) → left_since end (moment end) w
          → Follows (LostStep tried g number run files before now) (left_since old (moment old)) w
      lost_last before now began over w left =
          ⊎_elim
          (λ stayed. let from = has_begun done began w stayed in (from.0, from.1, inr (inl from.2)))
          (λ step. let from = has_begun done began step.0 step.1 in (from.0, from.1, then_last from.0 step.0 w from.2 step.1 step.2))
          (keep.on.since (moment new) w (omega arith) (over (moment new) (moment end) w keep.on.later left))
        where
          then_last : (u v w : World) → IsBegun g number run files u v → left_since new (moment new) v → GraphStep (begun g number) (finished (begun g number) number run) v w
              → LostStep tried g number run files before now u w
          then_last u v w first left step =
              let beside = beside_then outputs u.tree v.tree w.tree first.1 (beside_same outputs v.tree w.tree step.tree) in
              ⊎_elim (λ began. inr (inl (began, beside))) (λ ended. inr (inr (was, (ended, subst (HoldsFiles files) (sym (step.tree ∙ pinned v left)) holds, beside)))) step.store

-- ---- what each end of the call leaves
never_lost : (commit : Lost) → lost_fault commit ≡ board.Full → ⊥
never_lost commit = by commit.by_site
  where
    by : (site : Bool) → (if site then board.Site else board.Memory) ≡ board.Full → ⊥
    by true e = cc
    by false e = cc

ok_refused : (fault : BoardFault) (done : Unit {0}) → refusal fault ≡ Ok done → ⊥
ok_refused fault done e = cc

none_kept : (run : RunRecord) → (let none : Option RunRecord = None in none) ≡ Some run → ⊥
none_kept run e = cc

module _ {S : Type 0} (site : Site S) (number : ℕ) (run : RunRecord) (files : List (Names × Content)) (old : Ground S)
    (present : (s : S) → IsTrue site.tells → site.left_since s (site.moment s) (site.world s))
    (earlier : (s : S) (t u : ℕ) (w : World) → IsTrue site.tells → t ≤ u → site.left_since s u w → site.left_since s t w) where
  abbrev g : GraphState
  g = old.graph.nodes

  -- a commit for which there was no room isn't lost
  none_full : (kept : Option RunRecord) (edits : List Edit) (nodes : GraphState) (before : Ground S) (result : Result (Unit {0}) BoardFault) (new : Ground S) → Commits site number kept edits nodes before result new
      → result ≡ Err board.Full → new.lost ≡ None
  none_full kept edits nodes before result new commits full = by new.lost refl
    where
      by : (lost : Option Lost) → new.lost ≡ lost → new.lost ≡ None
      by None is = is
      by (Some commit) is = absurd (never_lost commit (same_fault (lost_fault commit) board.Full (sym (commits.lost commit is).2 ∙ full)))

  -- a crash now may leave all as it is: so the present store is one that a crash since the call began may leave
  now_left : (first last : S) → IsTrue site.tells → site.moment first ≤ site.moment last → site.left_since last (site.moment first) (site.world last)
  now_left first last tells later = earlier last (site.moment first) (site.moment last) (site.world last) tells later (present last tells)

  -- the run couldn't begin
  pub begin_refused : (new : Ground S) (fault : BoardFault) → Commits site number None (begin_edits g number) (begun g number) old (Err fault) new → MakesFiles site number run files old (Err fault) new
  begin_refused new fault commits = record {
    is_ground = commits.is_ground;
    ok = λ done e. absurd (cc);
    made = λ tried tells.
        ⊎_elim (λ kept. absurd (ok_refused fault kept.0 kept.1))
        (λ lost. absurd (none_kept run (sym (commits.lost lost.0 lost.1).1 ∙ lost.2))) tried;
    lost = λ commit e. let is = commits.lost commit e in record { rule = is.0; kept = inl is.1; fault = is.2 };
    err = λ other e none. inl (commits.err fault refl none);
    still = λ commit e by. ap (λ (n : GraphState). n.seen) (commits.still commit e by);
    full = λ e. inl (commits.full e, ap (λ (it : Ground S). it.graph) (commits.err fault refl (none_full None (begin_edits g number) (begun g number) old (Err fault) new commits e)));
    room = λ done e full. cc;
    small = commits.small;
    now = λ tells.
        let tree = commits.tree tells in
        ⊎_elim (λ was. inl (inr was, tree)) (λ began. inr (inl (began, beside_same (outputs_of g number) (site.world old.site).tree (site.world new.site).tree tree)))
        ((commits.crash tells).only.each (site.world new.site) (now_left old.site new.site tells (commits.crash tells).only.later));
    crash = λ tells. begins site.moment site.left_since (WasTried run (refusal fault) new.lost) g number run files old.site new.site (commits.crash tells);
    known = λ tells content had. subst (λ (k : List Content). IsTrue (knows k content)) (sym (commits.known tells)) had;
    torn = λ commit lost tells w left.
        let tree = commits.tree tells in
        let on = (commits.crash tells).on in
        ⊎_elim
        (λ was. (w, was, inl (tree, (inl refl, refl))))
        (λ from. (
          from.0,
          from.1,
          ⊎_elim (λ not. inl (tree, not)) (λ began. inr (inl began)) (half_of site.moment site.left_since (WasTried run (refusal fault) new.lost) g number run files from.0 w from.2),
        ))
        (on.since (site.moment old.site) w (omega arith) (earlier new.site (site.moment old.site) (site.moment new.site) w tells on.later left));
  }

  -- ---- the run began
  module _ (mid : Ground S) (done : Unit {0}) (begin : Commits site number None (begin_edits g number) (begun g number) old (Ok done) mid) where
    pub mid_is : mid.graph ≡ after_begin old.graph number
    mid_is = (begin.ok done refl).1

    pub fresh_mid : IsTrue (is_fresh mid.graph)
    fresh_mid = begin.is_ground.fresh ∙ ap is_none (begin.ok done refl).0

    -- the store stands for the graph in which it began
    module _ (is_graph : IsGraphOf (entries_in mid.graph.table) mid.graph.nodes) where
      stores : IsTrue site.tells → (v : World) → site.left_since mid.site (site.moment mid.site) v → IsStoreOf (begun g number) v.store
      stores tells =
          stores_now site.world site.moment site.left_since mid.graph.table (begun g number) mid.site (begin.is_ground.stands tells (begin.ok done refl).0)
          (subst (IsGraphOf (entries_in mid.graph.table)) (ap (λ (h : Held). h.nodes) mid_is) is_graph)

      -- files were put, or not
      module _ (outputs_are : paths_of files ≡ outputs_of g number) (put : S)
          (beside : IsTrue site.tells → SameBeside (paths_of files) (site.world mid.site).tree (site.world put).tree)
          (store : IsTrue site.tells → StoreStays (site.world mid.site) (site.world put))
          (crash : IsTrue site.tells → GoesOn site.moment site.left_since mid.site put (FilesStep (paths_of files)))
          (known : IsTrue site.tells → Keeps (site.known mid.site) (site.known put)) where
        abbrev there : Ground S
        there = record { site = put; graph = mid.graph; lost = mid.lost }

        files_on : IsTrue site.tells → GoesOn site.moment site.left_since mid.site put (FilesStep (outputs_of g number))
        files_on tells = subst (λ (paths : List Names). GoesOn site.moment site.left_since mid.site put (FilesStep paths)) outputs_are (crash tells)

        pub put_is_ground : IsGround site there
        put_is_ground = record {
          fresh = begin.is_ground.fresh;
          stands = λ tells none.
              stands_on site.world site.moment site.left_since mid.graph.table mid.site put (FilesStep (paths_of files)) (λ v w step. step.store)
              (λ t u w le left. earlier put t u w tells le left) (crash tells) (store tells) (begin.is_ground.stands tells none);
        }

        stores_put : IsTrue site.tells → (v : World) → site.left_since put (site.moment put) v → IsStoreOf (begun g number) v.store
        stores_put tells =
            stores_now site.world site.moment site.left_since mid.graph.table (begun g number) put (put_is_ground.stands tells (begin.ok done refl).0)
            (subst (IsGraphOf (entries_in mid.graph.table)) (ap (λ (h : Held). h.nodes) mid_is) is_graph)

        beside_now : IsTrue site.tells → SameBeside (outputs_of g number) (site.world old.site).tree (site.world put).tree
        beside_now tells =
            beside_then (outputs_of g number) (site.world old.site).tree (site.world mid.site).tree (site.world put).tree
            (beside_same (outputs_of g number) (site.world old.site).tree (site.world mid.site).tree (begin.tree tells))
            (subst (λ (paths : List Names). SameBeside paths (site.world mid.site).tree (site.world put).tree) outputs_are (beside tells))

        known_now : IsTrue site.tells → Keeps (site.known old.site) (site.known put)
        known_now tells content had = known tells content (subst (λ (k : List Content). IsTrue (knows k content)) (sym (begin.known tells)) had)

        pub put_refused : (failed : SiteFailed) → ((bytes : ℕ) → failed ≡ failed_by.TooLarge bytes → ⊥) → MakesFiles site number run files old (Err (of_site failed)) there
        put_refused failed small = record {
          is_ground = put_is_ground;
          ok = λ d e. absurd (cc);
          made = λ tried tells.
              ⊎_elim (λ kept. absurd (ok_refused (of_site failed) kept.0 kept.1))
              (λ lost. absurd (some_none lost.0 (sym lost.1 ∙ (begin.ok done refl).0))) tried;
          lost = λ commit e. absurd (some_none commit (sym e ∙ (begin.ok done refl).0));
          err = λ fault e none. inr mid_is;
          still = λ commit e by. absurd (some_none commit (sym e ∙ (begin.ok done refl).0));
          full = λ e. absurd (never_full failed (same_fault (of_site failed) board.Full e));
          room = λ d e full. cc;
          small = λ bytes e. small bytes (of_too_large failed bytes (same_fault (of_site failed) (board.TooLarge bytes) e));
          now = λ tells. inr (inl (
            subst (IsStoreOf (begun g number)) (sym (store tells)) (stores tells (site.world mid.site) (present mid.site tells)),
            beside_now tells,
          ));
          crash = λ tells. puts site.moment site.left_since (WasTried run (refusal (of_site failed)) mid.lost) g number run files old.site mid.site put (λ t u w le left. earlier mid.site t u w tells le left) (begin.crash tells) (stores tells) (files_on tells);
          known = known_now;
          torn = λ commit lost. absurd (some_none commit (sym lost ∙ (begin.ok done refl).0));
        }

        -- and its end was kept, or not
        module _ (holds : IsTrue site.tells → HoldsFiles files (site.world put).tree)
            (durable : IsTrue site.tells → PinsTree (site.left_since put (site.moment put)) (site.world put))
            (end : Ground S) (result : Result (Unit {0}) BoardFault)
            (keep : Commits site number (Some run) (finish_edits mid.graph.nodes number run) (finished mid.graph.nodes number run) there result end) where
          either : IsTrue site.tells → LeavesEither site.moment site.left_since put end.site (begun g number) (finished (begun g number) number run)
          either tells = subst (λ (h : GraphState). LeavesEither site.moment site.left_since put end.site h (finished h number run)) (ap (λ (h : Held). h.nodes) mid_is) (keep.crash tells)

          abbrev tried : Type 0
          tried = WasTried run result end.lost

          -- its end was kept, or the commit is lost; else nothing was done
          tried_or_not : tried ⊎ (end.site ≡ put)
          tried_or_not = by result refl end.lost refl
            where
              by : (answer : Result (Unit {0}) BoardFault) → result ≡ answer → (lost : Option Lost) → end.lost ≡ lost → tried ⊎ (end.site ≡ put)
              by (Ok done) is lost lost_is = inl (inl (done, is))
              by (Err fault) is None none = inr (ap (λ (it : Ground S). it.site) (keep.err fault is none))
              by (Err fault) is (Some commit) some = inl (inr (commit, some, (keep.lost commit some).1))

          pub kept : MakesFiles site number run files old result end
          kept = record {
            is_ground = keep.is_ground;
            ok = λ d e. let ok = keep.ok d e in (ok.0, ok.1 ∙ ap (λ (h : Held). after h (finish_edits h.nodes number run) (finished h.nodes number run)) mid_is);
            made = λ tried tells. subst (HoldsFiles files) (sym (keep.tree tells)) (holds tells);
            lost = λ commit e. let is = keep.lost commit e in record { rule = is.0; kept = inr is.1; fault = is.2 };
            err = λ fault e none. inr (ap (λ (it : Ground S). it.graph) (keep.err fault e none) ∙ mid_is);
            still = λ commit e by. ap (λ (n : GraphState). n.seen) (keep.still commit e by) ∙ ap (λ (h : Held). h.nodes.seen) mid_is;
            full = λ e. inr (
              subst (λ (h : Held). IsFull h (finish_edits h.nodes number run)) mid_is (keep.full e),
              ap (λ (it : Ground S). it.graph) (keep.err board.Full e (none_full (Some run) (finish_edits mid.graph.nodes number run) (finished mid.graph.nodes number run) there result end keep e)) ∙ mid_is,
              λ tells. subst (HoldsFiles files) (sym (keep.tree tells)) (holds tells),
            );
            room = λ d e full. ⊎_elim (begin.room done refl) (λ more. keep.room d e (subst (λ (h : Held). IsFull h (finish_edits h.nodes number run)) (sym mid_is) more)) full;
            small = keep.small;
            now = λ tells.
                let tree = keep.tree tells in
                let beside_end = beside_then (outputs_of g number) (site.world old.site).tree (site.world put).tree (site.world end.site).tree (beside_now tells)
                (beside_same (outputs_of g number) (site.world put).tree (site.world end.site).tree tree) in
                ⊎_elim
                (λ was. ⊎_elim (λ began. inr (inl (began, beside_end))) (λ ended. inr (inr (was, (ended, subst (HoldsFiles files) (sym tree) (holds tells), beside_end))))
                ((either tells).only.each (site.world end.site) (now_left put end.site tells (either tells).only.later)))
                (λ stays. inr (inl (
                  subst (λ (s : S). IsStoreOf (begun g number) (site.world s).store) (sym stays) (subst (IsStoreOf (begun g number)) (sym (store tells)) (stores tells (site.world mid.site) (present mid.site tells))),
                  beside_end,
                ))) tried_or_not;
            crash = λ tells.
                ⊎_elim
                (λ was.
                keeps site.moment site.left_since tried g number run files old.site mid.site put (λ t u w le left. earlier mid.site t u w tells le left) (begin.crash tells) (stores tells) (files_on tells)
                was end.site (λ t u w le left. earlier put t u w tells le left) (site.world put).tree (λ v left. durable tells v left) (holds tells) (either tells))
                (λ stays.
                subst (λ (s : S). GoesOn site.moment site.left_since old.site s (MakeStep tried g number run files)) (sym stays)
                (puts site.moment site.left_since tried g number run files old.site mid.site put (λ t u w le left. earlier mid.site t u w tells le left) (begin.crash tells) (stores tells) (files_on tells)))
                tried_or_not;
            known = λ tells content had. subst (λ (k : List Content). IsTrue (knows k content)) (sym (keep.known tells)) (known_now tells content had);
            torn = λ commit lost tells w left.
                lost_last site.moment site.left_since tried g number run files old.site mid.site put (λ t u w le left. earlier mid.site t u w tells le left) (begin.crash tells) (stores tells) (files_on tells)
                (inr (commit, lost, (keep.lost commit lost).1)) end.site (λ t u w le left. earlier put t u w tells le left) (site.world put).tree (λ v left. durable tells v left) (holds tells) (either tells)
                (site.world old.site) (site.world end.site) (stores_put tells) (λ t u w le left. earlier end.site t u w tells le left) w left;
          }

-- ---- whether or not a commit was lost before
pub made_now : {S : Type 0} (site : Site S) (number : ℕ) (run : RunRecord) (files : List (Names × Content)) (old : Ground S) (result : Result (Unit {0}) BoardFault) (new : Ground S) → old.lost ≡ None
    → MakesFiles site number run files old result new → Makes site number run files old result new
made_now site number run files old result new none makes = record {
  idle = λ commit is. absurd (some_none commit (sym is ∙ none));
  makes = λ _. makes;
}

pub made_idle : {S : Type 0} (site : Site S) (number : ℕ) (run : RunRecord) (files : List (Names × Content)) (old : Ground S) (fault : BoardFault) (commit : Lost) → old.lost ≡ Some commit → fault ≡ lost_fault commit
    → Makes site number run files old (Err fault) old
made_idle site number run files old fault commit lost fault_is = record {
  idle = λ other is. (refl, ap refusal (fault_is ∙ ap lost_fault (same_Some _ _ (sym lost ∙ is))));
  makes = λ none. absurd (some_none commit (sym lost ∙ none));
}
