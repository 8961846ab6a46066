-- Whatever a board did, each world that a crash may leave has the sources that were, and holds its own.
use Rattle.std.proofs.Common.{◌≡◌, ◌⊎◌, inl, inr, ℕ, ◌≤◌, Bool, true, false, is_some, IsTrue, List, [], ◌∷◌, ◌++◌, map, Option, None, Some, refl, sym, ap, subst, ◌∙◌, ⊎_elim, zero, cond, not, ◌&&◌, IsSome, All, Ok, slice_index_or, Contains}
use Rattle.std.specs.Prelude.{slice_get}
use Rattle.std.specs.FinMap as finite
use Rattle.std.proofs.lemmas.Bool.{true≢false, false_from_ne_true}
use Rattle.std.proofs.lemmas.Option.{same_Some}
use Rattle.tup_path.specs.Name.{Names, Content}
use Rattle.tup_site.specs.World.{World}
use Rattle.tup_site.specs.declared.site.Site.{Ghosts as Site}
use Rattle.tup_stamp.specs.declared.Stamp.{Stamp}
use Rattle.tup_rule.specs.Rule.{is_generated, writes, among, declares}
use Rattle.tup_rule.specs.declared.rule.Rule.{Rule}
use Rattle.tup_rule.proofs.Laws.{maker-Some, writes-at, among-decides, is_generated-at}
use Rattle.tup_clean.proofs.Among.{is_generated-maker}
use Rattle.tup_runner.specs.Next.{Next}
use Rattle.tup_runner.specs.declared.runner.Runner.{Ghosts as Runner}
use Rattle.tup_record.specs.declared.owned.OwnedState.TheVariants.{Unsure, Written}
use Rattle.tup_record.specs.declared.run.RunRecord.{RunRecord}
use Rattle.tup_graph.specs.declared.owned.Owned.{Owned}
use Rattle.tup_graph.specs.Graph.{GraphState, is_flagged, is_owned, is_created, source}
use Rattle.tup_graph.specs.Kept.{HoldsItsOwn, IsGraphIn, IsKept, file_beside, Asked, HasSeenStamps, IsRuleAt, IsUnflagged}
use Rattle.tup_graph.specs.Records.{Language, IsTrueRun}
use Rattle.tup_graph.specs.Transactions.{begun, finished, maker_of}
use Rattle.tup_access.specs.declared.verdict.Verdict.TheVariants.{Good}
use Rattle.tup_core.specs.declared.event.CoreEvent.TheVariants.{Finish}
use Rattle.tup_core.specs.declared.plan.Plan.{Plan}
use Rattle.tup_core.specs.Run.{IsRun, end_of}
use Rattle.tup_core.specs.Step.{State, is_reached, told}
use Rattle.std.specs.Ordering.{is_eq}
use Rattle.std.specs.Cmp.{nat_cmp_total}
use Rattle.std.proofs.lemmas.Cmp.{tied_itself}
use Rattle.std.specs.List.{IsDistinct}
use Rattle.std.proofs.lemmas.List.Elements.{All-contains, All-contains_itself}
use Rattle.tup_path.specs.Order.{same_path, by_names}
use Rattle.tup_rule.specs.Producer.{DeclaredProducer}
use Rattle.tup_rule.specs.declared.question.Noted.{Noted}
use Rattle.tup_rule.specs.declared.question.Question.{Question}
use Rattle.tup_rule.specs.declared.question.Reading.{Reading}
use Rattle.tup_access.specs.Access.{may_read}
use Rattle.tup_access.specs.declared.verdict.Verdict.{Verdict}
use Rattle.tup_graph.specs.Answers.{tupfile, IsAnswer, IsSource, Readings, Sources}
use Rattle.tup_graph.proofs.Keeping.{wrote_output}
use Rattle.tup_core.specs.Honest.{EndsHonestly, IsHonest}
use Rattle.tup_core.specs.Sound.{HasOneMaker, Stands}
use Rattle.tup_core.proofs.Orderly.{IsOrderly}
use Rattle.tup_core.proofs.Standing.{asks_stand}
use Rattle.tup_rule_outputs.specs.Lost.{Lost}
use Rattle.tup_schedule.proofs.Courses.{end_both}
use Rattle.tup_core.proofs.Entries.{stamps_of_entries}
use Rattle.tup_law_graph.proofs.Edited.{kept_more}
use Rattle.tup_law_board.specs.Kept.{AskStands, CameTo, HoldsTogether}
use Rattle.tup_law_board.proofs.Honestly.{noted_ask, record_true}
use Rattle.tup_board.specs.Board.{BoardState, course_of, plan_of, first_graph, start, state}
use Rattle.tup_board.specs.Come.{HasCome, HasOf, WasToKeep, HasComeTo}
use Rattle.tup_board.specs.Ends.{HasEnded, IsRecordOf, CouldEnd}
use Rattle.tup_board.specs.Images.{HasFileOf, IsImageOver, IsOwnedAs}
use Rattle.tup_board.specs.Outputs.{IsClaimed, Makes, IsPending}
use Rattle.tup_board.specs.Sound.{Before, IsSound}
use Rattle.tup_board.proofs.Coming.{begun_own, flag_here, written_own, finished_run}
use Rattle.tup_board.proofs.Placing.{claimed_reached}
use Rattle.tup_board.proofs.Seated.{orderly, not_to_come}
use Rattle.tup_law_site.specs.Over.{StandsOver}
use Rattle.tup_law_site.proofs.Remaining.{holds_alike, holds_before, is_kept, sources_before}
use Rattle.tup_law_site.proofs.Stores.{in_bytes, one_in_bytes}
use Rattle.tup_law_board.specs.Beside.{StaysBeside}
use Rattle.tup_law_board.proofs.Runs.{run_front, contains_name, files_stay, files_written, honest_at, one_file, pending_gone, run_behind, seen_as, stamp_written}

module _ {S R : Type 0} (site : Site S) (runner : Runner R) (b : BoardState S) (sound : IsSound site runner b) (tells : IsTrue site.tells)
    (next : Next) (language : Language) (known : List Content) (first : World) (since : ℕ) (over : StandsOver site next language known first since b.opening.graph b.opening.site)
    (earlier : (t u : ℕ) (w : World) → t ≤ u → site.left_since b.opening.site u w → site.left_since b.opening.site t w) (present : Before site b (site.world b.opening.site)) where
  abbrev fg : GraphState
  fg = first_graph b

  abbrev plan : Plan
  plan = plan_of b

  -- the graph of the world that was there first
  abbrev was : GraphState
  was = over.kept.now.graph

  fg_kept : IsKept next language known fg
  fg_kept = is_kept site next language known first since b.opening.graph b.opening.site over earlier (site.world b.opening.site) present

  beside_first : (v : World) → Before site b v → (path : Names) → file_beside v fg path ≡ file_beside first was path
  beside_first = sources_before site next language known first since b.opening.graph b.opening.site over earlier

  -- the plan has the rules of the graph
  in_graph : (number : ℕ) (rule : Rule) → slice_get plan.rules number ≡ Some rule → slice_get fg.rules number ≡ Some rule
  in_graph number rule here = ap (λ (rules : List Rule). slice_get rules number) (sym sound.opening.plan.rules) ∙ here

  made_first : (number : ℕ) (path : Names) → (makes : Makes plan number path) → (o : Owned) × (finite.get fg.owned path ≡ Some o) × (o.maker ≡ Some number)
  made_first number path makes = fg_kept.owners.made number makes.rule path (in_graph number makes.rule makes.here) makes.output

  -- an output has one maker
  one_maker : (number other : ℕ) (path : Names) → Makes plan number path → Makes plan other path → number ≡ other
  one_maker number other path mine theirs =
      let ours = made_first number path mine in
      let others = made_first other path theirs in
      let one : ours.0 ≡ others.0 = same_Some ours.0 others.0 (sym ours.1 ∙ others.1) in
      same_Some number other (sym ours.2 ∙ ap (λ (o : Owned). o.maker) one ∙ others.2)

  -- a run that ended, or was to, is one of a rule that is to be run, and names its outputs
  ended_reached : (number : ℕ) (run : RunRecord) → HasEnded plan (start b) b.history number run ⊎ WasToKeep b.lost number run → is_reached plan number ≡ true
  ended_reached number run (inl done) =
      let order = orderly plan (course_of b).files done.before (run_front plan done.before (Finish done.seat Good run.writes ∷ done.after) (start b) (subst (IsRun plan (start b)) done.whole sound.run)) in
      subst (λ (n : ℕ). is_reached plan n ≡ true) done.kept.here (order.reached done.kept.running.rule (order.pending done.seat done.kept.running done.kept.runs.here))
  ended_reached number run (inr lost) =
      subst (λ (n : ℕ). is_reached plan n ≡ true) lost.rule
      ((orderly plan (course_of b).files b.history sound.run).reached lost.commit.rule (sound.lost lost.commit lost.here).pending)

  record_names : (number : ℕ) (rule : Rule) (run : RunRecord) (at : State) (seat : ℕ) → slice_get plan.rules number ≡ Some rule → IsRecordOf plan at seat number run → map (λ (file : Names × Stamp). file.0) run.writes ≡ rule.outputs
  record_names number rule run at seat here is =
      is.writes ∙ ap (λ (r : Rule). r.outputs) (same_Some is.rule rule (sym (ap (slice_get plan.rules) (sym is.here) ∙ is.runs.placed) ∙ here))

  ended_names : (number : ℕ) (rule : Rule) (run : RunRecord) → slice_get plan.rules number ≡ Some rule → HasEnded plan (start b) b.history number run ⊎ WasToKeep b.lost number run
      → map (λ (file : Names × Stamp). file.0) run.writes ≡ rule.outputs
  ended_names number rule run here (inl done) = record_names number rule run (end_of plan (start b) done.before) done.seat here done.kept
  ended_names number rule run here (inr lost) =
      let could = (sound.lost lost.commit lost.here).run run lost.kept in
      record_names number rule run (end_of plan (start b) could.before) could.seat here (subst (λ (n : ℕ). IsRecordOf plan (end_of plan (start b) could.before) could.seat n run) lost.rule could.kept)

  -- an image, beside the world that was first or one that came of it
  module _ (v w : World) (before : Before site b v) (g : GraphState) (image : IsImageOver b v w g) (base : World) (base_free : (path : Names) → (IsClaimed plan (state b) path → ⊥) → HasFileOf first base path)
      (base_flagged : (number : ℕ) (path : Names) → Makes plan number path → is_flagged g number ≡ true → IsOwnedAs g path Unsure ⊎ HasFileOf first base path) where
    -- ---- a path that no rule makes
    module _ (path : Names) (unmade : is_generated plan.rules path ≡ false) where
      unclaimed : IsClaimed plan (state b) path → ⊥
      unclaimed (number, claimed, makes) = true≢false (sym makes.output ∙ writes-at plan.rules path number makes.rule unmade makes.here)

      free_file : finite.get w.tree path ≡ finite.get v.tree path
      free_file = image.others path unclaimed

      free_owned : finite.get g.owned path ≡ finite.get fg.owned path
      free_owned = image.come.beside.owned path unmade

      free_sources : file_beside w g path ≡ file_beside v fg path
      free_sources = λ i. elim (is_some (free_owned i)) [ true ↦ None | false ↦ free_file i ]

      free_own : (o : Owned) → finite.get g.owned path ≡ Some o → HoldsItsOwn base w path o
      free_own o is =
          holds_alike first base v w path o o (base_free path unclaimed) free_file refl
          (holds_before site next language known first since b.opening.graph b.opening.site over earlier v before path o (sym free_owned ∙ is))

    -- ---- an output of a rule
    module _ (number : ℕ) (path : Names) (makes : Makes plan number path) where
      abbrev rule : Rule
      rule = makes.rule

      here : slice_get fg.rules number ≡ Some rule
      here = in_graph number rule makes.here

      come : HasCome b g number rule
      come = image.come.each number rule makes.here

      owned_first : is_owned fg path ≡ true
      owned_first = ap is_some (made_first number path makes).1

      owned_now : is_owned g path ≡ true
      owned_now = by come
        where
          by : HasCome b g number rule → is_owned g path ≡ true
          by (inl has) = ap is_some (has.owned path makes.output) ∙ owned_first
          by (inr (inl has)) = ap is_some (has.1.owned path makes.output ∙ begun_own fg number rule here path makes.output)
          by (inr (inr (run, ends, has))) =
              ap is_some (has.owned path makes.output ∙ (written_own fg number rule here run (ended_names number rule run makes.here ends) path makes.output).2)

      -- a source is it in neither
      made_sources : file_beside w g path ≡ file_beside v fg path
      made_sources =
          ap (λ (o : Bool). elim o [ true ↦ None | false ↦ finite.get w.tree path ]) owned_now
          ∙ sym (ap (λ (o : Bool). elim o [ true ↦ None | false ↦ finite.get v.tree path ]) owned_first)

      -- as it was
      stays : (o : Owned) → finite.get g.owned path ≡ Some o → HasOf fg g number rule → HasFileOf v w path → HasFileOf first base path → HoldsItsOwn base w path o
      stays o is has file based =
          holds_alike first base v w path o o based file refl
          (holds_before site next language known first since b.opening.graph b.opening.site over earlier v before path o (sym (has.owned path makes.output) ∙ is))

      -- its run had begun
      unsure : (o : Owned) → finite.get g.owned path ≡ Some o → HasOf (begun fg number) g number rule → HoldsItsOwn base w path o
      unsure o is has = inl (ap (λ (x : Owned). x.state) (same_Some o _ (sym is ∙ has.owned path makes.output ∙ begun_own fg number rule here path makes.output)))

      -- it is open what stands there
      begins : (o : Owned) → finite.get g.owned path ≡ Some o → IsOwnedAs g path Unsure → HoldsItsOwn base w path o
      begins o is began = inl (ap (λ (x : Owned). x.state) (same_Some o began.owned (sym is ∙ began.here)) ∙ began.state)

      while_flagged : (o : Owned) → finite.get g.owned path ≡ Some o → is_flagged g number ≡ true → HasCome b g number rule → IsOwnedAs g path Unsure ⊎ HasFileOf v w path
          → IsOwnedAs g path Unsure ⊎ HasFileOf first base path → HoldsItsOwn base w path o
      while_flagged o is flagged has (inl began) based = begins o is began
      while_flagged o is flagged has (inr file) (inl began) = begins o is began
      while_flagged o is flagged (inl has) (inr file) (inr based) = stays o is has file based
      while_flagged o is flagged (inr (inl has)) (inr file) (inr based) = unsure o is has.1
      while_flagged o is flagged (inr (inr (run, ends, has))) (inr file) (inr based) =
          absurd (true≢false (sym flagged ∙ has.flag ∙ flag_here fg number rule here run (ended_names number rule run makes.here ends)))

      -- a rule that wasn't to be run
      not_to_run : (o : Owned) → finite.get g.owned path ≡ Some o → is_reached plan number ≡ false → HasCome b g number rule → HoldsItsOwn base w path o
      not_to_run o is off (inl has) = stays o is has (image.others path unclaimed_here) (base_free path unclaimed_here)
        where
          unclaimed_here : IsClaimed plan (state b) path → ⊥
          unclaimed_here (other, claimed, theirs) =
              true≢false (sym (claimed_reached site runner b sound other claimed) ∙ ap (is_reached plan) (sym (one_maker number other path makes theirs)) ∙ off)
      not_to_run o is off (inr (inl has)) = unsure o is has.1
      not_to_run o is off (inr (inr (run, ends, has))) = absurd (true≢false (sym (ended_reached number run ends) ∙ off))

      made_own : (o : Owned) → finite.get g.owned path ≡ Some o → HoldsItsOwn base w path o
      made_own o is = by (is_flagged g number) refl (is_reached plan number) refl
        where
          by : (flagged : Bool) → is_flagged g number ≡ flagged → (reached : Bool) → is_reached plan number ≡ reached → HoldsItsOwn base w path o
          by true flagged reached within = while_flagged o is flagged come (image.unmade number path makes flagged) (base_flagged number path makes flagged)
          by false flagged true within =
              let holds = image.made number path makes within flagged in
              inr (inr (holds.seen, ap (λ (x : Owned). x.state) (same_Some o holds.written.owned (sym is ∙ holds.written.here)) ∙ holds.written.state, holds.holds))
          by false flagged false within = not_to_run o is within come

    made_by : (path : Names) → is_generated plan.rules path ≡ true → (number : ℕ) × Makes plan number path
    made_by path is =
        let found = is_generated-maker plan.rules path is in
        let it = maker-Some plan.rules path found.0 found.1 in
        (found.0, record { rule = it.rule; here = it.here; output = it.writes_it })

    image_sources : (path : Names) → file_beside w g path ≡ file_beside first was path
    image_sources path = by (is_generated plan.rules path) refl ∙ beside_first v before path
      where
        by : (made : Bool) → is_generated plan.rules path ≡ made → file_beside w g path ≡ file_beside v fg path
        by true is = (let it = made_by path is in made_sources it.0 path it.1)
        by false is = free_sources path is

    pub image_own : (path : Names) (o : Owned) → finite.get g.owned path ≡ Some o → HoldsItsOwn base w path o
    image_own path o owned = by (is_generated plan.rules path) refl
      where
        by : (made : Bool) → is_generated plan.rules path ≡ made → HoldsItsOwn base w path o
        by true is = (let it = made_by path is in made_own it.0 path it.1 o owned)
        by false is = free_own path is o owned

  pub image_stays : (v w : World) → Before site b v → (g : GraphState) → IsImageOver b v w g → (k : GraphState) → IsGraphIn w.store k → StaysBeside first was w k
  image_stays v w before g image k reads =
      subst (StaysBeside first was w) (one_in_bytes w.store g k (in_bytes g w.store image.store) reads)
      (record {
        sources = image_sources v w before g image first (λ path free. refl) (λ number path makes flagged. inr refl);
        own = image_own v w before g image first (λ path free. refl) (λ number path makes flagged. inr refl);
      })

  -- ---- the graph of an image is kept
  module _ (more : List Content) (also : (content : Content) → Contains known content → Contains more content) (honest : IsHonest next more plan (start b) b.history)
      (lost_honest : (commit : Lost) → b.lost ≡ Some commit → (run : RunRecord) → commit.run ≡ Some run → CouldEnd plan (start b) b.history commit.rule run (Unit {0}) (EndsHonestly next more))
      (held : HoldsTogether b) (g : GraphState) (come : HasComeTo b g) where
    fk : IsKept next language more fg
    fk = kept_more known more also next language fg fg_kept

    abbrev files_now : Names → Option Stamp
    files_now path = (state b).files path

    reach_is : (number : ℕ) → is_reached plan number ≡ is_flagged fg number
    reach_is = sound.opening.plan.reach

    one : HasOneMaker plan
    one = sound.opening.apart.one_maker

    -- ---- the command of a rule that ended, or was to
    came : (number : ℕ) (run : RunRecord) → HasEnded plan (start b) b.history number run ⊎ WasToKeep b.lost number run → CameTo b next more number run
    came number run (inl done) = record {
      front = done.before;
      back = Finish done.seat Good run.writes ∷ done.after;
      whole = done.whole;
      seat = done.seat;
      kept = done.kept;
      ends = subst (λ (denied : Option (List ℕ × Verdict)). EndsHonestly next more done.kept.rule done.kept.running denied Good run.writes) done.kept.granted
          (honest_at next more plan done.before done.after done.seat Good run.writes (start b) (subst (IsHonest next more plan (start b)) done.whole honest) done.kept.running done.kept.rule done.kept.runs);
    }
    came number run (inr lost) =
        let could = lost_honest lost.commit lost.here run lost.kept in
        record {
          front = could.before;
          back = could.after;
          whole = could.whole;
          seat = could.seat;
          kept = record {
            running = could.kept.running;
            rule = could.kept.rule;
            runs = could.kept.runs;
            here = could.kept.here ∙ lost.rule;
            granted = could.kept.granted;
            asks = could.kept.asks;
            writes = could.kept.writes;
          };
          ends = could.ended tt;
        }

    module _ (number : ℕ) (rule : Rule) (here : slice_get plan.rules number ≡ Some rule) (run : RunRecord) (c : CameTo b next more number run) where
      abbrev mid : State
      mid = end_of plan (start b) c.front

      rule_is : c.kept.rule ≡ rule
      rule_is = same_Some c.kept.rule rule (sym (ap (slice_get plan.rules) (sym c.kept.here) ∙ c.kept.runs.placed) ∙ here)

      run_all : IsRun plan (start b) (c.front ++ c.back)
      run_all = subst (IsRun plan (start b)) c.whole sound.run

      run_to : IsRun plan (start b) c.front
      run_to = run_front plan c.front c.back (start b) run_all

      run_on : IsRun plan mid c.back
      run_on = run_behind plan c.front c.back (start b) run_all

      ordered : IsOrderly plan mid
      ordered = orderly plan (course_of b).files c.front run_to

      end_is : state b ≡ end_of plan mid c.back
      end_is = ap (end_of plan (start b)) c.whole ∙ end_both plan c.front c.back (start b)

      asks_were : All (Stands plan mid c.kept.rule) c.kept.running.asks
      asks_were = asks_stand plan (course_of b).files c.front one run_to c.seat c.kept.running c.kept.rule c.kept.runs

      told_else : (path : Names) → writes c.kept.rule path ≡ false → told c.kept.rule mid path ≡ mid.files path
      told_else path other = rw other refl

      -- what it asked, own outputs aside, it might read, and it was told the stamp that stands to this day; its makers wait no more
      asked_stands : (path : Names) (given : Option Stamp) → Contains run.asks (path, given) → writes rule path ≡ false → AskStands b rule path given
      asked_stands path given there other =
          let found = noted_ask c.kept.rule.dir c.kept.running.asks run.asks (path, given) c.kept.asks there in
          let stand = All-contains (Stands plan mid c.kept.rule) c.kept.running.asks found.0 asks_were found.1 in
          let both : Ok stand.path ≡ Ok path = sym stand.named ∙ found.2 in
          let same : stand.path ≡ path = cc in
          let foreign : writes c.kept.rule path ≡ false = ap (λ (r : Rule). writes r path) rule_is ∙ other in
          let readable : may_read plan.rules c.kept.rule path ≡ true = ap (may_read plan.rules c.kept.rule) (sym same) ∙ stand.readable in
          let free = not_to_come plan (course_of b).files c.front run_to one c.seat c.kept.running c.kept.rule path c.kept.runs readable foreign in
          let value : given ≡ mid.files path = found.3 ∙ stand.same ∙ ap (told c.kept.rule mid) same ∙ told_else path foreign in
          record {
            readable = ap (λ (r : Rule). may_read plan.rules r path) (sym rule_is) ∙ readable;
            stamp = value ∙ sym (ap (λ (s : State). s.files path) end_is ∙ files_stay plan path c.back mid ordered run_on free);
            done = λ m makes. ap (λ (s : State). s.pending m) end_is ∙ pending_gone plan c.back mid m run_on (not_pending m makes free (mid.pending m) refl);
          }
        where
          not_pending : (m : ℕ) → Makes plan m path → (IsPending plan mid path → ⊥) → (waits : Bool) → mid.pending m ≡ waits → waits ≡ false
          not_pending m makes free true waits = absurd (free (m, waits, makes))
          not_pending m makes free false waits = refl

      true_run : IsTrueRun next more rule run
      true_run =
          subst (λ (r : Rule). IsTrueRun next more r run) rule_is
          (record_true plan (course_of b).files c.front one run_to next more c.seat number run c.kept c.ends)

      names : map (λ (file : Names × Stamp). file.0) run.writes ≡ rule.outputs
      names = c.kept.writes ∙ ap (λ (r : Rule). r.outputs) rule_is

      distinct : IsDistinct same_path (map (λ (file : Names × Stamp). file.0) run.writes)
      distinct = subst (IsDistinct same_path) (sym names) (held.once number rule here)

      wrote_own : (file : Names × Stamp) → Contains run.writes file → writes rule file.0 ≡ true
      wrote_own file there = ap (among file.0) (sym names) ∙ (among-decides file.0 (map (λ (f : Names × Stamp). f.0) run.writes)).1 (contains_name run.writes file there)

      -- what it wrote, in a graph that has its end
      seen_ended : HasOf (finished fg number run) g number rule → (file : Names × Stamp) → Contains run.writes file → finite.get g.seen file.0 ≡ Some file.1
      seen_ended has file there =
          let own = wrote_own file there in
          let found = stamp_written run.writes (λ (p : Names). finite.get fg.seen p) file.0 (ap (among file.0) names ∙ own) in
          let same = one_file run.writes distinct found.0 file found.1 there found.2 in
          has.seen file.0 own ∙ seen_as run.writes fg.seen file.0 ∙ found.3 ∙ ap (λ (f : Names × Stamp). Some f.1) same

      owned_ended : HasOf (finished fg number run) g number rule → (file : Names × Stamp) → Contains run.writes file → (o : Owned) × (finite.get g.owned file.0 ≡ Some o) × (o.state ≡ Written file.1)
      owned_ended has file there =
          let own = wrote_own file there in
          let found = written_own fg number rule (in_graph number rule here) run names file.0 own in
          let same = one_file run.writes distinct found.0 file found.3 there found.1 in
          (record { maker = maker_of fg number found.0.0; state = Written found.0.1 }, has.owned file.0 own ∙ found.2, ap (λ (f : Names × Stamp). Written f.1) same)

    -- a file that a rule which ended wrote is the core's
    file_ended : (number : ℕ) (run : RunRecord) (done : HasEnded plan (start b) b.history number run) (rule : Rule) → slice_get plan.rules number ≡ Some rule
        → (file : Names × Stamp) → Contains run.writes file → files_now file.0 ≡ Some file.1
    unfolding came
    file_ended number run done rule here file there =
        let c = came number run (inl done) in
        let mid_is = mid number rule here run c in
        let own = wrote_own number rule here run c file there in
        let found = stamp_written run.writes mid_is.files file.0 (ap (among file.0) (names number rule here run c) ∙ own) in
        let same = one_file run.writes (distinct number rule here run c) found.0 file found.1 there found.2 in
        ap (λ (s : State). s.files file.0) (end_is number rule here run c)
        ∙ files_written plan file.0 done.after mid_is done.seat done.kept.running done.kept.rule run.writes (ordered number rule here run c) done.kept.runs (run_on number rule here run c) only
        ∙ found.3 ∙ ap (λ (f : Names × Stamp). Some f.1) same
      where
        only : (other : ℕ) → Makes plan other file.0 → other ≡ done.kept.running.rule
        only other theirs =
            one_maker other number file.0 theirs (record { rule = rule; here = here; output = wrote_own number rule here run (came number run (inl done)) file there }) ∙ sym done.kept.here

    -- ---- flags
    at_start : (path : Names) → (start b).files path ≡ finite.get fg.seen path
    at_start path = stamps_of_entries fg.seen path

    start_stays : (path : Names) → ((m : ℕ) → Makes plan m path → is_reached plan m ≡ false) → files_now path ≡ finite.get fg.seen path
    start_stays path unmade =
        files_stay plan path b.history (start b) (orderly plan (course_of b).files [] tt) sound.run (λ pending. true≢false (sym pending.1 ∙ unmade pending.0 pending.2)) ∙ at_start path

    claimed_flagged : (number : ℕ) → (state b).claimed number ≡ true → is_flagged fg number ≡ true
    claimed_flagged number claimed = sym (reach_is number) ∙ claimed_reached site runner b sound number claimed

    unreached : (number : ℕ) → is_flagged fg number ≡ false → is_reached plan number ≡ false
    unreached number off = reach_is number ∙ off

    module _ (number : ℕ) (rule : Rule) (here : slice_get plan.rules number ≡ Some rule) where
      has_come : HasCome b g number rule
      has_come = come.each number rule here

      ended_off : (run : RunRecord) → HasEnded plan (start b) b.history number run ⊎ WasToKeep b.lost number run → HasOf (finished fg number run) g number rule → is_flagged g number ≡ false
      ended_off run ends has = has.flag ∙ flag_here fg number rule (in_graph number rule here) run (ended_names number rule run here ends)

      flagged_before : is_flagged g number ≡ true → is_flagged fg number ≡ true
      flagged_before flagged = by has_come
        where
          by : HasCome b g number rule → is_flagged fg number ≡ true
          by (inl has) = sym has.flag ∙ flagged
          by (inr (inl has)) = sym has.1.flag ∙ flagged
          by (inr (inr (run, ends, has))) = absurd (true≢false (sym flagged ∙ ended_off run ends has))

      -- a rule that isn't flagged wasn't, and has what it had; or it ended
      abbrev IsAsItWas : Type 0
      IsAsItWas = (is_flagged fg number ≡ false) × HasOf fg g number rule

      abbrev HasCameTo : Type 0
      HasCameTo = (run : RunRecord) × (HasEnded plan (start b) b.history number run ⊎ WasToKeep b.lost number run) × HasOf (finished fg number run) g number rule

      off_by : is_flagged g number ≡ false → IsAsItWas ⊎ HasCameTo
      off_by off = by has_come
        where
          by : HasCome b g number rule → IsAsItWas ⊎ HasCameTo
          by (inl has) = inl (sym has.flag ∙ off, has)
          by (inr (inl has)) = absurd (true≢false (sym (claimed_flagged number has.0) ∙ sym has.1.flag ∙ off))
          by (inr (inr ended)) = inr ended

      -- its record is what it was, unless it ended
      record_by : (run : RunRecord) → finite.get g.runs number ≡ Some run → ((finite.get fg.runs number ≡ Some run) × (is_flagged g number ≡ is_flagged fg number)) ⊎ ((run_now : RunRecord) × (run_now ≡ run)
          × (HasEnded plan (start b) b.history number run_now ⊎ WasToKeep b.lost number run_now) × HasOf (finished fg number run_now) g number rule)
      record_by run ran = by has_come
        where
          by : HasCome b g number rule → ((finite.get fg.runs number ≡ Some run) × (is_flagged g number ≡ is_flagged fg number)) ⊎ ((run_now : RunRecord) × (run_now ≡ run)
              × (HasEnded plan (start b) b.history number run_now ⊎ WasToKeep b.lost number run_now) × HasOf (finished fg number run_now) g number rule)
          by (inl has) = inl (sym has.run ∙ ran, has.flag)
          by (inr (inl has)) = inl (sym has.1.run ∙ ran, has.1.flag)
          by (inr (inr (run_now, ends, has))) = inr (run_now, same_Some run_now run (sym (has.run ∙ run_put) ∙ ran), ends, has)
            where
              run_put : finite.get (finished fg number run_now).runs number ≡ Some run_now
              run_put = finished_run fg number rule (in_graph number rule here) run_now (ended_names number rule run_now here ends) number ∙ ap (λ (same : Bool). cond same (Some run_now) (finite.get fg.runs number)) (ap is_eq (tied_itself nat_cmp_total number))

      -- the stamp of an output of a rule that isn't flagged, and waits no more, is that of the core's file
      seen_done : (path : Names) → writes rule path ≡ true → is_flagged g number ≡ false → (state b).pending number ≡ false → finite.get g.seen path ≡ files_now path
      seen_done path own off done = by (off_by off)
        where
          by : IsAsItWas ⊎ HasCameTo → finite.get g.seen path ≡ files_now path
          by (inl (was, has)) = has.seen path own ∙ sym (start_stays path (λ m makes. ap (is_reached plan) (one_maker m number path makes (record { rule = rule; here = here; output = own })) ∙ unreached number was))
          by (inr (run, inl ended, has)) =
              let c = came number run (inl ended) in
              let found = stamp_written run.writes (λ (p : Names). finite.get fg.seen p) path (ap (among path) (names number rule here run c) ∙ own) in
              ap (finite.get g.seen) (sym found.2) ∙ seen_ended number rule here run c has found.0 found.1 ∙ sym (file_ended number run ended rule here found.0 found.1) ∙ ap files_now found.2
          by (inr (run, inr lost, has)) = absurd (true≢false (sym (sound.lost lost.commit lost.here).pending ∙ ap (state b).pending lost.rule ∙ done))

    -- ---- what is seen
    maker_by : (path : Names) → is_generated plan.rules path ≡ true → (number : ℕ) × Makes plan number path
    maker_by path is =
        let found = is_generated-maker plan.rules path is in
        let it = maker-Some plan.rules path found.0 found.1 in
        (found.0, record { rule = it.rule; here = it.here; output = it.writes_it })

    -- a maker of a path that a rule may read, and doesn't write, is declared by it
    declared_maker : (rule : Rule) (path : Names) (m : ℕ) → Makes plan m path → may_read plan.rules rule path ≡ true → writes rule path ≡ false → (declares rule path ≡ true) × DeclaredProducer plan.rules rule m
    declared_maker rule path m makes readable foreign =
        let any = is_generated-at plan.rules path m makes.rule makes.here makes.output in
        let found = is_generated-maker plan.rules path any in
        let it = maker-Some plan.rules path found.0 found.1 in
        let same = one_maker found.0 m path (record { rule = it.rule; here = it.here; output = it.writes_it }) makes in
        let declared = must_declare (is_generated plan.rules path) (declares rule path) (writes rule path) any foreign readable in
        (declared, (zero, (path, declared, found.1 ∙ ap Some same)))
      where
        must_declare : (generated declared own : Bool) → generated ≡ true → own ≡ false → not (generated && not declared && not own) ≡ true → declared ≡ true
        must_declare true true own g o r = refl
        must_declare true false true g o r = absurd (true≢false o)
        must_declare true false false g o r = absurd (true≢false (sym r))
        must_declare false declared own g o r = absurd (true≢false (sym g))

    -- a rule that ended: what it asked is seen so
    ended_asked : (number : ℕ) (rule : Rule) (here : slice_get plan.rules number ≡ Some rule) (run : RunRecord) (ends : HasEnded plan (start b) b.history number run ⊎ WasToKeep b.lost number run)
        → HasOf (finished fg number run) g number rule → (path : Names) (given : Option Stamp) → Contains run.asks (path, given) → writes rule path ≡ false → given ≡ finite.get g.seen path
    ended_asked number rule here run ends has path given there other = by (is_generated plan.rules path) refl
      where
        stands : AskStands b rule path given
        stands = asked_stands number rule here run (came number run ends) path given there other

        by : (made : Bool) → is_generated plan.rules path ≡ made → given ≡ finite.get g.seen path
        by false unmade =
            stands.stamp ∙ start_stays path (λ m makes. absurd (true≢false (sym makes.output ∙ writes-at plan.rules path m makes.rule unmade makes.here))) ∙ sym (come.beside.seen path unmade)
        by true made =
            let it = maker_by path made in
            let producer = (declared_maker rule path it.0 it.1 stands.readable other).1 in
            let off = come.producers number it.0 rule here (ended_reached number run ends) (ended_off number rule here run ends has) producer in
            stands.stamp ∙ sym (seen_done it.0 it.1.rule it.1.here path it.1.output off (stands.done it.0 it.1))

    -- a rule as it was: what it asked is seen as it was
    was_asked : (number : ℕ) (rule : Rule) (here : slice_get plan.rules number ≡ Some rule) (run : RunRecord) → is_flagged fg number ≡ false → finite.get fg.runs number ≡ Some run
        → (path : Names) (given : Option Stamp) → Asked rule run path given → finite.get g.seen path ≡ finite.get fg.seen path
    was_asked number rule here run was ran path given asked = by (is_generated plan.rules path) refl
      where
        by_maker : (m : ℕ) → (makes : Makes plan m path) → HasCome b g m makes.rule → finite.get g.seen path ≡ finite.get fg.seen path
        by_maker m makes (inl has) = has.seen path makes.output
        by_maker m makes (inr (inl has)) = has.1.seen path makes.output
        by_maker m makes (inr (inr (ended, ends, has))) =
            absurd (true≢false (sym (fk.agrees.upward m number makes.rule rule run path given (in_graph m makes.rule makes.here) (sym (reach_is m) ∙ ended_reached m ended ends)
            (in_graph number rule here) ran asked.0 makes.output) ∙ was))

        by : (made : Bool) → is_generated plan.rules path ≡ made → finite.get g.seen path ≡ finite.get fg.seen path
        by false unmade = come.beside.seen path unmade
        by true made = (let it = maker_by path made in by_maker it.0 it.1 (come.each it.0 it.1.rule it.1.here))

    -- ---- the clauses
    in_plan : (number : ℕ) (rule : Rule) → IsRuleAt g number rule → slice_get plan.rules number ≡ Some rule
    in_plan number rule here = ap (λ (rules : List Rule). slice_get rules number) (sound.opening.plan.rules ∙ sym come.beside.rules) ∙ here

    true_runs : (number : ℕ) (rule : Rule) (run : RunRecord) → IsRuleAt g number rule → finite.get g.runs number ≡ Some run → IsTrueRun next more rule run
    true_runs number rule run here ran =
        ⊎_elim (λ was. fk.records.runs number rule run (in_graph number rule (in_plan number rule here)) was.0)
        (λ ended. subst (IsTrueRun next more rule) ended.1 (true_run number rule (in_plan number rule here) ended.0 (came number ended.0 ended.2)))
        (record_by number rule (in_plan number rule here) run ran)

    unflagged_was : (number : ℕ) (rule : Rule) → IsUnflagged g number rule → is_flagged fg number ≡ false → IsUnflagged fg number rule
    unflagged_was number rule is was = record { here = in_graph number rule (in_plan number rule is.here); unflagged = was }

    has_record : (number : ℕ) (rule : Rule) → IsUnflagged g number rule → IsSome (finite.get g.runs number)
    has_record number rule is = by (off_by number rule (in_plan number rule is.here) is.unflagged)
      where
        by : IsAsItWas number rule (in_plan number rule is.here) ⊎ HasCameTo number rule (in_plan number rule is.here) → IsSome (finite.get g.runs number)
        by (inl (was, has)) = subst IsSome (sym has.run) (fk.recorded number rule (unflagged_was number rule is was))
        by (inr (run, ends, has)) =
            subst IsSome (sym (has.run ∙ finished_run fg number rule (in_graph number rule (in_plan number rule is.here)) run (ended_names number rule run (in_plan number rule is.here) ends) number
            ∙ ap (λ (same : Bool). cond same (Some run) (finite.get fg.runs number)) (ap is_eq (tied_itself nat_cmp_total number)))) refl

    seen_stamps : (number : ℕ) (rule : Rule) (run : RunRecord) → IsUnflagged g number rule → finite.get g.runs number ≡ Some run → HasSeenStamps g rule run
    seen_stamps number rule run is ran = by (record_by number rule there run ran)
      where
        there : slice_get plan.rules number ≡ Some rule
        there = in_plan number rule is.here

        own_seen : (has : HasOf fg g number rule) → (file : Names × Stamp) → writes rule file.0 ≡ true → finite.get fg.seen file.0 ≡ Some file.1 → finite.get g.seen file.0 ≡ Some file.1
        own_seen has file own was = has.seen file.0 own ∙ was

        was_off : is_flagged g number ≡ is_flagged fg number → is_flagged fg number ≡ false
        was_off same = sym same ∙ is.unflagged

        as_was : finite.get fg.runs number ≡ Some run → is_flagged fg number ≡ false → HasOf fg g number rule → HasSeenStamps g rule run
        as_was was off has =
            let k = fk.agrees.stamps number rule run (unflagged_was number rule is off) was in
            record {
              asked = λ path given asked. k.asked path given asked ∙ sym (was_asked number rule there run off was path given asked);
              wrote = λ at d less.
                  (let file = slice_index_or run.writes at d in
                  own_seen has file (wrote_output next language more fg fk number rule run file (in_graph number rule there) was (All-contains_itself run.writes at d less)) (k.wrote at d less));
            }

        by : ((finite.get fg.runs number ≡ Some run) × (is_flagged g number ≡ is_flagged fg number)) ⊎ ((run_now : RunRecord) × (run_now ≡ run)
            × (HasEnded plan (start b) b.history number run_now ⊎ WasToKeep b.lost number run_now) × HasOf (finished fg number run_now) g number rule) → HasSeenStamps g rule run
        by (inl (was, same)) = kind (off_by number rule there is.unflagged)
          where
            kind : IsAsItWas number rule there ⊎ HasCameTo number rule there → HasSeenStamps g rule run
            kind (inl (off, has)) = as_was was off has
            kind (inr (ended, ends, has)) = absurd (true≢false (sym (sym (reach_is number) ∙ ended_reached number ended ends) ∙ was_off same))
        by (inr (ended, same, ends, has)) =
            subst (HasSeenStamps g rule) same (record {
              asked = λ path given asked. ended_asked number rule there ended ends has path given asked.0 asked.1;
              wrote = λ at d less.
                  (let file = slice_index_or ended.writes at d in seen_ended number rule there ended (came number ended ends) has file (All-contains_itself ended.writes at d less));
            })

    -- ---- who owns what
    -- an output is owned by its rule, in some state
    owned_by : (number : ℕ) (rule : Rule) → slice_get plan.rules number ≡ Some rule → (path : Names) → writes rule path ≡ true → (o : Owned) × (finite.get g.owned path ≡ Some o) × (o.maker ≡ Some number)
    owned_by number rule here path own = by (come.each number rule here)
      where
        first_owner : (o : Owned) × (finite.get fg.owned path ≡ Some o) × (o.maker ≡ Some number)
        first_owner = made_first number path (record { rule = rule; here = here; output = own })

        maker_is : maker_of fg number path ≡ Some number
        maker_is = ap (λ (found : Option Owned). elim found [ Some owned ↦ owned.maker | None ↦ Some number ]) first_owner.1 ∙ first_owner.2

        by : HasCome b g number rule → (o : Owned) × (finite.get g.owned path ≡ Some o) × (o.maker ≡ Some number)
        by (inl has) = (first_owner.0, has.owned path own ∙ first_owner.1, first_owner.2)
        by (inr (inl has)) = (record { maker = maker_of fg number path; state = Unsure }, has.1.owned path own ∙ begun_own fg number rule (in_graph number rule here) path own, maker_is)
        by (inr (inr (run, ends, has))) =
            let found = written_own fg number rule (in_graph number rule here) run (ended_names number rule run here ends) path own in
            (record { maker = maker_of fg number found.0.0; state = Written found.0.1 }, has.owned path own ∙ found.2, ap (maker_of fg number) found.1 ∙ maker_is)

    owned_alike : (path : Names) → is_owned g path ≡ is_owned fg path
    owned_alike path = by (is_generated plan.rules path) refl
      where
        by : (made : Bool) → is_generated plan.rules path ≡ made → is_owned g path ≡ is_owned fg path
        by false unmade = ap is_some (come.beside.owned path unmade)
        by true made =
            let it = maker_by path made in
            ap is_some (owned_by it.0 it.1.rule it.1.here path it.1.output).1 ∙ sym (ap is_some (made_first it.0 path it.1).1)

    makers : (path : Names) (owned : Owned) (number : ℕ) → finite.get g.owned path ≡ Some owned → owned.maker ≡ Some number → (rule : Rule) × IsRuleAt g number rule × (writes rule path ≡ true)
    makers path owned number is made = by (is_generated plan.rules path) refl
      where
        back : (number : ℕ) (rule : Rule) → slice_get fg.rules number ≡ Some rule → IsRuleAt g number rule
        back number rule here = ap (λ (rules : List Rule). slice_get rules number) come.beside.rules ∙ here

        by : (gen : Bool) → is_generated plan.rules path ≡ gen → (rule : Rule) × IsRuleAt g number rule × (writes rule path ≡ true)
        by false unmade =
            let was = fk.owners.makers path owned number (sym (come.beside.owned path unmade) ∙ is) made in
            (was.0, back number was.0 was.1, was.2)
        by true gen =
            let it = maker_by path gen in
            let mine = owned_by it.0 it.1.rule it.1.here path it.1.output in
            let same : it.0 ≡ number = same_Some it.0 number (sym mine.2 ∙ ap (λ (o : Owned). o.maker) (same_Some mine.0 owned (sym mine.1 ∙ is)) ∙ made) in
            (it.1.rule, subst (λ (n : ℕ). IsRuleAt g n it.1.rule) same (back it.0 it.1.rule (in_graph it.0 it.1.rule it.1.here)), it.1.output)

    -- ---- sources
    seen_beside : (path : Names) → is_owned fg path ≡ false → finite.get g.seen path ≡ finite.get fg.seen path
    seen_beside path unowned = by (is_generated plan.rules path) refl
      where
        by : (made : Bool) → is_generated plan.rules path ≡ made → finite.get g.seen path ≡ finite.get fg.seen path
        by false unmade = come.beside.seen path unmade
        by true made = (let it = maker_by path made in absurd (true≢false (sym (ap is_some (made_first it.0 path it.1).1) ∙ unowned)))

    source_alike : (path : Names) → source g path ≡ source fg path
    source_alike path = ap (λ (o : Bool). cond o None (finite.get g.seen path)) (owned_alike path) ∙ by (is_owned fg path) refl
      where
        by : (o : Bool) → is_owned fg path ≡ o → cond o None (finite.get g.seen path) ≡ cond (is_owned fg path) None (finite.get fg.seen path)
        by true own = sym (ap (λ (o : Bool). cond o None (finite.get fg.seen path)) own)
        by false other = seen_beside path other ∙ sym (ap (λ (o : Bool). cond o None (finite.get fg.seen path)) other)

    sources_alike : source g ≡ source fg
    sources_alike = λ i path. source_alike path i

    readings_are : g.readings ≡ fg.readings
    readings_are = come.beside.readings

    created_before : (dir : Names) → is_created g dir ≡ false → is_created fg dir ≡ false
    created_before dir off = ap (λ (m : finite.FinMap by_names (Unit {0})). finite.contains_key m dir) (sym come.beside.created) ∙ off

    reading_there : (dir : Names) (reading : Reading) → finite.get g.readings dir ≡ Some reading → finite.get fg.readings dir ≡ Some reading
    reading_there dir reading is = ap (λ (r : Readings). finite.get r dir) (sym readings_are) ∙ is

    read_still : (dir : Names) → IsSource (source g) (tupfile dir) → is_created g dir ≡ false → IsSome (finite.get g.readings dir)
    read_still dir there off =
        subst (λ (r : Readings). IsSome (finite.get r dir)) (sym readings_are) (fk.agrees.read dir (subst (λ (s : Sources). IsSource s (tupfile dir)) sources_alike there) (created_before dir off))

    told_still : (dir : Names) (reading : Reading) → finite.get g.readings dir ≡ Some reading → is_created g dir ≡ false
        → All (λ (one : Question × Noted). IsAnswer more (source g) g.readings dir one.0 one.1) reading.asked
    told_still dir reading is off =
        subst (λ (s : Sources × Readings). All (λ (one : Question × Noted). IsAnswer more s.0 s.1 dir one.0 one.1) reading.asked) (λ i. (sym sources_alike i, sym readings_are i))
        (fk.agrees.told dir reading (reading_there dir reading is) (created_before dir off))

    -- ---- what is asked of outputs
    upward : (number other : ℕ) (rule reader : Rule) (run : RunRecord) (path : Names) (given : Option Stamp) → IsRuleAt g number rule → is_flagged g number ≡ true
        → IsRuleAt g other reader → finite.get g.runs other ≡ Some run → Contains run.asks (path, given) → writes rule path ≡ true → is_flagged g other ≡ true
    upward number other rule reader run path given here flagged there ran asked wrote = by (record_by other reader (in_plan other reader there) run ran)
      where
        made : Makes plan number path
        made = record { rule = rule; here = in_plan number rule here; output = wrote }

        by : ((finite.get fg.runs other ≡ Some run) × (is_flagged g other ≡ is_flagged fg other)) ⊎ ((run_now : RunRecord) × (run_now ≡ run)
            × (HasEnded plan (start b) b.history other run_now ⊎ WasToKeep b.lost other run_now) × HasOf (finished fg other run_now) g other reader) → is_flagged g other ≡ true
        by (inl (was, same)) =
            same ∙ fk.agrees.upward number other rule reader run path given (in_graph number rule (in_plan number rule here)) (flagged_before number rule (in_plan number rule here) flagged)
            (in_graph other reader (in_plan other reader there)) was asked wrote
        by (inr (ended, same, ends, has)) = own_or_other (writes reader path) refl
          where
            off : is_flagged g other ≡ false
            off = ended_off other reader (in_plan other reader there) ended ends has

            own_or_other : (own : Bool) → writes reader path ≡ own → is_flagged g other ≡ true
            own_or_other true own = ap (is_flagged g) (one_maker other number path (record { rule = reader; here = in_plan other reader there; output = own }) made) ∙ flagged
            own_or_other false foreign =
                let stands = asked_stands other reader (in_plan other reader there) ended (came other ended ends) path given (subst (λ (r : RunRecord). Contains r.asks (path, given)) (sym same) asked) foreign in
                let producer = (declared_maker reader path number made stands.readable foreign).1 in
                absurd (true≢false (sym flagged ∙ come.producers other number reader (in_plan other reader there) (ended_reached other ended ends) off producer))

    declares_owned : (number : ℕ) (rule : Rule) (run : RunRecord) (path : Names) (given : Option Stamp) → IsUnflagged g number rule → finite.get g.runs number ≡ Some run → Asked rule run path given
        → is_owned g path ≡ true → declares rule path ≡ true
    declares_owned number rule run path given is ran asked own = by (record_by number rule there run ran)
      where
        there : slice_get plan.rules number ≡ Some rule
        there = in_plan number rule is.here

        owned_first_too : is_owned fg path ≡ true
        owned_first_too = sym (owned_alike path) ∙ own

        by_owner : (found : Option Owned) → finite.get fg.owned path ≡ found → is_some found ≡ true → (m : ℕ) × Makes plan m path
        by_owner None is none = absurd (let wrong : false ≡ true = none in cc)
        by_owner (Some o) is some = by_number o.maker refl
          where
            by_number : (m : Option ℕ) → o.maker ≡ m → (m : ℕ) × Makes plan m path
            by_number None none = absurd (held.made path o is none)
            by_number (Some m) makes =
                let it = fk.owners.makers path o m is makes in
                (m, record { rule = it.0; here = ap (λ (rules : List Rule). slice_get rules m) sound.opening.plan.rules ∙ it.1; output = it.2 })

        by : ((finite.get fg.runs number ≡ Some run) × (is_flagged g number ≡ is_flagged fg number)) ⊎ ((run_now : RunRecord) × (run_now ≡ run)
            × (HasEnded plan (start b) b.history number run_now ⊎ WasToKeep b.lost number run_now) × HasOf (finished fg number run_now) g number rule) → declares rule path ≡ true
        by (inl (was, same)) = fk.declared number rule run path given (unflagged_was number rule is (sym same ∙ is.unflagged)) was asked owned_first_too
        by (inr (ended, same, ends, has)) =
            let stands = asked_stands number rule there ended (came number ended ends) path given (subst (λ (r : RunRecord). Contains r.asks (path, given)) (sym same) asked.0) asked.1 in
            let makes = by_owner (finite.get fg.owned path) refl owned_first_too in
            (declared_maker rule path makes.0 makes.1 stands.readable asked.1).0

    written_still : (number : ℕ) (rule : Rule) (run : RunRecord) → IsUnflagged g number rule → finite.get g.runs number ≡ Some run
        → All (λ (file : Names × Stamp). (owned : Owned) × (finite.get g.owned file.0 ≡ Some owned) × (owned.state ≡ Written file.1)) run.writes
    written_still number rule run is ran = by (record_by number rule there run ran)
      where
        there : slice_get plan.rules number ≡ Some rule
        there = in_plan number rule is.here

        HaveWritten : RunRecord → Type 0
        HaveWritten r = All (λ (file : Names × Stamp). (owned : Owned) × (finite.get g.owned file.0 ≡ Some owned) × (owned.state ≡ Written file.1)) r.writes

        as_was : finite.get fg.runs number ≡ Some run → is_flagged fg number ≡ false → HasOf fg g number rule → HaveWritten run
        as_was was off has = λ at d less.
            let file = slice_index_or run.writes at d in
            let k = fk.written number rule run (unflagged_was number rule is off) was at d less in
            (k.0, has.owned file.0 (wrote_output next language more fg fk number rule run file (in_graph number rule there) was (All-contains_itself run.writes at d less)) ∙ k.1, k.2)

        by : ((finite.get fg.runs number ≡ Some run) × (is_flagged g number ≡ is_flagged fg number)) ⊎ ((run_now : RunRecord) × (run_now ≡ run)
            × (HasEnded plan (start b) b.history number run_now ⊎ WasToKeep b.lost number run_now) × HasOf (finished fg number run_now) g number rule) → HaveWritten run
        by (inl (was, same)) = kind (off_by number rule there is.unflagged)
          where
            kind : IsAsItWas number rule there ⊎ HasCameTo number rule there → HaveWritten run
            kind (inl (off, has)) = as_was was off has
            kind (inr (ended, ends, has)) = absurd (true≢false (sym (sym (reach_is number) ∙ ended_reached number ended ends) ∙ sym same ∙ is.unflagged))
        by (inr (ended, same, ends, has)) =
            subst HaveWritten same (λ at d less. owned_ended number rule there ended (came number ended ends) has (slice_index_or ended.writes at d) (All-contains_itself ended.writes at d less))

    linked_still : language.linked (finite.entries g.readings) ≡ Some g.rules
    linked_still = ap (λ (readings : Readings). language.linked (finite.entries readings)) readings_are ∙ fk.linked ∙ ap Some (sym come.beside.rules)

    -- a graph of which just the pending rules are flagged has seen the core's files, but for the outputs of those
    pub seen_free : ((number : ℕ) → (state b).pending number ≡ false → is_flagged g number ≡ false) → (path : Names) → (IsPending plan (state b) path → ⊥) → finite.get g.seen path ≡ files_now path
    seen_free flags path free = by (is_generated plan.rules path) refl
      where
        by : (made : Bool) → is_generated plan.rules path ≡ made → finite.get g.seen path ≡ files_now path
        by false unmade =
            come.beside.seen path unmade
            ∙ sym (start_stays path (λ m makes. absurd (true≢false (sym makes.output ∙ writes-at plan.rules path m makes.rule unmade makes.here))))
        by true made =
            let it = maker_by path made in
            let done = false_from_ne_true ((state b).pending it.0) (λ pending. free (it.0, pending, it.1)) in
            seen_done it.0 it.1.rule it.1.here path it.1.output (flags it.0 done) done

    pub come_kept : IsKept next language more g
    come_kept = record {
      records = record {
        runs = true_runs;
        readings = λ dir reading is. fk.records.readings dir reading (reading_there dir reading is);
      };
      recorded = has_record;
      agrees = record { stamps = seen_stamps; read = read_still; told = told_still; upward = upward };
      declared = declares_owned;
      owners = record {
        made = λ number rule path here own. owned_by number rule (in_plan number rule here) path own;
        makers = makers;
      };
      linked = linked_still;
      written = written_still;
    }
