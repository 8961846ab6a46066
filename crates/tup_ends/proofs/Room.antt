-- A board that is stopped because the store is full has no room there for what the run of a rule commits.
use Rattle.std.proofs.Common.{◌≡◌, inl, inr, ℕ, true, List, [], ◌∷◌, map, None, Some, IsTrue, refl, sym, ap, subst, ◌∙◌}
use Rattle.std.specs.Prelude.{slice_get}
use Rattle.tup_site.specs.World.{World}
use Rattle.tup_site.specs.declared.site.Site.{Ghosts as Site}
use Rattle.tup_rule.specs.Rule.{name_of}
use Rattle.tup_rule.specs.declared.rule.Rule.{Rule}
use Rattle.tup_rule.specs.declared.rule.RuleName.{RuleName}
use Rattle.tup_runner.specs.declared.runner.Runner.{Ghosts as Runner}
use Rattle.tup_access.specs.declared.verdict.Verdict.TheVariants.{Good}
use Rattle.tup_table.specs.Entries.{Standing}
use Rattle.tup_table.proofs.Appends.{rests_store}
use Rattle.tup_graph.specs.Graph.{GraphState}
use Rattle.tup_graph.specs.Kept.{IsGraphIn, IsRuleAt}
use Rattle.tup_graph.specs.Opening.{IsGraphOf}
use Rattle.tup_graph.specs.Records.{IsTrueRun}
use Rattle.tup_graph.specs.Transactions.{begin_edits, finish_edits}
use Rattle.tup_graph.specs.declared.edit.Edit.{Edit}
use Rattle.tup_stored_graph.specs.Held.{Held}
use Rattle.tup_stored_graph.specs.Transaction.{IsFull}
use Rattle.tup_core.specs.Honest.{EndsHonestly}
use Rattle.tup_core.specs.Run.{IsRun, end_of}
use Rattle.tup_core.specs.Step.{State, after}
use Rattle.tup_core.specs.declared.event.Cause.TheVariants.{Full}
use Rattle.tup_core.specs.declared.event.CoreEvent.{CoreEvent}
use Rattle.tup_core.specs.declared.event.CoreEvent.TheVariants.{Stop}
use Rattle.tup_core.specs.declared.plan.Plan.{Plan}
use Rattle.tup_core.proofs.Orderly.{claimed_stays}
use Rattle.tup_schedule.proofs.Courses.{end_both}
use Rattle.tup_board.specs.Board.{BoardState, course_of, plan_of, start, state}
use Rattle.tup_board.specs.Calls.{commands}
use Rattle.tup_board.specs.Cause.{HasNoRoom, StandsForBytes}
use Rattle.tup_board.specs.Sound.{IsSound, Since}
use Rattle.tup_board.proofs.Seated.{orderly}
use Rattle.tup_law_site.proofs.Stores.{in_bytes, one_in_bytes}
use Rattle.tup_law_board.proofs.Honestly.{record_true}
use Rattle.tup_law_board.proofs.Runs.{run_behind, run_front}
use Rattle.tup_promise.specs.Kept.{AsksFor}
use Rattle.tup_promise.specs.Prepared.{IsPrepared}
use Rattle.tup_promise.specs.Ran.{command_of}
use Rattle.tup_ends.specs.Room.{AreOfRun, LacksRoomToRun}
use Rattle.tup_ends.proofs.Due.{among_ran, asked}

-- what was claimed stays so
claimed_still : (plan : Plan) (events : List CoreEvent) (at : State) (number : ℕ) → IsRun plan at events → at.claimed number ≡ true → (end_of plan at events).claimed number ≡ true
claimed_still plan [] at number run was = was
claimed_still plan (event ∷ events) at number (enabled, run) was = claimed_still plan events (after plan at event) number run (claimed_stays plan at event enabled number was)

-- the graph that stands for the bytes of a store is the one in them
graph_in : (graph : Held) (bytes : List ℕ) → StandsForBytes graph bytes → IsGraphIn bytes graph.nodes
graph_in graph bytes stands = record {
  commits = stands.commits;
  reads = rests_store stands.commits bytes stands.rests;
  graph = subst (λ (entries : Standing). IsGraphOf entries graph.nodes) stands.entries stands.nodes;
}

module _ {S R : Type 0} (site : Site S) (runner : Runner R) (b : BoardState S) (sound : IsSound site runner b) (tells : IsTrue site.tells) (means : IsTrue runner.tells) (ran : List RuleName) (same : map command_of ran ≡ commands (plan_of b) b.history)
    (first : World) (since : ℕ) (prepared : IsPrepared site runner.next first since b.opening.graph b.opening.site) (w : World) (left : Since site b w)
    (none : HasNoRoom b w.store (IsTrue site.tells × IsTrue runner.tells) (EndsHonestly runner.next (site.known b.site))) where
  abbrev plan : Plan
  plan = plan_of b

  -- the rule that the seat ran which was stopped
  abbrev rule : Rule
  rule = none.kept.rule

  abbrev nodes : GraphState
  nodes = none.graph.nodes

  abbrev mid : State
  mid = end_of plan (start b) none.before

  abbrev rest : List CoreEvent
  rest = Stop none.seat Full ∷ none.after

  here : slice_get plan.rules none.number ≡ Some rule
  here = ap (slice_get plan.rules) (sym none.kept.here) ∙ none.kept.runs.placed

  run_before : IsRun plan (start b) none.before
  run_before = run_front plan none.before rest (start b) (subst (IsRun plan (start b)) none.whole sound.run)

  run_rest : IsRun plan mid rest
  run_rest = run_behind plan none.before rest (start b) (subst (IsRun plan (start b)) none.whole sound.run)

  claimed_then : mid.claimed none.number ≡ true
  claimed_then = subst (λ (n : ℕ). mid.claimed n ≡ true) none.kept.here ((orderly plan (course_of b).files none.before run_before).claimed none.seat none.kept.running none.kept.runs.here)

  claimed : (state b).claimed none.number ≡ true
  claimed =
      ap (λ (events : List CoreEvent). (end_of plan (start b) events).claimed none.number) none.whole
      ∙ ap (λ (s : State). s.claimed none.number) (end_both plan none.before rest (start b))
      ∙ claimed_still plan rest mid none.number run_rest claimed_then

  -- it is one of the graph's
  rules_are : nodes.rules ≡ plan.rules
  rules_are =
      let image = sound.images tells w left in
      ap (λ (g : GraphState). g.rules) (one_in_bytes w.store nodes image.2 (graph_in none.graph w.store none.stands) (in_bytes image.2 w.store image.3.store))
      ∙ image.3.come.beside.rules ∙ sym sound.opening.plan.rules

  in_graph : IsRuleAt nodes none.number rule
  in_graph = ap (λ (rules : List Rule). slice_get rules none.number) rules_are ∙ here

  -- its command comes to that run, where it ended so
  comes_to : EndsHonestly runner.next (site.known b.site) rule none.kept.running None Good none.run.writes → IsTrueRun runner.next (site.known b.site) rule none.run
  comes_to = record_true plan (course_of b).files none.before sound.opening.apart.one_maker run_before runner.next (site.known b.site) none.seat none.number none.run none.kept

  pub lacks_room : LacksRoomToRun runner.next (site.known b.site) first w ran
  lacks_room = elim none.full [
    | inl begins ↦ lacks (begin_edits nodes none.number) (inl refl) begins
    | inr ends ↦ lacks (finish_edits nodes none.number none.run) (inr (none.run, comes_to (ends.1 (tells, means)), refl)) ends.0
  ]
    where
      lacks : (edits : List Edit) → AreOfRun runner.next (site.known b.site) nodes none.number rule edits → IsFull none.graph edits → LacksRoomToRun runner.next (site.known b.site) first w ran
      lacks edits of_run full = record {
        graph = none.graph;
        stands = none.stands;
        asked = subst (AsksFor first) (sym rules_are) (asked site runner b sound ran same runner.next first since prepared);
        number = none.number;
        rule = rule;
        here = in_graph;
        was_run = among_ran site runner b sound ran same none.number (name_of rule) claimed (rule, here, refl);
        edits = edits;
        of_run = of_run;
        full = full;
      }
