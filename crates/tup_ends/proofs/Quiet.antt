-- A board on which nothing goes on any more, and that wasn't stopped, ran all that it could.
use Rattle.std.proofs.Common.{◌≡◌, ⊎_elim, ℕ, ◌<◌, ◌≤◌, length, List, None, Some, IsTrue, map, refl, sym, ap, subst, ◌∙◌}
use Rattle.std.specs.Prelude.{Contains, IsSome, slice_get}
use Rattle.std.proofs.lemmas.Bool.{false≢true, lt-ltb}
use Rattle.tup_path.specs.Name.{Names, Content}
use Rattle.tup_path.specs.Tree.{Tree}
use Rattle.tup_site.specs.Known.{IsKnown, KnowsTree}
use Rattle.tup_site.specs.World.{World}
use Rattle.tup_site.specs.declared.site.Site.{Ghosts as Site}
use Rattle.tup_stamp.specs.declared.Stamp.{Stamp}
use Rattle.tup_rule.specs.Rule.{name_of}
use Rattle.tup_rule.specs.declared.rule.Rule.{Rule}
use Rattle.tup_rule.specs.declared.rule.RuleName.{RuleName}
use Rattle.tup_runner.specs.declared.runner.Runner.{Ghosts as Runner}
use Rattle.tup_clean.specs.AnyOrder.{AreProducersGood}
use Rattle.tup_clean.specs.Clean.{Build, clean}
use Rattle.tup_graph.specs.Graph.{GraphState}
use Rattle.tup_graph.specs.Kept.{IsKept}
use Rattle.tup_ledger.specs.Sources.{sources_of}
use Rattle.tup_law_graph.proofs.Edited.{kept_more}
use Rattle.tup_core.specs.Planned.{IsPlanned, clean_of}
use Rattle.tup_core.specs.Sound.{IsQuiet}
use Rattle.tup_core.specs.declared.plan.Plan.{Plan}
use Rattle.tup_core.proofs.AllClaimed.{all_claimed}
use Rattle.tup_board.specs.Board.{BoardState, course_of, first_graph, plan_of, state}
use Rattle.tup_board.specs.Calls.{IsOver, commands}
use Rattle.tup_board.specs.Sound.{Before, IsSound}
use Rattle.tup_board.proofs.Known.{keeps_all}
use Rattle.tup_core.proofs.Entries.{stamps_of_entries}
use Rattle.tup_law_site.proofs.Remaining.{is_kept}
use Rattle.tup_law_site.proofs.Stores.{one_in_bytes}
use Rattle.tup_law_phases.specs.Language.{tupfiles}
use Rattle.tup_law_phases.specs.Planning.{kept_of}
use Rattle.tup_law_phases.proofs.Planned.{planned}
use Rattle.tup_law_phases.proofs.Seen.{core_knows, core_knows_tree, is_for_core}
use Rattle.tup_law_phases.proofs.Tupfiles.{is_language}
use Rattle.tup_promise.specs.Kept.{AsksFor}
use Rattle.tup_promise.specs.Needed.{IsDue, NamesAllThatCan}
use Rattle.tup_promise.specs.Prepared.{IsPrepared}
use Rattle.tup_promise.specs.Ran.{command_of}
use Rattle.tup_ends.proofs.Done.{sources_are}
use Rattle.tup_promise.proofs.Asked.{one_asked}
use Rattle.tup_ends.proofs.Due.{among_ran, reached_due}

module _ {S R : Type 0} (site : Site S) (runner : Runner R) (b : BoardState S) (sound : IsSound site runner b) (tells : IsTrue site.tells) (told : IsTrue runner.tells) (first : World) (since : ℕ)
    (prepared : IsPrepared site runner.next first since b.opening.graph b.opening.site)
    (earlier : (t u : ℕ) (w : World) → t ≤ u → site.left_since b.opening.site u w → site.left_since b.opening.site t w) (present : Before site b (site.world b.opening.site))
    (knows : KnowsTree (site.known b.opening.site) (site.world b.opening.site).tree) (apart : IsKnown (site.known b.site)) where
  abbrev fg : GraphState
  fg = first_graph b

  abbrev plan : Plan
  plan = plan_of b

  abbrev files : List (Names × Stamp)
  files = (course_of b).files

  abbrev tree : Tree
  tree = (site.world b.opening.site).tree

  abbrev known : List Content
  known = site.known b.site

  also : (content : Content) → Contains (site.known b.opening.site) content → Contains known content
  also = keeps_all (site.known b.opening.site) known (sound.known tells)

  kept_so : IsKept runner.next tupfiles known fg
  kept_so =
      kept_more (site.known b.opening.site) known also runner.next tupfiles fg
      (is_kept site runner.next tupfiles (site.known b.opening.site) first since b.opening.graph b.opening.site prepared.over earlier (site.world b.opening.site) present)

  pub is_planned : IsPlanned runner.next known (kept_of fg) tree plan files
  is_planned =
      planned runner.next tupfiles known fg kept_so is_language.1
      (λ number flagged. lt-ltb number _ (subst (λ (rules : List Rule). number < length rules) sound.opening.plan.rules (sound.opening.plan.in_range number (sound.opening.plan.reach number ∙ flagged))))
      tree plan files prepared.seen prepared.made (sym sound.opening.plan.rules) sound.opening.plan.reach (stamps_of_entries fg.seen) (core_knows known apart)
      (λ path content here. also content (core_knows_tree (site.known b.opening.site) tree path content knows here))

  -- the clean build of the core is that of the sources with which the update began
  pub same_build : clean_of runner.next (kept_of fg) tree plan ≡ clean runner.next plan.rules (sources_of prepared.rules.0 first.tree)
  same_build =
      ap (clean runner.next plan.rules) (is_for_core fg tree ∙ sources_are site runner.next first since b.opening.graph b.opening.site prepared earlier present)

  module _ (ran : List RuleName) (same : map command_of ran ≡ commands plan b.history) (over : IsOver b) (going : (state b).stopped ≡ None) where
    quiet : IsQuiet plan (state b)
    quiet = record {
      none_ready = ⊎_elim (λ stopped. absurd (false≢true (subst IsSome going stopped))) (λ none. none) over.1;
      none_runs = over.0;
      going = going;
    }

    -- a rule that is due and whose declared producers are Good was run
    ran_one : (at : ℕ) (rule : Rule) → IsDue first plan.rules at → slice_get plan.rules at ≡ Some rule
        → AreProducersGood plan.rules (clean runner.next plan.rules (sources_of prepared.rules.0 first.tree)).verdicts rule → Contains ran (name_of rule)
    ran_one at rule due here good =
        among_ran site runner b sound ran same at (name_of rule)
        (all_claimed runner.next known (kept_of fg) tree plan files b.history is_planned sound.run (sound.honest tells told) quiet at rule here
        (reached_due site runner b sound ran same runner.next first since prepared at due)
        (subst (λ (build : Build). AreProducersGood plan.rules build.verdicts rule) (sym same_build) good))
        (rule, here, refl)

    pub names_that_can : NamesAllThatCan runner.next first ran
    names_that_can rules at rule asks due here (g, reads, good) =
        subst (λ (list : List Rule). IsDue first list at → slice_get list at ≡ Some rule → AreProducersGood list (clean runner.next list (sources_of prepared.rules.0 first.tree)).verdicts rule → Contains ran (name_of rule))
        (one_asked first plan.rules rules (subst (AsksFor first) (sym sound.opening.plan.rules) prepared.rules) asks) (ran_one at rule) due here
        (subst (λ (k : GraphState). AreProducersGood rules (clean runner.next rules (sources_of k first.tree)).verdicts rule) (one_in_bytes first.store g prepared.rules.0 reads prepared.rules.1) good)
