-- A rule that came to a good end on a board is Good in the clean build, and its outputs stand as that build leaves them.
use Rattle.std.proofs.Common.{◌≡◌, ℕ, ◌≤◌, true, false, Option, None, Some, Contains, IsTrue, refl, sym, ap, subst, ◌∙◌}
use Rattle.std.specs.FinMap as finite
use Rattle.std.specs.Option.{option_map}
use Rattle.std.specs.Prelude.{List, slice_get}
use Rattle.std.proofs.lemmas.Bool.{true≢false}
use Rattle.std.proofs.lemmas.Option.{none-some, same_Some}
use Rattle.tup_path.specs.Name.{Names, Content}
use Rattle.tup_path.specs.Tree.{Tree}
use Rattle.tup_site.specs.Known.{IsKnown, KnowsTree}
use Rattle.tup_site.specs.World.{World}
use Rattle.tup_site.specs.declared.site.Site.{Ghosts as Site}
use Rattle.tup_stamp.specs.Stamp.{stamp}
use Rattle.tup_rule.specs.Rule.{name_of, writes}
use Rattle.tup_rule.specs.declared.rule.Rule.{Rule}
use Rattle.tup_runner.specs.declared.runner.Runner.{Ghosts as Runner}
use Rattle.tup_clean.specs.Clean.{Build, clean, good_at}
use Rattle.tup_graph.specs.Graph.{GraphState}
use Rattle.tup_ledger.specs.Sources.{sources_of}
use Rattle.tup_core.specs.Planned.{clean_of}
use Rattle.tup_core.specs.Settled.{IsSettled}
use Rattle.tup_core.specs.Step.{is_reached}
use Rattle.tup_core.specs.declared.plan.Plan.{Plan}
use Rattle.tup_core.proofs.CleanRuns.{done_clean}
use Rattle.tup_board.specs.Board.{BoardState, course_of, first_graph, plan_of, state}
use Rattle.tup_board.specs.Outputs.{IsPending}
use Rattle.tup_board.specs.Sound.{Before, IsSound}
use Rattle.tup_law_phases.specs.Planning.{kept_of}
use Rattle.tup_law_phases.proofs.Seen.{core_knows, core_knows_tree}
use Rattle.tup_promise.specs.GoodEnds.{IsMade}
use Rattle.tup_promise.specs.Kept.{AsksFor}
use Rattle.tup_promise.specs.Prepared.{IsPrepared}
use Rattle.tup_ends.proofs.Quiet.{is_planned, same_build}

module _ {S R : Type 0} (site : Site S) (runner : Runner R) (b : BoardState S) (sound : IsSound site runner b) (tells : IsTrue site.tells) (told : IsTrue runner.tells) (first : World) (since : ℕ)
    (prepared : IsPrepared site runner.next first since b.opening.graph b.opening.site)
    (earlier : (t u : ℕ) (w : World) → t ≤ u → site.left_since b.opening.site u w → site.left_since b.opening.site t w) (present : Before site b (site.world b.opening.site))
    (knows : KnowsTree (site.known b.opening.site) (site.world b.opening.site).tree) (apart : IsKnown (site.known b.site)) (knows_end : KnowsTree (site.known b.site) (site.world b.site).tree)
    (number : ℕ) (rule : Rule) (here : slice_get (plan_of b).rules number ≡ Some rule) (reached : is_reached (plan_of b) number ≡ true) (gone : (state b).pending number ≡ false) where
  abbrev plan : Plan
  plan = plan_of b

  abbrev known : List Content
  known = site.known b.site

  abbrev end : World
  end = site.world b.site

  abbrev fg : GraphState
  fg = first_graph b

  abbrev tree : Tree
  tree = (site.world b.opening.site).tree

  abbrev built : Build
  built = clean runner.next plan.rules (sources_of prepared.rules.0 first.tree)

  same : clean_of runner.next (kept_of fg) tree plan ≡ built
  same = same_build site runner b sound tells told first since prepared earlier present knows apart

  settled : IsSettled known (clean_of runner.next (kept_of fg) tree plan) (state b).files number rule
  settled =
      done_clean runner.next known (kept_of fg) tree plan (course_of b).files (is_planned site runner b sound tells told first since prepared earlier present knows apart) b.history sound.run
      (sound.honest tells told) number rule here reached gone

  module _ (path : Names) (output : writes rule path ≡ true) where
    -- no pending rule makes it
    free : IsPending plan (state b) path → ⊥
    free it =
        true≢false (sym it.1
        ∙ ap (state b).pending (sym (sound.opening.apart.one_maker number it.0 rule it.2.rule path reached here it.2.here output it.2.output)) ∙ gone)

    made : (content : Content) × (finite.get (clean_of runner.next (kept_of fg) tree plan).tree path ≡ Some content) × Contains known content × ((state b).files path ≡ Some (stamp content))
    made = settled.made path output

    stamped : option_map stamp (finite.get end.tree path) ≡ Some (stamp made.0)
    stamped = sound.files tells path free ∙ made.3

    -- the file that stands there
    stands : (found : Option Content) → finite.get end.tree path ≡ found → finite.get end.tree path ≡ Some made.0
    stands None is = absurd (none-some (stamp made.0) (sym (ap (option_map stamp) is) ∙ stamped))
    stands (Some content) is =
        is
        ∙ ap Some (core_knows known apart content made.0 (core_knows_tree known end.tree path content knows_end is) made.2
        (same_Some (stamp content) (stamp made.0) (sym (ap (option_map stamp) is) ∙ stamped)))

    as_built : finite.get end.tree path ≡ finite.get built.tree path
    as_built = stands (finite.get end.tree path) refl ∙ sym made.1 ∙ ap (λ (build : Build). finite.get build.tree path) same

  pub is_made : IsMade runner.next first end (name_of rule)
  is_made = record {
    rules = plan.rules;
    asked = subst (AsksFor first) (sym sound.opening.plan.rules) prepared.rules;
    at = number;
    rule = rule;
    here = here;
    named = refl;
    good = (prepared.rules.0, prepared.rules.1, ap (λ (build : Build). good_at build.verdicts number) (sym same) ∙ settled.good);
    outputs = λ path output. (prepared.rules.0, prepared.rules.1, as_built path output);
  }
