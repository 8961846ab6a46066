-- A kept graph that has run all of its rules, over a tree that is as it was seen, is that of a finished project.
use Rattle.std.proofs.Common.{◌≡◌, ◌≢◌, ℕ, Bool, true, false, is_some, List, [], Option, None, Some, Ok, Contains, refl, sym, ap, ◌∙◌}
use Rattle.std.specs.FinMap as finite
use Rattle.std.specs.Option.{option_map}
use Rattle.std.proofs.lemmas.Bool.{true≢false}
use Rattle.std.proofs.lemmas.Option.{none-some, same_Some}
use Rattle.tup_path.specs.Name.{Names, Content}
use Rattle.tup_path.specs.Order.{by_names-total, by_names-antisymmetric}
use Rattle.tup_path.specs.Tree.{Tree}
use Rattle.tup_site.specs.Known.{IsKnown, KnowsTree}
use Rattle.tup_stamp.specs.declared.Stamp.{Stamp}
use Rattle.tup_stamp.specs.Stamp.{stamp}
use Rattle.tup_rule.specs.Rule.{is_generated, writes}
use Rattle.tup_rule.specs.declared.rule.Rule.{Rule}
use Rattle.tup_rule.proofs.Laws.{is_generated-at, maker-Some}
use Rattle.tup_runner.specs.Next.{Next}
use Rattle.tup_clean.specs.Clean.{Build, clean, succeeds}
use Rattle.tup_clean.proofs.Among.{is_generated-maker}
use Rattle.tup_project.specs.Project.{ComeTo}
use Rattle.tup_graph.specs.Graph.{GraphState, is_flagged, is_owned}
use Rattle.tup_graph.specs.Kept.{IsKept, IsRuleAt}
use Rattle.tup_graph.specs.Reach.{stamp_in}
use Rattle.tup_graph.specs.declared.owned.Owned.{Owned}
use Rattle.tup_ledger.specs.Sources.{sources_of}
use Rattle.tup_law_graph.proofs.Reached.{none_left}
use Rattle.tup_core.specs.Planned.{IsPlanned, clean_of}
use Rattle.tup_core.specs.declared.plan.Plan.{Plan}
use Rattle.tup_core.proofs.CleanRuns.{contents_clean, files_clean, succeeds_clean}
use Rattle.tup_core.proofs.Entries.{stamps_of_entries}
use Rattle.tup_law_phases.specs.Language.{tupfiles}
use Rattle.tup_law_phases.specs.Planning.{kept_of}
use Rattle.tup_law_phases.proofs.Planned.{planned}
use Rattle.tup_law_phases.proofs.Seen.{core_knows, core_knows_tree, is_for_core}
use Rattle.tup_law_phases.proofs.Tupfiles.{is_language}
use Rattle.tup_promise.specs.Finished.{IsAsWritten, IsFinished}
use Rattle.tup_promise.specs.Kept.{HaveTupfiles}
use Rattle.tup_ends.proofs.Again.{seen_written}

module _ (next : Next) (known : List Content) (h : GraphState) (tree : Tree) (kept : IsKept next tupfiles known h) (none : (number : ℕ) → is_flagged h number ≡ false)
    (seen : (path : Names) → finite.get h.seen path ≡ stamp_in tree path) (made : (path : Names) (owned : Owned) → finite.get h.owned path ≡ Some owned → owned.maker ≢ None)
    (apart : IsKnown known) (knows : KnowsTree known tree) where
  abbrev sources : Tree
  sources = sources_of h tree

  abbrev built : Build
  built = clean next h.rules sources

  -- ---- a run of the core in which nothing happens

  -- a plan that runs nothing
  abbrev idle : Plan
  idle = record { rules = h.rules; reach = []; near = []; keep_going = false }

  abbrev files : List (Names × Stamp)
  files = finite.entries h.seen

  is_planned : IsPlanned next known (kept_of h) tree idle files
  is_planned =
      planned next tupfiles known h kept is_language.1 (λ number flagged. absurd (true≢false (sym flagged ∙ none number))) tree idle files seen made refl (λ at. sym (none at))
      (stamps_of_entries h.seen) (core_knows known apart) (λ path content here. core_knows_tree known tree path content knows here)

  same_build : clean_of next (kept_of h) tree idle ≡ built
  same_build = ap (clean next h.rules) (is_for_core h tree)

  builds : succeeds built ≡ true
  builds = ap succeeds (sym same_build) ∙ succeeds_clean next known (kept_of h) tree idle files is_planned [] tt tt (λ at. refl)

  -- ---- the files are those of the clean build
  stamps_alike : (path : Names) → stamp_in tree path ≡ stamp_in built.tree path
  stamps_alike path =
      sym (seen path) ∙ sym (stamps_of_entries h.seen path) ∙ files_clean next known (kept_of h) tree idle files is_planned [] tt tt (λ at. refl) path
      ∙ ap (λ (b : Build). stamp_in b.tree path) same_build

  built_known : (path : Names) (content : Content) → finite.get built.tree path ≡ Some content → Contains known content
  built_known path content there =
      contents_clean next known (kept_of h) tree idle files is_planned [] tt tt (λ at. refl) path content (ap (λ (b : Build). finite.get b.tree path) same_build ∙ there)

  same_file : (path : Names) → finite.get tree path ≡ finite.get built.tree path
  same_file path = by (finite.get tree path) (finite.get built.tree path) refl refl (stamps_alike path)
    where
      by : (one other : Option Content) → finite.get tree path ≡ one → finite.get built.tree path ≡ other → option_map stamp one ≡ option_map stamp other → one ≡ other
      by None None here there same = refl
      by None (Some other) here there same = absurd (none-some (stamp other) same)
      by (Some one) None here there same = absurd (none-some (stamp one) (sym same))
      by (Some one) (Some other) here there same =
          ap Some (core_knows known apart one other (core_knows_tree known tree path one knows here) (built_known path other there) (same_Some (stamp one) (stamp other) same))

  same_tree : tree ≡ built.tree
  same_tree = finite.same_map by_names-total by_names-antisymmetric tree built.tree same_file

  -- ---- owned paths

  -- the rule that makes an owned path
  maker_is : (path : Names) (owner : Owned) → finite.get h.owned path ≡ Some owner → (number : ℕ) × (rule : Rule) × IsRuleAt h number rule × (writes rule path ≡ true)
  maker_is path owner here = by owner.maker refl
    where
      by : (maker : Option ℕ) → owner.maker ≡ maker → (number : ℕ) × (rule : Rule) × IsRuleAt h number rule × (writes rule path ≡ true)
      by None is = absurd (made path owner here is)
      by (Some number) is = (let it = kept.owners.makers path owner number here is in (number, it.0, it.1, it.2))

  owned_is : (path : Names) → is_owned h path ≡ is_generated h.rules path
  owned_is path = by (finite.get h.owned path) refl (is_generated h.rules path) refl
    where
      by : (found : Option Owned) → finite.get h.owned path ≡ found → (generated : Bool) → is_generated h.rules path ≡ generated → is_some found ≡ generated
      by (Some owner) here true is = refl
      by (Some owner) here false is =
          (let maker = maker_is path owner here in absurd (true≢false (sym (is_generated-at h.rules path maker.0 maker.1 maker.2 maker.3) ∙ is)))
      by None here true is =
          (let it = is_generated-maker h.rules path is in
          let maker = maker-Some h.rules path it.0 it.1 in
          let owner = kept.owners.made it.0 maker.rule path maker.here maker.writes_it in
          absurd (none-some owner.0 (sym here ∙ owner.1)))
      by None here false is = refl

  -- and it is written with what is there
  written_is : (path : Names) (owner : Owned) → finite.get h.owned path ≡ Some owner → IsAsWritten tree path owner
  written_is path owner here = by (maker_is path owner here)
    where
      by : (number : ℕ) × (rule : Rule) × IsRuleAt h number rule × (writes rule path ≡ true) → IsAsWritten tree path owner
      by (number, rule, there, output) =
          let written = seen_written next known h kept number rule path (record { here = there; unflagged = none number }) output in
          (written.2, ap (λ (o : Owned). o.state) (same_Some owner written.0 (sym here ∙ written.1)) ∙ written.3, sym (seen path) ∙ written.4)

  pub finished : h.created ≡ finite.empty → HaveTupfiles sources h → ComeTo sources (Ok h.rules) → IsFinished next sources h tree
  finished created read come = record {
    sources_are = refl;
    rules = come;
    builds = builds;
    files = same_tree;
    owned = owned_is;
    written = written_is;
    seen = seen;
    read = read;
    created = created;
    none_due = λ rules at asked reached. none_left next tupfiles known h tree kept (λ number rule here. none number) seen sources rules come asked at reached;
  }
