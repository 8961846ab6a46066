-- A refresh that brings nothing: the readings are those that the graph keeps.
use Rattle.std.proofs.Common.{◌≡◌, inl, inr, List, [], Option, Some, None, Result, Ok, Err, IsTrue, true, false, sym, ap, ap₂, subst, ◌∙◌}
use Rattle.std.specs.Bool.{passes}
use Rattle.std.specs.FinMap as finite
use Rattle.tup_path.specs.Name.{Names, Content}
use Rattle.tup_path.specs.Order.{by_names, by_names-total, by_names-antisymmetric}
use Rattle.tup_path.specs.Tree.{Tree}
use Rattle.tup_rule.specs.Rule.{among}
use Rattle.tup_rule.specs.declared.question.Reading.{Reading}
use Rattle.tup_runner.specs.Next.{Next}
use Rattle.tup_vars.specs.Table.{Entries}
use Rattle.tup_vars.specs.declared.fault.ConfigFault.{ConfigFault}
use Rattle.tup_readings.specs.Answers.{Readings}
use Rattle.tup_readings.specs.Sources.{has_tupfile, settings_of}
use Rattle.tup_readings.proofs.One.{of_tupfiles}
use Rattle.tup_project.specs.Project.{AreLinked, ComeTo}
use Rattle.tup_graph.specs.Graph.{GraphState}
use Rattle.tup_graph.specs.Kept.{IsKept}
use Rattle.tup_graph.specs.Records.{Language}
use Rattle.tup_graph.specs.Swap.{reading_now}
use Rattle.tup_law_graph.specs.Linking.{LinksReadings}
use Rattle.tup_refresh.specs.Refresh.{AreRefreshed, IsRefresh, IsRefreshWith}
use Rattle.tup_refresh.specs.declared.refreshed.Refreshed.{Refreshed}
use Rattle.tup_refresh.proofs.Ending.{refreshed_read}

-- nothing fresh and nothing lost: the readings that are kept
nothing_now : (g : GraphState) (dir : Names) → reading_now g [] [] dir ≡ finite.get g.readings dir
nothing_now g dir =
    ap (λ (found : Option Reading). elim found as (λ _. Option Reading) [ Some reading ↦ Some reading | None ↦ elim (among dir []) as (λ _. Option Reading) [ true ↦ None | false ↦ finite.get g.readings dir ] ])
    (finite.get-from_entries by_names-total [] dir)

-- a folder of which a refresh leaves a reading has a Tupfile
pub refreshed_tupfiles : (g : GraphState) (sources : Tree) (given : Refreshed) → IsRefresh g sources (Ok given) → (dir : Names) (left : Reading) → reading_now g given.fresh given.gone dir ≡ Some left → IsTrue (has_tupfile sources dir)
refreshed_tupfiles g sources given refreshed dir left here = by (settings_of sources) refreshed
  where
    by : (found : Result Entries ConfigFault) → IsRefreshWith g sources found (Ok given) → IsTrue (has_tupfile sources dir)
    by (Ok settings) is = of_tupfiles sources settings is.read.1.some.0 (finite.from_sorted given.all) is.read.1.some.1 dir left (is.together dir ∙ here)
    by (Err fault) (inl wrong) = absurd (cc)
    by (Err fault) (inr wrong) = absurd (cc)

module _ (g : GraphState) (sources : Tree) (given : Refreshed) (none : given.fresh ≡ []) (lost : given.gone ≡ []) where
  all_kept : (settings : Entries) → AreRefreshed g sources settings given → given.all ≡ finite.entries g.readings
  all_kept settings is =
      sym (finite.entries-from_sorted by_names given.all (passes _ is.read.0))
      ∙ ap (λ (m : Readings). finite.entries m)
      (finite.same_map by_names-total by_names-antisymmetric (finite.from_sorted given.all) g.readings
      (λ dir. is.together dir ∙ ap₂ (λ (fresh : List (Names × Reading)) (gone : List Names). reading_now g fresh gone dir) none lost ∙ nothing_now g dir))

  pub comes_to : (next : Next) (language : Language) (known : List Content) → LinksReadings language → IsKept next language known g → IsRefresh g sources (Ok given) → ComeTo sources (Ok g.rules)
  comes_to next language known links kept refreshed = by (settings_of sources) refreshed
    where
      linked : AreLinked (finite.entries g.readings) g.rules
      linked = (links (finite.entries g.readings) g.rules).0 kept.linked

      by : (found : Result Entries ConfigFault) → IsRefreshWith g sources found (Ok given) → ComeTo sources (Ok g.rules)
      by (Ok settings) is = (given.all, refreshed_read g sources (Ok given) refreshed, subst (λ (all : List (Names × Reading)). AreLinked all g.rules) (sym (all_kept settings is)) linked)
      by (Err fault) (inl wrong) = absurd (cc)
      by (Err fault) (inr wrong) = absurd (cc)

  -- so where nothing is fresh and nothing lost, each folder of which a reading is kept has one
  pub kept_tupfiles : IsRefresh g sources (Ok given) → (dir : Names) (left : Reading) → finite.get g.readings dir ≡ Some left → IsTrue (has_tupfile sources dir)
  kept_tupfiles refreshed dir left here =
      refreshed_tupfiles g sources given refreshed dir left
      (ap₂ (λ (fresh : List (Names × Reading)) (gone : List Names). reading_now g fresh gone dir) none lost ∙ nothing_now g dir ∙ here)
