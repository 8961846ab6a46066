-- What is read and linked of the sources that a graph sees fits it.
use Rattle.std.proofs.Common.{◌≡◌, inl, inr, ℕ, List, [], Option, Some, None, Result, Ok, Err, All, option_map, refl, sym, ap, ◌∙◌, subst}
use Rattle.std.specs.Prelude.{unwrap_or}
use Rattle.std.specs.Bool.{passes}
use Rattle.std.specs.FinMap as finite
use Rattle.std.proofs.lemmas.List.Elements.{All-map, All-nil}
use Rattle.tup_path.specs.Name.{Names, Content}
use Rattle.tup_path.specs.Order.{by_names}
use Rattle.tup_path.specs.Tree.{Tree}
use Rattle.tup_stamp.specs.declared.Stamp.{Stamp}
use Rattle.tup_stamp.specs.Stamp.{stamp}
use Rattle.tup_site.specs.Known.{KnowsTree}
use Rattle.tup_rule.specs.Question.{noted as kept_as}
use Rattle.tup_rule.specs.declared.question.Noted.{Noted}
use Rattle.tup_rule.specs.declared.question.Question.{Question}
use Rattle.tup_rule.specs.declared.question.Question.TheVariants as asks
use Rattle.tup_rule.specs.declared.question.Reading.{Reading}
use Rattle.tup_rule.specs.declared.question.Told.{Told}
use Rattle.tup_rule.specs.declared.rule.Rule.{Rule}
use Rattle.tup_clean.specs.Buildable.{IsBuildable}
use Rattle.tup_clean.proofs.Among.{IsOutputAt-writes}
use Rattle.tup_vars.specs.Config.{config_of}
use Rattle.tup_vars.specs.Table.{Entries, look}
use Rattle.tup_vars.specs.declared.fault.ConfigFault.{ConfigFault}
use Rattle.tup_query.specs.Log.{told_before}
use Rattle.tup_tupfile.specs.Reading.{reading}
use Rattle.tup_readings.specs.Answers.{Readings, answer, awaited}
use Rattle.tup_readings.specs.Readings.{AreAllReadings, AreSomeReadings}
use Rattle.tup_readings.specs.Sources.{settings_of}
use Rattle.tup_readings.proofs.One.{of_tupfiles, reading_in}
use Rattle.tup_project.specs.Project.{AreLinked}
use Rattle.tup_graph.specs.Answers.{IsAnswer, IsSetTo, tup_config, tupfile}
use Rattle.tup_graph.specs.Graph.{GraphState, source}
use Rattle.tup_graph.specs.Records.{Language}
use Rattle.tup_law_graph.specs.Fitting.{AreBeside, AreFitting, AreReadingsOf}
use Rattle.tup_law_graph.specs.Linking.{LinksReadings}
use Rattle.tup_law_graph.proofs.Declared.{reading_stays}
use Rattle.tup_refresh.specs.declared.refreshed.Refreshed.{Refreshed}
use Rattle.tup_refresh.specs.Language.{ReadsTupfiles}
use Rattle.tup_refresh.specs.Refresh.{AreRefreshed, IsRefresh, IsRefreshWith}
use Rattle.tup_refresh.specs.Untouched.{SeesSources}
use Rattle.tup_refresh.proofs.Ending.{refreshed_read}
use Rattle.tup_refresh.proofs.Recording.{all_true_records, known_among, ran_all}
use Rattle.tup_refresh.proofs.Untouched.{empty_sets, is_source_so, kind_stands, names_told, shows}

module _ (known : List Content) (sources : Tree) (g : GraphState) (settings : Entries) (all : Readings) (sees : SeesSources sources g) (tree : KnowsTree known sources) (set : settings_of sources ≡ Ok settings) (are : AreAllReadings sources settings all) where
  -- the graph with these readings
  abbrev now : GraphState
  now = record g { readings = all }

  config_right : (name : List ℕ) → IsSetTo known (source g tup_config) name (look settings name)
  config_right name = subst (λ (s : Option Stamp). IsSetTo known s name (look settings name)) (sym (sees tup_config)) (by (finite.get sources tup_config) refl)
    where
      the : (a b : Entries) → ◌≡◌ {A = Result Entries ConfigFault} (Ok a) (Ok b) → a ≡ b
      the a b e = cc

      by : (found : Option Content) → finite.get sources tup_config ≡ found → IsSetTo known (option_map stamp found) name (look settings name)
      by None none = (let empty : settings ≡ [] = the settings [] (sym set ∙ ap (λ (f : Option Content). config_of (unwrap_or f [])) none ∙ empty_sets) in ap (λ (s : Entries). look s name) empty)
      by (Some content) here =
          (content, settings, known_among known content (tree tup_config content here), refl, sym (ap (λ (f : Option Content). config_of (unwrap_or f [])) here) ∙ set, refl)

  -- what is answered over the readings before one is right, with all of them
  right : (before : Readings) → AreSomeReadings sources settings before → (dir : Names) (question : Question) → awaited sources before dir question ≡ None
      → IsAnswer known (source g) all dir question (kept_as (answer sources settings before dir question))
  right before some dir (asks.Content path) ready = sym (sees path)
  right before some dir (asks.Config name) ready = config_right name
  right before some dir (asks.Names folder) ready =
      (let tups = of_tupfiles sources settings some.0 before some.1 in
      names_told sources now sees settings before tups dir folder (shows sources now sees settings before tups dir folder ready (λ other left of. reading_stays sources settings all before are some other left)))
  right before some dir (asks.Kind path) ready =
      kind_stands sources now sees settings before (of_tupfiles sources settings some.0 before some.1) dir path ready (λ folder left of. reading_stays sources settings all before are some folder left)

  told_right : (dir : Names) (left : Reading) → finite.get all dir ≡ Some left → All (λ (one : Question × Noted). IsAnswer known (source g) all dir one.0 one.1) left.asked
  told_right dir left e =
      let at = reading_in sources settings all are.some dir left e in
      let answered : (question : Question) (given : Told) → told_before at.over.log question ≡ Some given → IsAnswer known (source g) all dir question (kept_as given) = λ question given told.
      let is = at.over.answered question given told in
      subst (λ (t : Told). IsAnswer known (source g) all dir question (kept_as t)) (sym is.1) (right at.before (at.order, at.are) dir question is.0) in
      subst (All (λ (one : Question × Noted). IsAnswer known (source g) all dir one.0 one.1)) (sym at.over.noted)
      (All-map (λ (one : Question × Noted). IsAnswer known (source g) all dir one.0 one.1) (λ (entry : Question × Told). (entry.0, kept_as entry.1)) at.over.log
      (ran_all (λ (one : Question × Told). IsAnswer known (source g) all dir one.0 (kept_as one.1)) [] at.over.log (reading dir) (Ok left.drafts) answered at.over.ran
      (All-nil (λ (one : Question × Told). IsAnswer known (source g) all dir one.0 (kept_as one.1)))))

  pub stand : AreReadingsOf known (source g) all
  stand = record { read = λ dir there. are.all dir (is_source_so sources g sees (tupfile dir) there); told = told_right }

-- rules that can be built over the seen sources stand beside them
beside : (sources : Tree) (g : GraphState) (rules : List Rule) → SeesSources sources g → IsBuildable sources rules → AreBeside (source g) rules
beside sources g rules sees can = record {
  apart = λ number rule path here wrote. sees path ∙ ap (option_map stamp) (can.no_source number path (IsOutputAt-writes rules number rule path here wrote));
  once = λ number other rule same path here there wrote writes_too. can.one_maker number other path (IsOutputAt-writes rules number rule path here wrote) (IsOutputAt-writes rules other same path there writes_too);
}

pub refresh_brings : (language : Language) (known : List Content) (g : GraphState) (sources : Tree) (given : Refreshed) (rules : List Rule) → ReadsTupfiles language → LinksReadings language → KnowsTree known sources
    → SeesSources sources g → IsRefresh g sources (Ok given) → AreLinked given.all rules → IsBuildable sources rules → AreFitting language known g given.fresh given.gone rules
refresh_brings language known g sources given rules reads links tree sees refreshed linked can = by (settings_of sources) refl refreshed
  where
    fits : (settings : Entries) → settings_of sources ≡ Ok settings → AreRefreshed g sources settings given → AreFitting language known g given.fresh given.gone rules
    fits settings set is = record {
      readings = finite.from_sorted given.all;
      together = is.together;
      true_ones = λ dir reading there. all_true_records language known sources given.all dir reading reads tree (refreshed_read g sources (Ok given) refreshed) there;
      stand = stand known sources g settings (finite.from_sorted given.all) sees tree set is.read.1;
      linked = (links (finite.entries (finite.from_sorted {R = by_names} given.all)) rules).1
          (subst (λ (l : List (Names × Reading)). AreLinked l rules) (sym (finite.entries-from_sorted by_names given.all (passes _ is.read.0))) linked);
      beside = beside sources g rules sees can;
    }

    by : (found : Result Entries ConfigFault) → settings_of sources ≡ found → IsRefreshWith g sources found (Ok given) → AreFitting language known g given.fresh given.gone rules
    by (Ok settings) set is = fits settings set is
    by (Err fault) set (inl wrong) = absurd (cc)
    by (Err fault) set (inr wrong) = absurd (cc)
