-- After an update that is done no Tupfile is left to be read.
use Rattle.std.proofs.Common.{◌≡◌, ⊎_elim, inl, inr, ℕ, Bool, true, false, cond, List, [], ◌∷◌, Option, None, Some, Ok, Contains, IsSome, refl, sym, ap, subst, ◌∙◌}
use Rattle.std.specs.FinMap as finite
use Rattle.std.specs.Option.{option_map}
use Rattle.std.specs.Prelude.{option_to_list}
use Rattle.std.proofs.lemmas.Bool.{true≢false}
use Rattle.std.proofs.lemmas.List.Elements.{All-contains}
use Rattle.std.proofs.lemmas.Option.{none-some, same_Some}
use Rattle.tup_path.specs.Name.{Names, Content}
use Rattle.tup_path.specs.Order.{by_names}
use Rattle.tup_path.specs.Tree.{Tree}
use Rattle.tup_stamp.specs.declared.Stamp.{Stamp}
use Rattle.tup_stamp.specs.Stamp.{stamp}
use Rattle.tup_site.specs.Known.{IsKnown, KnowsTree}
use Rattle.tup_site.specs.World.{World}
use Rattle.tup_rule.specs.declared.question.Noted.{Noted}
use Rattle.tup_rule.specs.declared.question.Noted.TheVariants as notes
use Rattle.tup_rule.specs.declared.question.Question.{Question}
use Rattle.tup_rule.specs.declared.question.Question.TheVariants as asks
use Rattle.tup_vars.specs.Table.{Entries}
use Rattle.tup_readings.specs.Readings.{AreAllReadings}
use Rattle.tup_readings.specs.Sources.{settings_of}
use Rattle.tup_runner.specs.Next.{Next}
use Rattle.tup_graph.specs.Answers.{IsAnswer, IsSetTo, IsSource, Readings, Sources, tup_config, tupfile}
use Rattle.tup_graph.specs.Graph.{GraphState, is_created, is_owned, source}
use Rattle.tup_graph.specs.Kept.{IsGraphIn, IsKept, IsKeptWorld}
use Rattle.tup_graph.specs.Reach.{stamp_in}
use Rattle.tup_graph.specs.Scan.{IsStale}
use Rattle.tup_graph.specs.declared.owned.Owned.{Owned}
use Rattle.tup_readers.proofs.Entries.{in_front}
use Rattle.tup_ledger.specs.Sources.{sources_of}
use Rattle.tup_law_graph.proofs.Scanning.{scan_keeps}
use Rattle.tup_law_site.proofs.Stores.{one_in_bytes}
use Rattle.tup_refresh.specs.Refresh.{IsDue}
use Rattle.tup_refresh.proofs.Idling.{not_created}
use Rattle.tup_refresh.proofs.Untouched.{not_due, source_is}
use Rattle.tup_law_phases.specs.Language.{tupfiles}
use Rattle.tup_law_phases.proofs.Seen.{config_known, core_knows, core_knows_tree, knows_sources, sees}
use Rattle.tup_law_phases.proofs.Tupfiles.{is_language}
use Rattle.tup_promise.specs.Did.{HasNoted, IsScannedFrom, ReadsWhatIsDue}
use Rattle.tup_promise.specs.Finished.{ExactlyTheFiles}
use Rattle.tup_promise.specs.Kept.{HaveTupfiles}

-- the stamp of a source was seen there
seen_there : (owned : Bool) (seen : Option Stamp) (found : Stamp) → cond owned None seen ≡ Some found → seen ≡ Some found
seen_there true seen found at = absurd (none-some found at)
seen_there false seen found at = at

-- ---- what is answered by known contents is answered by fewer, where tup.config is among these

module _ (known fewer : List Content) (sources : Sources) (readings : Readings) (reader : Names)
    (also : (found : Stamp) (content : Content) → sources tup_config ≡ Some found → Contains known content → stamp content ≡ found → Contains fewer content) where
  set_still : (found : Option Stamp) → sources tup_config ≡ found → (name : List ℕ) (value : Option (List ℕ)) → IsSetTo known found name value → IsSetTo fewer found name value
  set_still None at name value is = is
  set_still (Some found) at name value (content, entries, there, same, reads, is) = (content, entries, also found content at there same, same, reads, is)

  answer_still : (question : Question) (noted : Noted) → IsAnswer known sources readings reader question noted → IsAnswer fewer sources readings reader question noted
  answer_still (asks.Content path) (notes.Content seen) is = is
  answer_still (asks.Content path) (notes.Config value) is = absurd is
  answer_still (asks.Content path) (notes.Names names) is = absurd is
  answer_still (asks.Content path) (notes.Kind kind) is = absurd is
  answer_still (asks.Config name) (notes.Content seen) is = absurd is
  answer_still (asks.Config name) (notes.Config value) is = set_still (sources tup_config) refl name value is
  answer_still (asks.Config name) (notes.Names names) is = absurd is
  answer_still (asks.Config name) (notes.Kind kind) is = absurd is
  answer_still (asks.Names dir) (notes.Content seen) is = absurd is
  answer_still (asks.Names dir) (notes.Config value) is = absurd is
  answer_still (asks.Names dir) (notes.Names names) is = is
  answer_still (asks.Names dir) (notes.Kind kind) is = absurd is
  answer_still (asks.Kind path) (notes.Content seen) is = absurd is
  answer_still (asks.Kind path) (notes.Config value) is = absurd is
  answer_still (asks.Kind path) (notes.Names names) is = absurd is
  answer_still (asks.Kind path) (notes.Kind kind) is = is

-- ---- a kept graph in the store of a world, which has seen the files as they are and marks no folder
module _ (next : Next) (known : List Content) (w : World) (h : GraphState) (stored : IsGraphIn w.store h) (is_kept : IsKept next tupfiles known h) (apart : IsKnown known) (knows : KnowsTree known w.tree)
    (created : h.created ≡ finite.empty) (seen : (path : Names) → finite.get h.seen path ≡ stamp_in w.tree path) (read : HaveTupfiles (sources_of h w.tree) h) where
  abbrev config : Option Content
  config = finite.get w.tree tup_config

  -- a known content with the stamp that was seen of tup.config is the one that stands there
  stands : (found : Stamp) → source h tup_config ≡ Some found → option_map stamp config ≡ Some found
  stands found at = sym (seen tup_config) ∙ seen_there (is_owned h tup_config) (finite.get h.seen tup_config) found at

  also : (found : Stamp) (content : Content) → source h tup_config ≡ Some found → Contains known content → stamp content ≡ found → Contains (option_to_list config) content
  also found content at there same = by config refl (stands found at)
    where
      by : (file : Option Content) → config ≡ file → option_map stamp file ≡ Some found → Contains (option_to_list config) content
      by None is stamped = absurd (none-some found stamped)
      by (Some file) is stamped =
          let one : content ≡ file = core_knows known apart content file there (core_knows_tree known w.tree tup_config file knows is) (same ∙ sym (same_Some (stamp file) found stamped)) in
          subst (λ (c : Option Content). Contains (option_to_list c) content) (sym is) (subst (Contains (file ∷ [])) (sym one) (in_front file []))

  -- once the files are noted
  module _ (g : GraphState) (noted : HasNoted w g) where
    scan : IsScannedFrom h config g
    scan = subst (λ (was : GraphState). IsScannedFrom was config g) (one_in_bytes w.store noted.noted.was h noted.noted.stored stored) noted.noted.scanned

    owned_same : (path : Names) → is_owned g path ≡ is_owned h path
    owned_same path = ap (λ (m : finite.FinMap by_names Owned). finite.contains_key m path) scan.1.owned

    reading_same : (dir : Names) → finite.get g.readings dir ≡ finite.get h.readings dir
    reading_same dir = ap (λ (m : Readings). finite.get m dir) scan.1.readings

    source_same : (path : Names) → source g path ≡ source h path
    source_same path =
        ap (λ (owned : Bool). cond owned None (finite.get g.seen path)) (owned_same path)
        ∙ ap (λ (found : Option Stamp). cond (is_owned h path) None found) (noted.seen path ∙ sym (seen path))

    as_before : source g ≡ source h
    as_before = λ i path. source_same path i

    -- no folder is to be read: what was told holds
    not_stale : (dir : Names) → IsStale g config dir → ⊥
    not_stale dir (inl (has, none)) =
        let some = is_kept.agrees.read dir (subst (λ (s : Sources). IsSource s (tupfile dir)) as_before has) (not_created h created dir) in
        let wrong = subst IsSome (sym (reading_same dir) ∙ none) some in
        cc
    not_stale dir (inr (reading, here, inl lacks)) =
        lacks (subst (λ (s : Sources). IsSource s (tupfile dir)) (sym as_before)
        (source_is (sources_of h w.tree) h (sees h w.tree seen) (tupfile dir) (read dir reading (sym (reading_same dir) ∙ here))))
    not_stale dir (inr (reading, here, inr (question, told, asked, other))) =
        let answers = is_kept.agrees.told dir reading (sym (reading_same dir) ∙ here) (not_created h created dir) in
        other (subst (λ (r : Readings). IsAnswer (option_to_list config) (source g) r dir question told) (sym scan.1.readings)
        (subst (λ (s : Sources). IsAnswer (option_to_list config) s h.readings dir question told) (sym as_before)
        (answer_still known (option_to_list config) (source h) h.readings dir also question told
        (All-contains (λ (one : Question × Noted). IsAnswer known (source h) h.readings dir one.0 one.1) reading.asked (question, told) answers asked))))

    unmarked : (dir : Names) → is_created g dir ≡ false
    unmarked dir = by (is_created g dir) refl
      where
        by : (marked : Bool) → is_created g dir ≡ marked → is_created g dir ≡ false
        by false is = is
        by true is = absurd (⊎_elim (λ was. true≢false (sym was ∙ not_created h created dir)) (not_stale dir) ((scan.1.created dir).0 is))

    kept_then : IsKept next tupfiles known g
    kept_then = scan_keeps next tupfiles known h g scan.0 config is_kept (config_known known w.tree config knows refl) scan.1

    none_to_read : (settings : Entries) (all : Readings) → settings_of (sources_of g w.tree) ≡ Ok settings → AreAllReadings (sources_of g w.tree) settings all → (dir : Names) → IsDue g (sources_of g w.tree) settings all dir → ⊥
    none_to_read settings all set are dir due =
        not_due next tupfiles known g (sources_of g w.tree) settings is_language.0 apart (knows_sources g w.tree known knows) kept_then (sees g w.tree noted.seen) set all are dir (λ folders last leads. unmarked last) due

  -- so none is read
  pub none_read : (list : List Names) → ReadsWhatIsDue w list → list ≡ []
  none_read [] reads = refl
  none_read (dir ∷ rest) reads =
      absurd (none_to_read reads.graph reads.noted reads.settings (finite.from_sorted reads.readings) reads.config reads.are.1 dir ((reads.just dir).0 (in_front dir rest)))

pub none_read_then : (next : Next) (known : List Content) (old new : World) (list : List Names) → ExactlyTheFiles next old new None → IsKeptWorld next tupfiles known new → IsKnown known → KnowsTree known new.tree → ReadsWhatIsDue new list → list ≡ []
none_read_then next known old new list (g, mine, (h, stored, done)) kept apart knows =
    none_read next known new h stored (subst (IsKept next tupfiles known) (one_in_bytes new.store kept.graph h kept.reads stored) kept.kept) apart knows done.created done.seen
    (subst (λ (sources : Tree). HaveTupfiles sources h) (sym done.sources_are) done.read) list
