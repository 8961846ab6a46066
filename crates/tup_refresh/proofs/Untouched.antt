-- What isn't flagged, and leads to nothing that is, isn't read.
use Rattle.std.proofs.Common.{◌≡◌, ◌≢◌, ◌↔◌, inl, inr, ℕ, zero, suc, Bool, true, false, cond, not, ◌&&◌, ◌||◌, List, [], ◌∷◌, ◌++◌, Option, Some, None, is_some, is_none, IsSome, IsTrue, Result, Ok, Err, refl, sym, ap, ◌∙◌, subst, arith}
use Rattle.std.specs.Prelude.{option_and_then, unwrap_or}
use Rattle.std.specs.FinMap as finite
use Rattle.std.specs.List.{Contains}
use Rattle.std.specs.List.Sorted.{IsStrictlySortedBy}
use Rattle.std.specs.Option.{option_map}
use Rattle.std.specs.Result.{result_ok}
use Rattle.std.specs.Str.Lines.{lines as cut_lines}
use Rattle.std.proofs.lemmas.Bool.{true≢false}
use Rattle.std.proofs.lemmas.Cmp.{nat_list_cmp_total}
use Rattle.std.proofs.lemmas.List.Elements.{All-contains, Contains-append_cases, Contains-append_left, Contains-append_right}
use Rattle.std.proofs.lemmas.List.Folds.{Any-from_list_any, list_any-from_Any}
use Rattle.std.proofs.lemmas.Str.{IsUtf8-nil, is_utf8-from_IsUtf8}
use Rattle.tup_path.specs.Name.{Names, Content}
use Rattle.tup_path.specs.Order.{by_bytes, by_names, same_path}
use Rattle.tup_path.specs.Resolve.{above}
use Rattle.tup_path.specs.Tree.{Tree, IsBelow}
use Rattle.tup_path.proofs.Same.{same_path-decides, by_names-decides}
use Rattle.tup_stamp.specs.declared.Stamp.{Stamp}
use Rattle.tup_stamp.specs.Stamp.{stamp}
use Rattle.tup_site.specs.Known.{IsKnown, KnowsTree}
use Rattle.tup_rule.specs.Question.{noted as kept_as}
use Rattle.tup_rule.specs.Rule.{among}
use Rattle.tup_rule.specs.declared.draft.Draft.{Draft}
use Rattle.tup_rule.specs.declared.question.Kind.{Kind}
use Rattle.tup_rule.specs.declared.question.Kind.TheVariants.{Nothing, File, Dir}
use Rattle.tup_rule.specs.declared.question.Noted.{Noted}
use Rattle.tup_rule.specs.declared.question.Noted.TheVariants as kept
use Rattle.tup_rule.specs.declared.question.Question.{Question}
use Rattle.tup_rule.specs.declared.question.Question.TheVariants as asks
use Rattle.tup_rule.specs.declared.question.Reading.{Reading}
use Rattle.tup_rule.specs.declared.question.Told.{Told}
use Rattle.tup_lex.specs.Line.{wrong_line}
use Rattle.tup_lex.specs.declared.kind.ParseKind.TheVariants.{NotUtf8}
use Rattle.tup_vars.specs.Config.{config_of, settings as lines_set}
use Rattle.tup_vars.specs.Table.{Entries, look}
use Rattle.tup_vars.specs.declared.fault.ConfigFault.{ConfigFault}
use Rattle.tup_vars.specs.declared.fault.ConfigFault.TheVariants.{At}
use Rattle.tup_query.specs.declared.fault.ParseFault.{ParseFault}
use Rattle.tup_query.specs.Log.{noted_log}
use Rattle.tup_rule_line.proofs.Below.{below_is, below_so}
use Rattle.tup_rule_line.specs.Glob.{names_among, in_order}
use Rattle.tup_rule_line.specs.Making.{made_by, is_made}
use Rattle.tup_tupfile.specs.Reading.{reading}
use Rattle.tup_readings.specs.Answers.{Readings, other_drafts, seen_drafts, names_in, made_kind, kind_at, is_unread, unread, folder_told, awaited, answer}
use Rattle.tup_readings.specs.Readings.{IsReadingOver, AreReadings, AreAllReadings}
use Rattle.tup_readings.specs.Sources.{is_source, is_below, has_below, has_tupfile, settings_of, tupfile, home}
use Rattle.tup_readings.proofs.Alike.{ToldAlike, runs_alike}
use Rattle.tup_readings.proofs.Below.{last_item, above_named}
use Rattle.tup_readings.proofs.Homes.{home_is, is_home}
use Rattle.tup_readings.proofs.Logs.{fit_from_start}
use Rattle.tup_readings.proofs.More.{get_more}
use Rattle.tup_readings.proofs.One.{AreOfTupfiles, of_tupfiles}
use Rattle.tup_runner.specs.Next.{Next}
use Rattle.tup_graph.specs.Answers.{tup_config, IsHome, IsSource, IsDrafted, IsOutputFor, IsOutputOf, IsFileFor, HasSourceBelow, IsKind, IsSetTo, IsAnswer}
use Rattle.tup_graph.specs.Graph.{GraphState, is_created, source}
use Rattle.tup_graph.specs.Kept.{IsKept}
use Rattle.tup_graph.specs.Records.{Language}
use Rattle.tup_graph.proofs.Maps.{by_bytes-antisymmetric}
use Rattle.tup_readers.proofs.Entries.{none_in}
use Rattle.tup_closure.proofs.Members.{listed, in_list}
use Rattle.tup_scan_diff.proofs.Answered.{one_kind}
use Rattle.tup_closure.proofs.Ordered.{same_members}
use Rattle.tup_refresh.specs.declared.refreshed.Refreshed.{Refreshed}
use Rattle.tup_refresh.specs.Language.{ReadsTupfiles}
use Rattle.tup_refresh.specs.Refresh.{IsDue, AreRefreshed, IsRefresh, IsRefreshWith, IsTrueBeside}
use Rattle.tup_refresh.specs.Untouched.{SeesSources, HasAskedOf, IsUntouched}
use Rattle.tup_refresh.proofs.Answering.{same_told, noted_there, told_there}
use Rattle.tup_refresh.proofs.Ending.{kept_is}
use Rattle.tup_refresh.proofs.Ordering.{all_only, all_there, sorted_from_none, named_there, there_named}
use Rattle.tup_refresh.proofs.Recorded.{known_there, true_beside}

-- ---- lists and paths

among_is : (path : Names) (paths : List Names) → among path paths ≡ true → Contains paths path
among_is path paths e =
    let found = Any-from_list_any (same_path path) paths e in
    subst (Contains paths) (sym ((same_path-decides path found.1).0 found.4)) (found.0, found.2, found.3)

is_among : (path : Names) (paths : List Names) → Contains paths path → among path paths ≡ true
is_among path paths h = list_any-from_Any (same_path path) paths (h.0, path, h.1, h.2, (same_path-decides path path).1 refl)

pub made_is : (drafts : List Draft) (path : Names) → is_made drafts path ≡ true → IsDrafted drafts path
made_is drafts path e =
    let found = Any-from_list_any (λ (draft : Draft). among path draft.outputs) drafts e in
    (found.1, (found.0, found.2, found.3), among_is path found.1.outputs found.4)

pub is_made_so : (drafts : List Draft) (path : Names) → IsDrafted drafts path → is_made drafts path ≡ true
is_made_so drafts path (draft, h, out) = list_any-from_Any (λ (draft : Draft). among path draft.outputs) drafts (h.0, draft, h.1, h.2, is_among path draft.outputs out)

pub made_there : (drafts : List Draft) (path : Names) → Contains (made_by drafts) path → IsDrafted drafts path
made_there [] path h = absurd (none_in path h)
made_there (draft ∷ drafts) path h = elim (Contains-append_cases draft.outputs (made_by drafts) path h) [
  | inl here ↦ (draft, (0, omega arith, refl), here)
  | inr later ↦
      let there = made_there drafts path later in
      let less = there.1.1 in
      (there.0, (suc there.1.0, omega arith, there.1.2), there.2)
]

pub there_made : (drafts : List Draft) (path : Names) → IsDrafted drafts path → Contains (made_by drafts) path
there_made [] path (draft, h, out) = absurd (none_in draft h)
there_made (first ∷ drafts) path (draft, (zero, less, is), out) =
    Contains-append_left first.outputs (made_by drafts) path (subst (λ (d : Draft). Contains d.outputs path) (sym is) out)
there_made (first ∷ drafts) path (draft, (suc k, less, is), out) =
    Contains-append_right first.outputs (made_by drafts) path (there_made drafts path (draft, (k, omega arith, is), out))

has_below_is : (paths : List Names) (folder : Names) → has_below paths folder ≡ true → (file : Names) × Contains paths file × IsBelow folder file
has_below_is paths folder e =
    let found = Any-from_list_any (is_below folder) paths e in
    (found.1, (found.0, found.2, found.3), below_is folder found.1 found.4)

has_below_so : (paths : List Names) (folder file : Names) → Contains paths file → IsBelow folder file → has_below paths folder ≡ true
has_below_so paths folder file h below =
    list_any-from_Any (is_below folder) paths (h.0, file, h.1, h.2, below_so folder file below)

-- an empty tup.config sets nothing
pub empty_sets : config_of [] ≡ Ok []
empty_sets = ap (λ (b : Bool). cond {A = Result Entries ConfigFault} b (lines_set (cut_lines [])) (Err (At (wrong_line []) NotUtf8))) (is_utf8-from_IsUtf8 [] IsUtf8-nil)

-- ---- the sources that a graph sees

some_mapped : (found : Option Content) → is_some found ≡ true → IsSome (option_map stamp found)
some_mapped (Some content) e = refl
some_mapped None e = cc

mapped_some : (found : Option Content) → IsSome (option_map stamp found) → is_some found ≡ true
mapped_some (Some content) e = refl
mapped_some None e = cc

module _ (sources : Tree) (g : GraphState) (sees : SeesSources sources g) where
  pub source_is : (path : Names) → is_source sources path ≡ true → IsSource (source g) path
  source_is path e = subst IsSome (sym (sees path)) (some_mapped (finite.get sources path) e)

  pub is_source_so : (path : Names) → IsSource (source g) path → is_source sources path ≡ true
  is_source_so path s = mapped_some (finite.get sources path) (subst IsSome (sees path) s)

  pub key_there : (path : Names) → is_source sources path ≡ true → Contains (finite.keys sources) path
  key_there path e = listed by_names by_names-decides (finite.keys sources) path (sym (finite.contains_key-keys sources path) ∙ e)

  pub key_is : (path : Names) → Contains (finite.keys sources) path → is_source sources path ≡ true
  key_is path h = finite.contains_key-keys sources path ∙ in_list by_names by_names-decides (finite.keys sources) path h

  -- ---- homes

  not_source : (path : Names) → (IsSource (source g) path → ⊥) → is_source sources path ≡ false
  not_source path none = by (is_source sources path) refl
    where
      by : (b : Bool) → is_source sources path ≡ b → is_source sources path ≡ false
      by true there = absurd (none (source_is path there))
      by false there = there

  -- the home of a folder is what the graph says of it
  pub home_seen : (dir folder : Names) → home sources dir ≡ Some folder → IsHome (source g) dir folder
  home_seen dir folder e =
      let is = home_is sources dir folder e in
      record {
        above = is.above;
        has_tupfile = source_is (tupfile folder) is.has;
        nearest = λ other below up there. true≢false (sym (is_source_so (tupfile other) there) ∙ is.nearest other below up);
      }

  pub seen_home : (dir folder : Names) → IsHome (source g) dir folder → home sources dir ≡ Some folder
  seen_home dir folder is =
      is_home sources dir folder (record {
        above = is.above;
        has = is_source_so (tupfile folder) is.has_tupfile;
        nearest = λ other below up. not_source (tupfile other) (is.nearest other below up);
      })

  -- ---- what the rules of a folder's home show

  -- these are the rules of a folder that the reading of another one is told of
  record ShowsRules (reader folder : Names) (drafts : List Draft) : Type 0 where
    pub out : (path : Names) → IsDrafted drafts path → (folder ≢ reader) × IsOutputOf (source g) g.readings folder path
    pub back : (path : Names) → folder ≢ reader → IsOutputOf (source g) g.readings folder path → IsDrafted drafts path

  -- these are the rules that may make files in a folder, as far as a reading is told of them
  pub record Shows (reader dir : Names) (drafts : List Draft) : Type 0 where
    pub out : (path : Names) → IsDrafted drafts path → IsOutputFor (source g) g.readings reader dir path
    pub back : (path : Names) → IsOutputFor (source g) g.readings reader dir path → IsDrafted drafts path

  module _ (settings : Entries) (readings : Readings) (tups : AreOfTupfiles sources settings readings) (reader : Names) where
    shows_rules : (folder : Names) → unread sources readings reader folder ≡ None → ((left : Reading) → finite.get readings folder ≡ Some left → finite.get g.readings folder ≡ Some left) → ShowsRules reader folder (other_drafts readings reader folder)
    shows_rules folder ready agree = by (same_path reader folder) refl (finite.get readings folder) refl
      where
        flat : (b : Bool) → cond b (Some folder) None ≡ None → b ≡ false
        flat true e = cc
        flat false e = refl

        own : (drafts : List Draft) → reader ≡ folder → drafts ≡ [] → ShowsRules reader folder drafts
        own drafts same none = record {
          out = λ path h. absurd (none_in h.0 (subst (λ (l : List Draft). Contains l h.0) none h.1));
          back = λ path apart out. absurd (apart (sym same));
        }

        by : (b : Bool) → same_path reader folder ≡ b → (found : Option Reading) → finite.get readings folder ≡ found → ShowsRules reader folder (cond b [] (elim found as (λ _. List Draft) [ Some left ↦ left.drafts | None ↦ [] ]))
        by true same found e = own [] ((same_path-decides reader folder).0 same) refl
        by false apart None e = record {
          out = λ path h. absurd (none_in h.0 h.1);
          back = λ path other out.
              let has : has_tupfile sources folder ≡ true = is_source_so (tupfile folder) out.has_tupfile in
              let on : is_unread sources readings reader folder ≡ true =
              ap (λ b. not b && has_tupfile sources folder && is_none (finite.get readings folder)) apart
              ∙ ap (λ b. b && is_none (finite.get readings folder)) has ∙ ap (λ (f : Option Reading). is_none f) e in
              absurd (true≢false (sym on ∙ flat (is_unread sources readings reader folder) ready));
        }
        by false apart (Some left) e = record {
          out = λ path h. (
            λ same. true≢false (sym ((same_path-decides reader folder).1 (sym same)) ∙ apart),
            record { reading = left; kept = agree left e; has_tupfile = source_is (tupfile folder) (tups folder left e); drafted = h },
          );
          back = λ path other out. subst (λ (r : Reading). IsDrafted r.drafts path) (the out.reading left (sym out.kept ∙ agree left e)) out.drafted;
        }
          where
            the : (a b : Reading) → Some a ≡ Some b → a ≡ b
            the a b e = cc

    pub shows : (dir : Names) → option_and_then (unread sources readings reader) (home sources dir) ≡ None
        → ((folder : Names) (left : Reading) → home sources dir ≡ Some folder → finite.get readings folder ≡ Some left → finite.get g.readings folder ≡ Some left)
        → Shows reader dir (seen_drafts sources readings reader dir)
    shows dir ready agree = by (home sources dir) refl ready
      where
        the : (a b : Names) → Some a ≡ Some b → a ≡ b
        the a b e = cc

        nothing : (folder : Names) → None ≡ Some folder → ⊥
        nothing folder e = cc

        by : (found : Option Names) → home sources dir ≡ found → option_and_then (unread sources readings reader) found ≡ None
            → Shows reader dir (elim found as (λ _. List Draft) [ Some folder ↦ other_drafts readings reader folder | None ↦ [] ])
        by None e ready = record {
          out = λ path h. absurd (none_in h.0 h.1);
          back = λ path out. absurd (nothing out.0 (sym e ∙ seen_home dir out.0 out.1));
        }
        by (Some folder) e ready =
            let rules = shows_rules folder ready (λ left. agree folder left e) in
            record {
              out = λ path h. (folder, home_seen dir folder e, (rules.out path h).0, (rules.out path h).1);
              back = λ path out.
                  let same : out.0 ≡ folder = the out.0 folder (sym (seen_home dir out.0 out.1) ∙ e) in
                  rules.back path (subst (λ d. d ≢ reader) same out.2) (subst (λ d. IsOutputOf (source g) g.readings d path) same out.3);
            }

    -- ---- answers

    -- the names that are told are in order, and just those of the files there
    pub names_told : (folder : Names) → Shows reader folder (seen_drafts sources readings reader folder)
        → IsStrictlySortedBy by_bytes (names_in sources readings reader folder) × ((name : List ℕ) → Contains (names_in sources readings reader folder) name ↔ IsFileFor (source g) g.readings reader folder name)
    names_told folder shown = (sorted_from_none by_bytes nat_list_cmp_total by_bytes-antisymmetric among_all, λ name. (file name, there name))
      where
        among_all : List (List ℕ)
        among_all = names_among folder (finite.keys sources ++ made_by (seen_drafts sources readings reader folder))

        file : (name : List ℕ) → Contains (in_order (names_among folder (finite.keys sources ++ made_by (seen_drafts sources readings reader folder)))) name → IsFileFor (source g) g.readings reader folder name
        file name h = elim (all_only by_bytes nat_list_cmp_total by_bytes-antisymmetric [] among_all name h) [
          | inl none ↦ absurd (none_in name none)
          | inr some ↦ elim (Contains-append_cases (finite.keys sources) (made_by (seen_drafts sources readings reader folder)) (folder ++ name ∷ [])
              (named_there folder (finite.keys sources ++ made_by (seen_drafts sources readings reader folder)) name some)) [
                | inl key ↦ inl (source_is (folder ++ name ∷ []) (key_is (folder ++ name ∷ []) key))
                | inr made ↦ inr (shown.out (folder ++ name ∷ []) (made_there (seen_drafts sources readings reader folder) (folder ++ name ∷ []) made))
              ]
        ]

        path_there : (name : List ℕ) → IsFileFor (source g) g.readings reader folder name → Contains (finite.keys sources ++ made_by (seen_drafts sources readings reader folder)) (folder ++ name ∷ [])
        path_there name (inl s) = Contains-append_left (finite.keys sources) (made_by (seen_drafts sources readings reader folder)) (folder ++ name ∷ []) (key_there (folder ++ name ∷ []) (is_source_so (folder ++ name ∷ []) s))
        path_there name (inr out) = Contains-append_right (finite.keys sources) (made_by (seen_drafts sources readings reader folder)) (folder ++ name ∷ [])
            (there_made (seen_drafts sources readings reader folder) (folder ++ name ∷ []) (shown.back (folder ++ name ∷ []) out))

        there : (name : List ℕ) → IsFileFor (source g) g.readings reader folder name → Contains (in_order (names_among folder (finite.keys sources ++ made_by (seen_drafts sources readings reader folder)))) name
        there name is = all_there by_bytes nat_list_cmp_total by_bytes-antisymmetric [] among_all name (inr (there_named folder (finite.keys sources ++ made_by (seen_drafts sources readings reader folder)) name (path_there name is)))

    names_stand : (folder : Names) (names : List (List ℕ)) → Shows reader folder (seen_drafts sources readings reader folder) → IsStrictlySortedBy by_bytes names
        → ((name : List ℕ) → Contains names name ↔ IsFileFor (source g) g.readings reader folder name) → names_in sources readings reader folder ≡ names
    names_stand folder names shown up each =
        let told = names_told folder shown in
        same_members by_bytes nat_list_cmp_total (names_in sources readings reader folder) names told.0 up (λ name h. (each name).1 ((told.1 name).0 h)) (λ name h. (told.1 name).1 ((each name).0 h))

    below_there : (path : Names) → has_below (finite.keys sources) path ≡ true → HasSourceBelow (source g) path
    below_there path e =
        let found = has_below_is (finite.keys sources) path e in
        (found.0, found.2, source_is found.0 (key_is found.0 found.1))

    none_below : (path : Names) → has_below (finite.keys sources) path ≡ false → HasSourceBelow (source g) path → ⊥
    none_below path e (file, below, s) = true≢false (sym (has_below_so (finite.keys sources) path file (key_there file (is_source_so file s)) below) ∙ e)

    no_source : (path : Names) → is_source sources path ≡ false → IsSource (source g) path → ⊥
    no_source path e s = true≢false (sym (is_source_so path s) ∙ e)

    -- where neither a source nor a folder of sources stands
    made_stands : (path : Names) → is_source sources path ≡ false → has_below (finite.keys sources) path ≡ false → (up : Option Names) → result_ok (above path) ≡ up
        → ((folder : Names) → up ≡ Some folder → Shows reader folder (seen_drafts sources readings reader folder))
        → IsKind (source g) g.readings reader path (elim up as (λ _. Kind) [ Some dir ↦ made_kind sources readings reader dir path | None ↦ Nothing ])
    made_stands path lacks none None top shown =
        (no_source path lacks, none_below path none, λ (dir, name, is, out). nothing dir (sym top ∙ ap (λ p. result_ok (above p)) is ∙ above_named dir name))
      where
        nothing : (dir : Names) → None ≡ Some dir → ⊥
        nothing dir e = cc
    made_stands path lacks none (Some up) top shown = by (is_made (seen_drafts sources readings reader up) path) refl
      where
        the : (a b : Names) → Some a ≡ Some b → a ≡ b
        the a b e = cc

        parts : (front : Names) × (last : List ℕ) × (path ≡ front ++ last ∷ [])
        parts = elim (last_item path) [
          | inl empty ↦ absurd (at_top (sym (ap (λ p. result_ok (above p)) empty) ∙ top))
          | inr some ↦ some
        ]
          where
            at_top : result_ok (above []) ≡ Some up → ⊥
            at_top e = cc

        up_is : parts.0 ≡ up
        up_is = the parts.0 up (sym (above_named parts.0 parts.1) ∙ ap (λ p. result_ok (above p)) (sym parts.2) ∙ top)

        by : (b : Bool) → is_made (seen_drafts sources readings reader up) path ≡ b → IsKind (source g) g.readings reader path (cond b File Nothing)
        by true made =
            let out = (shown up refl).out path (made_is (seen_drafts sources readings reader up) path made) in
            inr (none_below path none, (up, parts.1, parts.2 ∙ ap (λ f. f ++ parts.1 ∷ []) up_is, out))
        by false made = (
          no_source path lacks,
          none_below path none,
          λ (dir, name, is, out).
              let dir_is : dir ≡ up = the dir up (sym (above_named dir name) ∙ ap (λ p. result_ok (above p)) (sym is) ∙ top) in
              true≢false
              (sym (is_made_so (seen_drafts sources readings reader up) path
              ((shown up refl).back path (subst (λ d. IsOutputFor (source g) g.readings reader d path) dir_is out))) ∙ made),
        )

    pub kind_stands : (path : Names) → awaited sources readings reader (asks.Kind path) ≡ None
        → ((folder : Names) (left : Reading) → folder_told sources (asks.Kind path) ≡ Some folder → finite.get readings folder ≡ Some left → finite.get g.readings folder ≡ Some left)
        → IsKind (source g) g.readings reader path (kind_at sources readings reader path)
    kind_stands path ready agree = by (is_source sources path) refl (has_below (finite.keys sources) path) refl ready agree
      where
        by : (s : Bool) → is_source sources path ≡ s → (b : Bool) → has_below (finite.keys sources) path ≡ b
            → option_and_then (unread sources readings reader) (cond (s || b) None (option_and_then (home sources) (result_ok (above path)))) ≡ None
            → ((folder : Names) (left : Reading) → cond (s || b) None (option_and_then (home sources) (result_ok (above path))) ≡ Some folder → finite.get readings folder ≡ Some left → finite.get g.readings folder ≡ Some left)
            → IsKind (source g) g.readings reader path (cond s File (cond b Dir (elim (result_ok (above path)) as (λ _. Kind) [ Some dir ↦ made_kind sources readings reader dir path | None ↦ Nothing ])))
        by true is b below ready agree = inl (source_is path is)
        by false lacks true below ready agree = (no_source path lacks, below_there path below)
        by false lacks false none ready agree =
            made_stands path lacks none (result_ok (above path)) refl
            (λ dir up. shows dir (ap (λ (u : Option Names). option_and_then (unread sources readings reader) (option_and_then (home sources) u)) (sym up) ∙ ready)
            (λ folder left e. agree folder left (ap (option_and_then (home sources)) up ∙ e)))

    module _ (known : List Content) (is_known : IsKnown known) (tree : KnowsTree known sources) (set : settings_of sources ≡ Ok settings) where
      config_stands : (name : List ℕ) (value : Option (List ℕ)) → IsSetTo known (source g tup_config) name value → look settings name ≡ value
      config_stands name value is = by (finite.get sources tup_config) refl (subst (λ (s : Option Stamp). IsSetTo known s name value) (sees tup_config) is)
        where
          the : (a b : Entries) → ◌≡◌ {A = Result Entries ConfigFault} (Ok a) (Ok b) → a ≡ b
          the a b e = cc

          by : (found : Option Content) → finite.get sources tup_config ≡ found → IsSetTo known (option_map stamp found) name value → look settings name ≡ value
          by None none is =
              let empty : settings ≡ [] = the settings [] (sym set ∙ ap (λ (f : Option Content). config_of (unwrap_or f [])) none ∙ empty_sets) in
              ap (λ (s : Entries). look s name) empty ∙ sym is
          by (Some content) here (known_one, entries, there, stamped, reads, value_is) =
              let same : known_one ≡ content = is_known known_one content (known_there known known_one there) (tree tup_config content here) stamped in
              let entries_are : entries ≡ settings =
              the entries settings (sym reads ∙ ap config_of same ∙ sym (ap (λ (f : Option Content). config_of (unwrap_or f [])) here) ∙ set) in
              ap (λ (s : Entries). look s name) (sym entries_are) ∙ sym value_is

      -- an answer of sources and kept readings is what is answered, where the readings asked about are the kept ones
      answer_stands : (question : Question) (given : Noted) → IsAnswer known (source g) g.readings reader question given → awaited sources readings reader question ≡ None
          → ((folder : Names) (left : Reading) → folder_told sources question ≡ Some folder → finite.get readings folder ≡ Some left → finite.get g.readings folder ≡ Some left)
          → kept_as (answer sources settings readings reader question) ≡ given
      answer_stands (asks.Content path) (kept.Content seen) is ready agree = ap (λ s. kept.Content s) (sym (sees path) ∙ sym is)
      answer_stands (asks.Config name) (kept.Config value) is ready agree = ap (λ v. kept.Config v) (config_stands name value is)
      answer_stands (asks.Names folder) (kept.Names names) is ready agree =
          ap (λ n. kept.Names n) (names_stand folder names (shows folder ready agree) is.0 is.1)
      answer_stands (asks.Kind path) (kept.Kind kind) is ready agree =
          ap (λ k. kept.Kind k) (one_kind (source g) g.readings reader path (kind_at sources readings reader path) kind (kind_stands path ready agree) is)
      answer_stands (asks.Content path) (kept.Config value) is ready agree = absurd is
      answer_stands (asks.Content path) (kept.Names names) is ready agree = absurd is
      answer_stands (asks.Content path) (kept.Kind kind) is ready agree = absurd is
      answer_stands (asks.Config name) (kept.Content seen) is ready agree = absurd is
      answer_stands (asks.Config name) (kept.Names names) is ready agree = absurd is
      answer_stands (asks.Config name) (kept.Kind kind) is ready agree = absurd is
      answer_stands (asks.Names folder) (kept.Content seen) is ready agree = absurd is
      answer_stands (asks.Names folder) (kept.Config value) is ready agree = absurd is
      answer_stands (asks.Names folder) (kept.Kind kind) is ready agree = absurd is
      answer_stands (asks.Kind path) (kept.Content seen) is ready agree = absurd is
      answer_stands (asks.Kind path) (kept.Config value) is ready agree = absurd is
      answer_stands (asks.Kind path) (kept.Names names) is ready agree = absurd is

-- ---- readings that stay

module _ (next : Next) (language : Language) (known : List Content) (g : GraphState) (sources : Tree) (settings : Entries) (reads : ReadsTupfiles language) (is_known : IsKnown known) (tree : KnowsTree known sources)
    (is_kept : IsKept next language known g) (sees : SeesSources sources g) (set : settings_of sources ≡ Ok settings) where
  untouched_on : (dir other : Names) → HasAskedOf sources g dir other → IsUntouched sources g dir → IsUntouched sources g other
  untouched_on dir other asked untouched = λ more last leads. untouched (suc more) last (other, asked, leads)

  -- a folder that isn't flagged has a kept reading
  pub one_kept : (dir : Names) → IsTrue (has_tupfile sources dir) → is_created g dir ≡ false → (left : Reading) × (finite.get g.readings dir ≡ Some left)
  one_kept dir has off = by (finite.get g.readings dir) refl (is_kept.agrees.read dir (source_is sources g sees (tupfile dir) has) off)
    where
      by : (found : Option Reading) → finite.get g.readings dir ≡ found → IsSome (finite.get g.readings dir) → (left : Reading) × (finite.get g.readings dir ≡ Some left)
      by (Some left) e some = (left, e)
      by None e some = absurd (true≢false (sym (subst (λ (f : Option Reading). is_some f ≡ true) e some)))

  module _ (before : Readings) (tups : AreOfTupfiles sources settings before) (stay : (dir : Names) (left : Reading) → finite.get before dir ≡ Some left → IsUntouched sources g dir → finite.get g.readings dir ≡ Some left) where
    -- what an untouched folder was told is what is answered
    pub told_stands : (dir : Names) (left : Reading) (one : Question × Noted) → finite.get g.readings dir ≡ Some left → IsUntouched sources g dir → Contains left.asked one → awaited sources before dir one.0 ≡ None
        → kept_as (answer sources settings before dir one.0) ≡ one.1
    told_stands dir left one there untouched asked ready =
        answer_stands sources g sees settings before tups dir known is_known tree set one.0 one.1
        (All-contains (λ (one : Question × Noted). IsAnswer known (source g) g.readings dir one.0 one.1) left.asked one (is_kept.agrees.told dir left there (untouched 0 dir refl)) asked) ready
        (λ folder found of got. stay folder found got (untouched_on dir folder (record { left = left; kept = there; one = one; asked = asked; of = of }) untouched))

    same_reading : (x y : Reading) → x.drafts ≡ y.drafts → x.asked ≡ y.asked → x ≡ y
    same_reading x y p q = λ i. record { drafts = p i; asked = q i }

    -- so it reads as it did
    reads_so : (dir : Names) (now : Reading) → IsTrue (has_tupfile sources dir) → IsReadingOver sources settings before dir now → IsUntouched sources g dir → finite.get g.readings dir ≡ Some now
    reads_so dir now has over untouched = kept_one.1 ∙ ap (λ r. Some r) (sym now_is)
      where
        kept_one : (left : Reading) × (finite.get g.readings dir ≡ Some left)
        kept_one = one_kept dir has (untouched 0 dir refl)

        was : IsTrueBeside sources dir kept_one.0
        was = true_beside language known reads sources is_known tree dir kept_one.0 (is_kept.records.readings dir kept_one.0 kept_one.1)

        alike : ToldAlike over.log was.log
        alike question a b e f =
            let here = over.answered question a e in
            let asked : Contains kept_one.0.asked (question, kept_as b) = subst (λ (l : List (Question × Noted)). Contains l (question, kept_as b)) (sym was.noted) (noted_there was.log question b f) in
            let stands = told_stands dir kept_one.0 (question, kept_as b) kept_one.1 untouched asked here.0 in
            here.1 ∙ sym (same_told sources settings before dir question b (fit_from_start was.log (reading dir) (Ok kept_one.0.drafts) was.ran question b f)
            (λ path content is given. was.contents path content (subst (λ (entry : Question × Told). Contains was.log entry) (λ i. (is i, given i)) (told_there was.log question b f)))
            stands)

        both : (over.log ≡ was.log) × ◌≡◌ {A = Result (List Draft) ParseFault} (Ok now.drafts) (Ok kept_one.0.drafts)
        both = runs_alike [] over.log was.log (reading dir) (Ok now.drafts) (Ok kept_one.0.drafts) alike over.ran was.ran

        now_is : now ≡ kept_one.0
        now_is =
            let drafts : now.drafts ≡ kept_one.0.drafts = the now.drafts kept_one.0.drafts both.1 in
            same_reading now kept_one.0 drafts (over.noted ∙ ap noted_log both.0 ∙ sym was.noted)
          where
            the : (a b : List Draft) → ◌≡◌ {A = Result (List Draft) ParseFault} (Ok a) (Ok b) → a ≡ b
            the a b e = cc

  stays : (order : List Names) (readings : Readings) → AreReadings sources settings order readings → (dir : Names) (now : Reading) → finite.get readings dir ≡ Some now → IsUntouched sources g dir → finite.get g.readings dir ≡ Some now
  stays [] readings is dir now e untouched =
      let wrong : Some now ≡ None = sym e ∙ ap (λ r. finite.get r dir) is ∙ finite.get-empty by_names dir in
      cc
  stays (new ∷ earlier) readings (before, left, are, has, is_new, over, is) dir now e untouched =
      by (stays earlier before are) (same_path dir new) refl (sym (get_more before new left dir) ∙ sym (ap (λ r. finite.get r dir) is) ∙ e)
    where
      by : ((other : Names) (x : Reading) → finite.get before other ≡ Some x → IsUntouched sources g other → finite.get g.readings other ≡ Some x) → (b : Bool) → same_path dir new ≡ b
          → cond b (Some left) (finite.get before dir) ≡ Some now → finite.get g.readings dir ≡ Some now
      by stay false at got = stay dir now got untouched
      by stay true at got =
          let left_is : left ≡ now = cc in
          let dir_is : new ≡ dir = sym ((same_path-decides dir new).0 at) in
          reads_so before (of_tupfiles sources settings earlier before are) stay dir now (subst (λ d. IsTrue (has_tupfile sources d)) dir_is has)
          (subst (IsReadingOver sources settings before dir) left_is (subst (λ d. IsReadingOver sources settings before d left) dir_is over)) untouched

  -- where all are read no answer waits
  all_ready : (all : Readings) → AreAllReadings sources settings all → (dir : Names) (question : Question) → awaited sources all dir question ≡ None
  all_ready all are dir question = at (folder_told sources question)
    where
      off : (own has : Bool) (found : Option Reading) → (has ≡ true → IsSome found) → (not own && has && is_none found) ≡ false
      off true has found some = refl
      off false false found some = refl
      off false true (Some left) some = refl
      off false true None some = let wrong = some refl in cc

      at : (folder : Option Names) → option_and_then (unread sources all dir) folder ≡ None
      at None = refl
      at (Some folder) = ap (λ b. cond b (Some folder) None) (off (same_path dir folder) (has_tupfile sources folder) (finite.get all folder) (λ has. are.all folder has))

  pub not_due : (all : Readings) → AreAllReadings sources settings all → (dir : Names) → IsUntouched sources g dir → IsDue g sources settings all dir → ⊥
  not_due all are dir untouched (has, inl none) =
      let there = one_kept dir has (untouched 0 dir refl) in
      let wrong : None ≡ Some there.0 = sym none ∙ ap (λ b. cond b None (finite.get g.readings dir)) (untouched 0 dir refl) ∙ there.1 in
      cc
  not_due all are dir untouched (has, inr (left, is, (one, asked, other))) =
      other (told_stands all (of_tupfiles sources settings are.some.0 all are.some.1) (stays are.some.0 all are.some.1) dir left one (kept_is g dir left is) untouched asked (all_ready all are dir one.0))

  not_fresh : (given : Refreshed) → AreRefreshed g sources settings given → (dir : Names) → IsUntouched sources g dir → finite.get (finite.from_sorted {R = by_names} given.fresh) dir ≡ None
  not_fresh given is dir untouched = by (finite.get (finite.from_sorted {R = by_names} given.fresh) dir) refl
    where
      by : (found : Option Reading) → finite.get (finite.from_sorted {R = by_names} given.fresh) dir ≡ found → finite.get (finite.from_sorted {R = by_names} given.fresh) dir ≡ None
      by None e = e
      by (Some left) e = absurd (not_due (finite.from_sorted given.all) is.read.1 dir untouched ((is.due dir).0 (subst IsSome (sym e) refl)))

pub untouched_not_read : (next : Next) (language : Language) (known : List Content) (g : GraphState) (sources : Tree) (given : Refreshed) (dir : Names) → ReadsTupfiles language → IsKnown known → KnowsTree known sources
    → IsKept next language known g → SeesSources sources g → IsRefresh g sources (Ok given) → IsUntouched sources g dir → finite.get (finite.from_sorted {R = by_names} given.fresh) dir ≡ None
untouched_not_read next language known g sources given dir reads is_known tree is_kept sees refreshed untouched = by (settings_of sources) refl refreshed
  where
    by : (found : Result Entries ConfigFault) → settings_of sources ≡ found → IsRefreshWith g sources found (Ok given) → finite.get (finite.from_sorted {R = by_names} given.fresh) dir ≡ None
    by (Ok settings) set is = not_fresh next language known g sources settings reads is_known tree is_kept sees set given is dir untouched
    by (Err fault) set (inl e) = cc
    by (Err fault) set (inr e) = cc
