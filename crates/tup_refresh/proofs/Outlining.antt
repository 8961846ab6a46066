-- The outline of the sources that a graph sees.
use Rattle.std.proofs.Common.{◌≡◌, Bool, true, false, cond, not, List, [], ◌∷◌, ◌++◌, Option, Some, None, is_some, IsSome, IsTrue, refl, sym, ap, ◌∙◌, subst, append_assoc}
use Rattle.std.specs.Prelude.{unwrap_or}
use Rattle.std.specs.Bool.{passes}
use Rattle.std.specs.BTreeSet.{contains}
use Rattle.std.specs.FinMap as finite
use Rattle.std.specs.FinMap.Entries.{below_all}
use Rattle.std.specs.List.{list_any}
use Rattle.std.specs.Map.{keys_of}
use Rattle.std.specs.Option.{option_map}
use Rattle.std.specs.Ordering.{eq_by_cmp, is_lt}
use Rattle.std.proofs.lemmas.Bool.{and_from, and_parts}
use Rattle.std.proofs.lemmas.List.{append-nil}
use Rattle.tup_path.specs.Name.{Names, Content}
use Rattle.tup_path.specs.Order.{by_names, by_names-antisymmetric, same_path-by_names}
use Rattle.tup_path.specs.Tree.{Tree}
use Rattle.tup_path.proofs.Same.{by_names-decides, same_path-decides}
use Rattle.tup_stamp.specs.Stamp.{stamp}
use Rattle.tup_stamp.specs.declared.Stamp.{Stamp}
use Rattle.tup_rule.specs.Rule.{among}
use Rattle.tup_readings.proofs.Indexed.{keys_sorted}
use Rattle.tup_readings.proofs.Working.{from_test}
use Rattle.tup_graph.specs.Answers.{tup_config}
use Rattle.tup_graph.specs.Graph.{GraphState, is_owned}
use Rattle.tup_ledger.specs.Sources.{sources_of}
use Rattle.tup_refresh.specs.declared.fetched.Fetched.{Fetched}
use Rattle.tup_refresh.specs.Outline.{content_in, outline_of, source_in}
use Rattle.tup_refresh.specs.Part.{AreFetched, AreFilesOf, HasConfig, HasPaths, IsUnfetched}
use Rattle.tup_refresh.specs.Untouched.{SeesSources}
use Rattle.tup_refresh.proofs.Hollow.{same_keys}

-- whether a path is among the keys of a map
among_keys : {X : Type 0} (m : finite.FinMap by_names X) (path : Names) → among path (finite.keys m) ≡ finite.contains_key m path
among_keys m path = ap (λ (test : Names → Bool). list_any test (finite.keys m)) (λ i other. same_path-by_names path other i) ∙ sym (finite.contains_key-keys m path)

-- ---- one file after another

module _ (g : GraphState) (top : Names) (config : Option Content) where
  abbrev out : List (Names × Stamp) → List (Names × Content)
  out = outline_of g top config

  pub outline_push : (files : List (Names × Stamp)) (path : Names) (stamp : Stamp) → outline_of g top config (files ++ (path, stamp) ∷ []) ≡ outline_of g top config files ++ source_in g top config path
  outline_push [] path stamp = append-nil (source_in g top config path)
  outline_push (file ∷ files) path stamp =
      ap (λ (l : List (Names × Content)). source_in g top config file.0 ++ l) (outline_push files path stamp) ∙ sym (append_assoc (source_in g top config file.0) (out files) (source_in g top config path))

  -- ---- their order

  low : (path : Names) (files : List (Names × Stamp)) → below_all by_names path files ≡ true → below_all by_names path (out files) ≡ true
  low path [] below = refl
  low path (file ∷ files) below = by (is_owned g file.0) (low path files parts.1)
    where
      parts : (is_lt (by_names path file.0) ≡ true) × (below_all by_names path files ≡ true)
      parts = and_parts (is_lt (by_names path file.0)) (below_all by_names path files) below

      by : (b : Bool) → below_all by_names path (out files) ≡ true → below_all by_names path (cond b [] ((file.0, content_in top config file.0) ∷ []) ++ out files) ≡ true
      by true more = more
      by false more = and_from (is_lt (by_names path file.0)) (below_all by_names path (out files)) parts.0 more

  rises : (files : List (Names × Stamp)) → finite.is_sorted by_names files ≡ true → finite.is_sorted by_names (out files) ≡ true
  rises [] up = refl
  rises (file ∷ files) up = by (is_owned g file.0) (rises files parts.1)
    where
      parts : (below_all by_names file.0 files ≡ true) × (finite.is_sorted by_names files ≡ true)
      parts = and_parts (below_all by_names file.0 files) (finite.is_sorted by_names files) up

      by : (b : Bool) → finite.is_sorted by_names (out files) ≡ true → finite.is_sorted by_names (cond b [] ((file.0, content_in top config file.0) ∷ []) ++ out files) ≡ true
      by true more = more
      by false more = and_from (below_all by_names file.0 (out files)) (finite.is_sorted by_names (out files)) (low file.0 files parts.0) more

  -- ---- what is found at a path

  abbrev known : Names → Option Stamp → Option Content
  known path seen = cond (is_owned g path) None (option_map (λ (_ : Stamp). content_in top config path) seen)

  found : (path : Names) (files : List (Names × Stamp)) → finite.find by_names path (out files) ≡ known path (finite.find by_names path files)
  found path [] = none (is_owned g path)
    where
      none : (b : Bool) → None ≡ cond b None (option_map (λ (_ : Stamp). content_in top config path) None)
      none true = refl
      none false = refl
  found path (file ∷ files) =
      (elim (is_owned g file.0) as (λ b. is_owned g file.0 ≡ b → finite.find by_names path (cond b [] ((file.0, content_in top config file.0) ∷ []) ++ out files) ≡ known path (cond (eq_by_cmp by_names path file.0) (Some file.1) (finite.find by_names path files))) [
        | true ↦ λ owned. found path files ∙ passed owned (eq_by_cmp by_names path file.0) refl
        | false ↦ λ unowned. met unowned (eq_by_cmp by_names path file.0) refl (found path files)
      ]) refl
    where
      same : eq_by_cmp by_names path file.0 ≡ true → path ≡ file.0
      same tied = (by_names-decides path file.0).0 tied

      passed : is_owned g file.0 ≡ true → (t : Bool) → eq_by_cmp by_names path file.0 ≡ t → known path (finite.find by_names path files) ≡ known path (cond t (Some file.1) (finite.find by_names path files))
      passed owned true tied =
          let is : is_owned g path ≡ true = ap (is_owned g) (same tied) ∙ owned in
          ap (λ b. cond b None (option_map (λ (_ : Stamp). content_in top config path) (finite.find by_names path files))) is
          ∙ sym (ap (λ b. cond b None (Some (content_in top config path))) is)
      passed owned false apart = refl

      met : is_owned g file.0 ≡ false → (t : Bool) → eq_by_cmp by_names path file.0 ≡ t → finite.find by_names path (out files) ≡ known path (finite.find by_names path files)
          → cond t (Some (content_in top config file.0)) (finite.find by_names path (out files)) ≡ known path (cond t (Some file.1) (finite.find by_names path files))
      met unowned true tied more =
          ap (λ p. Some (content_in top config p)) (sym (same tied)) ∙ sym (ap (λ b. cond b None (Some (content_in top config path))) (ap (is_owned g) (same tied) ∙ unowned))
      met unowned false apart more = more

-- ---- all files that a graph sees

module _ (g : GraphState) (config : Option Content) (files : List (Names × Content)) (are : files ≡ outline_of g tup_config config (finite.entries g.seen)) where
  pub outline_rises : IsTrue (finite.is_sorted by_names files)
  outline_rises =
      ap (finite.is_sorted by_names) are ∙ rises g tup_config config (finite.entries g.seen) (from_test (finite.is_sorted by_names (finite.entries g.seen)) (finite.entries_sorted g.seen))

  at : (path : Names) → finite.get (finite.from_sorted {R = by_names} files) path ≡ known g tup_config config path (finite.get g.seen path)
  at path =
      finite.get-from_sorted by_names files path (passes _ outline_rises) ∙ ap (finite.find by_names path) are ∙ found g tup_config config path (finite.entries g.seen)
      ∙ ap (known g tup_config config path) (sym (finite.get-entries g.seen path))

  module _ (sources : Tree) (sees : SeesSources sources g) where
    some_there : (path : Names) → is_some (known g tup_config config path (finite.get g.seen path)) ≡ is_some (finite.get sources path)
    some_there path = by (is_owned g path) (finite.get g.seen path) ∙ ap is_some (sees path) ∙ mapped (finite.get sources path)
      where
        by : (b : Bool) (seen : Option Stamp) → is_some (cond b None (option_map (λ (_ : Stamp). content_in tup_config config path) seen)) ≡ is_some (cond b None seen)
        by true seen = refl
        by false (Some one) = refl
        by false None = refl

        mapped : (there : Option Content) → is_some (option_map stamp there) ≡ is_some there
        mapped (Some content) = refl
        mapped None = refl

    pub has_paths : HasPaths sources (finite.from_sorted files)
    has_paths = same_keys (finite.from_sorted files) sources (λ path. ap is_some (at path) ∙ some_there path)

    pub has_config : (IsSome (finite.get sources tup_config) → config ≡ finite.get sources tup_config) → HasConfig sources (finite.from_sorted files)
    has_config is = at tup_config ∙ by (is_owned g tup_config) (finite.get g.seen tup_config) (finite.get sources tup_config) refl (some_there tup_config)
      where
        given : (content : Content) → finite.get sources tup_config ≡ Some content → content_in tup_config config tup_config ≡ content
        given content here =
            ap (λ b. cond b (unwrap_or config []) []) ((same_path-decides tup_config tup_config).1 refl)
            ∙ ap (λ (c : Option Content). unwrap_or c []) (is (subst IsSome (sym here) refl) ∙ here)

        by : (b : Bool) (seen : Option Stamp) (there : Option Content) → finite.get sources tup_config ≡ there
            → is_some (cond b None (option_map (λ (_ : Stamp). content_in tup_config config tup_config) seen)) ≡ is_some there
            → cond b None (option_map (λ (_ : Stamp). content_in tup_config config tup_config) seen) ≡ there
        by true seen None here same = refl
        by true seen (Some content) here same = let wrong : false ≡ true = same in cc
        by false None None here same = refl
        by false None (Some content) here same = let wrong : false ≡ true = same in cc
        by false (Some one) None here same = let wrong : true ≡ false = same in cc
        by false (Some one) (Some content) here same = ap Some (given content here)

-- ---- what isn't fetched yet

pub none_fetched : (sources : Tree) (files : List (Names × Content)) (fetched : Fetched) → IsTrue (finite.is_sorted by_names files) → HasPaths sources (finite.from_sorted files) → IsUnfetched (keys_of files) fetched → AreFetched sources fetched
none_fetched sources files fetched up paths is = record {
  known = λ path off. ap (λ (m : Tree). finite.get m path) is.contents ∙ finite.get-empty by_names path ∙ sym (nothing (finite.get sources path) (sym (there path) ∙ off));
  missing = λ path on. sym (there path) ∙ on;
}
  where
    there : (path : Names) → contains by_names fetched.missing path ≡ is_some (finite.get sources path)
    there path =
        is.missing path ∙ ap (among path) (sym (keys_sorted files up)) ∙ ap (among path) paths ∙ among_keys sources path

    nothing : (found : Option Content) → is_some found ≡ false → found ≡ None
    nothing None e = refl
    nothing (Some content) e = cc

-- ---- the sources of a tree

pub files_of : (g : GraphState) (tree : Tree) → AreFilesOf tree (sources_of g tree)
files_of g tree path some = by (not (is_owned g path)) (kept) (subst IsSome kept some)
  where
    kept : finite.get (sources_of g tree) path ≡ cond (not (is_owned g path)) (finite.get tree path) None
    kept = finite.get-retain_keys tree (λ p. not (is_owned g p)) path (λ other tied. ap (λ (p : Names). not (is_owned g p)) (sym (by_names-antisymmetric path other tied)))

    by : (b : Bool) → finite.get (sources_of g tree) path ≡ cond b (finite.get tree path) None → IsSome (cond b (finite.get tree path) None) → finite.get (sources_of g tree) path ≡ finite.get tree path
    by true is some = is
    by false is some = cc
