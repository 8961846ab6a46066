-- The sources of a tree that a graph has seen.
use Rattle.std.proofs.Common.{◌≡◌, Bool, true, false, cond, not, if◌then◌else◌, List, [], Option, None, Some, All, IsSome, is_some, refl, sym, ap, subst, ◌∙◌}
use Rattle.std.specs.Cmp.{eq_by_cmp_equiv}
use Rattle.std.specs.FinMap as finite
use Rattle.std.specs.List.{Contains}
use Rattle.std.specs.Prelude.{is_none, option_to_list}
use Rattle.std.specs.Option.{option_map}
use Rattle.std.proofs.lemmas.List.Elements.{All-cons, All-contains, All-contains_itself, All-nil, All-weaker}
use Rattle.std.proofs.lemmas.Map.Views.{Contains-from_any, list_any-from_Contains}
use Rattle.tup_path.specs.Name.{Names, Content, IsPath}
use Rattle.tup_path.specs.Order.{by_names-total}
use Rattle.tup_path.specs.Tree.{Tree, IsTree}
use Rattle.tup_path.proofs.Same.{by_names-decides}
use Rattle.tup_stamp.specs.Stamp.{stamp}
use Rattle.tup_site.specs.Known.{IsKnown, KnowsTree}
use Rattle.tup_site.specs.World.{World}
use Rattle.tup_graph.specs.Answers.{tup_config}
use Rattle.tup_graph.specs.declared.owned.Owned.{Owned}
use Rattle.tup_graph.specs.Graph.{GraphState, is_owned}
use Rattle.tup_graph.specs.Kept.{file_beside}
use Rattle.tup_graph.specs.Reach.{stamp_in}
use Rattle.tup_ledger.specs.Sources.{sources_of}
use Rattle.tup_ledger.proofs.Trees.{get_source}
use Rattle.tup_refresh.specs.Untouched.{SeesSources}
use Rattle.tup_refresh.proofs.Outlining.{files_of}
use Rattle.tup_refresh.proofs.Recorded.{known_there}
use Rattle.tup_refresh.proofs.Recording.{known_among}
use Rattle.tup_core.specs.Honest.{IsKnown as IsKnownForCore}
use Rattle.tup_core.specs.Planned.{sources_of as sources_for_core}
use Rattle.tup_law_phases.specs.Planning.{kept_of, owner_of}

-- a path is a key of a map where it has a value
is_key : (tree : Tree) (path : Names) → IsSome (finite.get tree path) → Contains (finite.keys tree) path
is_key tree path some = Contains-from_any (λ x y e. (by_names-decides x y).0 e) path (finite.keys tree) (sym (finite.contains_key-keys tree path) ∙ some)

has_value : (tree : Tree) (path : Names) → Contains (finite.keys tree) path → IsSome (finite.get tree path)
has_value tree path has = finite.contains_key-keys tree path ∙ list_any-from_Contains (eq_by_cmp_equiv by_names-total) path (finite.keys tree) has

module _ (g : GraphState) (tree : Tree) where
  abbrev sources : Tree
  sources = sources_of g tree

  pub sees : ((path : Names) → finite.get g.seen path ≡ stamp_in tree path) → SeesSources sources g
  sees seen path = by (is_owned g path) ∙ sym (ap (option_map stamp) (get_source g tree path))
    where
      by : (owned : Bool) → (if owned then None else finite.get g.seen path) ≡ option_map stamp (cond (not owned) (finite.get tree path) None)
      by true = refl
      by false = seen path

  stands_there : (path : Names) → IsSome (finite.get sources path) → IsSome (finite.get tree path)
  stands_there path some = subst (λ (found : Option Content). IsSome found) (files_of g tree path some) some

  pub is_tree : IsTree tree → IsTree sources
  is_tree is = record {
    paths =
        All-weaker (Contains (finite.keys sources)) IsPath (λ path has. All-contains IsPath (finite.keys tree) path is.paths (is_key tree path (stands_there path (has_value sources path has))))
        (finite.keys sources) (All-contains_itself (finite.keys sources));
    no_top = get_source g tree [] ∙ none (not (is_owned g []));
    no_file_above = λ folder path above below is_below. is.no_file_above folder path (stands_there folder above) (stands_there path below) is_below;
  }
    where
      none : (b : Bool) → cond b (finite.get tree []) None ≡ None
      none true = is.no_top
      none false = refl

  pub knows_sources : (known : List Content) → KnowsTree known tree → KnowsTree known sources
  knows_sources known knows path content here = knows path content (sym (files_of g tree path (subst (λ (found : Option Content). IsSome found) (sym here) refl)) ∙ here)

-- ---- the same sources in other words

-- those of a kept site
pub is_beside : (world : World) (g : GraphState) (path : Names) → file_beside world g path ≡ finite.get (sources_of g world.tree) path
is_beside world g path = by (is_owned g path) ∙ sym (get_source g world.tree path)
  where
    by : (owned : Bool) → ◌≡◌ {A = Option Content} (elim owned [ true ↦ None | false ↦ finite.get world.tree path ]) (cond (not owned) (finite.get world.tree path) None)
    by true = refl
    by false = refl

-- those of the core
pub is_for_core : (g : GraphState) (tree : Tree) → sources_for_core (kept_of g) tree ≡ sources_of g tree
is_for_core g tree = ap (λ (test : Names → Bool). finite.retain_keys tree test) (λ i path. by (finite.get g.owned path) i)
  where
    by : (found : Option Owned) → is_none (option_map owner_of found) ≡ not (is_some found)
    by None = refl
    by (Some owned) = refl

-- ---- what is known, in the words of the core

pub core_knows : (known : List Content) → IsKnown known → IsKnownForCore known
core_knows known is one other here there same = is one other (known_there known one here) (known_there known other there) same

pub core_knows_tree : (known : List Content) (tree : Tree) (path : Names) (content : Content) → KnowsTree known tree → finite.get tree path ≡ Some content → Contains known content
core_knows_tree known tree path content knows here = known_among known content (knows path content here)

-- the content of tup.config that a scan found is known
pub config_known : (known : List Content) (tree : Tree) (config : Option Content) → KnowsTree known tree → config ≡ finite.get tree tup_config → All (Contains known) (option_to_list config)
config_known known tree None knows_tree is = All-nil (Contains known)
config_known known tree (Some content) knows_tree is = All-cons (Contains known) content [] (known_among known content (knows_tree tup_config content (sym is))) (All-nil (Contains known))
