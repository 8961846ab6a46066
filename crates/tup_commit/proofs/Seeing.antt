-- What a graph has seen that took note of a scan: the stamps of the tree.
use Rattle.std.proofs.Common.{◌≡◌, Bool, true, false, cond, List, [], ◌∷◌, map, Option, Some, None, refl, sym, ap, ◌∙◌}
use Rattle.std.specs.Prelude.{All, is_some, option_map}
use Rattle.std.specs.FinMap as finite
use Rattle.std.specs.FinMap.Entries.{is_some-find}
use Rattle.std.specs.List.{list_any}
use Rattle.std.specs.Ordering.{eq_by_cmp}
use Rattle.std.proofs.lemmas.Bool.{true≢false}
use Rattle.std.proofs.lemmas.List.Elements.{All-head, All-tail}
use Rattle.std.proofs.lemmas.Option.{none-some}
use Rattle.tup_path.specs.Name.{Names, Content}
use Rattle.tup_path.specs.Order.{by_names, by_names-total}
use Rattle.tup_path.specs.Tree.{Tree}
use Rattle.tup_path.proofs.Same.{by_names-decides}
use Rattle.tup_stamp.specs.Stamp.{stamp}
use Rattle.tup_stamp.specs.declared.Stamp.{Stamp}
use Rattle.tup_scan.specs.Seen.{IsSeen, IsStamped}
use Rattle.tup_scan.specs.declared.seen.Seen.{Seen}
use Rattle.tup_graph.specs.Graph.{GraphState}
use Rattle.tup_graph.specs.Reach.{stamp_in}
use Rattle.tup_graph.specs.Scan.{IsScanned}

-- a stamp that is found at a path is that of the file there
stamp_found : (tree : Tree) (files : List (Names × Stamp)) (path : Names) (given : Stamp) → All (IsStamped tree) files → finite.find by_names path files ≡ Some given
    → option_map stamp (finite.get tree path) ≡ Some given
stamp_found tree [] path given all found = absurd (none-some given found)
stamp_found tree (file ∷ files) path given all found =
    by (eq_by_cmp by_names path file.0) refl (stamp_found tree files path given (All-tail (IsStamped tree) file files all)) found
  where
    by : (same : Bool) → eq_by_cmp by_names path file.0 ≡ same → (finite.find by_names path files ≡ Some given → option_map stamp (finite.get tree path) ≡ Some given)
        → cond same (Some file.1) (finite.find by_names path files) ≡ Some given → option_map stamp (finite.get tree path) ≡ Some given
    by true is rest here = ap (λ (p : Names). option_map stamp (finite.get tree p)) ((by_names-decides path file.0).0 is) ∙ All-head (IsStamped tree) file files all ∙ here
    by false is rest there = rest there

-- where nothing is there is no stamp
no_stamp : (content : Option Content) → is_some content ≡ false → option_map stamp content ≡ None
no_stamp None none = refl
no_stamp (Some content) none = absurd (true≢false none)

-- each file with its stamp, as one map
stamps_are : (tree : Tree) (files : List (Names × Stamp)) → map (λ (file : Names × Stamp). file.0) files ≡ finite.keys tree → All (IsStamped tree) files → (path : Names)
    → finite.get (finite.from_entries {R = by_names} files) path ≡ option_map stamp (finite.get tree path)
stamps_are tree files paths all path = finite.get-from_entries by_names-total files path ∙ by (finite.find by_names path files) refl
  where
    by : (found : Option Stamp) → finite.find by_names path files ≡ found → finite.find by_names path files ≡ option_map stamp (finite.get tree path)
    by (Some given) is = is ∙ sym (stamp_found tree files path given all is)
    by None is =
        is ∙ sym (no_stamp (finite.get tree path)
        (finite.contains_key-keys tree path ∙ ap (list_any (eq_by_cmp by_names path)) (sym paths) ∙ sym (is_some-find by_names path files) ∙ ap is_some is))

pub has_seen : (old new : GraphState) (tree : Tree) (seen : Seen) → IsSeen tree seen → IsScanned old seen.files seen.config new → (path : Names) → finite.get new.seen path ≡ stamp_in tree path
has_seen old new tree seen is scanned path =
    ap (λ (m : finite.FinMap by_names Stamp). finite.get m path) scanned.seen ∙ stamps_are tree seen.files is.paths is.stamps path
