-- A tree made file by file, and its files listed.
use Rattle.std.proofs.Common.{◌≡◌, ◌≢◌, ℕ, ◌<◌, Bool, true, false, ◌||◌, List, [], ◌∷◌, ◌++◌, length, slice_index_or, Option, None, Some, IsSome, is_some, refl, sym, ap, subst, ◌∙◌, arith, length-append}
use Rattle.std.specs.Ordering.{eq_by_cmp}
use Rattle.std.specs.List.{AllPairs, list_any}
use Rattle.std.specs.Map.{keys_of}
use Rattle.std.specs.BTreeMap.{BTreeMap, IsOrdered}
use Rattle.std.specs.FinMap as finite
use Rattle.std.specs.FinMap.Entries.{is_some-find}
use Rattle.std.proofs.lemmas.List.{map-append, append-nil, get_or_append_left, get_or_at}
use Rattle.std.proofs.lemmas.List.Folds.{Any-from_list_any, list_any_at, list_any-append}
use Rattle.std.proofs.lemmas.List.Quantifiers.{all_pairs_push}
use Rattle.tup_path.specs.Name.{Names, Content, IsPath}
use Rattle.tup_path.specs.Order.{by_names, by_names-total, by_names-antisymmetric}
use Rattle.tup_path.proofs.Same.{by_names-decides}
use Rattle.tup_path.specs.Tree.{IsTree, tree_of_files}
use Rattle.tup_site.specs.Edit.{MayAdd, AreATree}
use Rattle.tup_path.proofs.Maps.{keys-of_sorted}
use Rattle.tup_site.proofs.Trees.{all_keys-from_some, place_from_tree}

no_some : {X : Type 0} (found : Option X) → found ≡ None → IsSome found → ⊥
no_some found e s = let no : false ≡ true = sym (ap is_some e) ∙ s in cc

nothing : {X : Type 0} (found : Option X) → (IsSome found → ⊥) → found ≡ None
nothing None not = refl
nothing (Some x) not = absurd (not refl)

pub no_files : IsTree (tree_of_files [])
no_files = record {
  paths = all_keys-from_some IsPath (tree_of_files []) (λ q s. absurd (no_some _ (finite.get-empty by_names q) s));
  no_top = finite.get-empty by_names [];
  no_file_above = λ folder q sf sq below. no_some _ (finite.get-empty by_names folder) sf;
}

-- a tree has a path just where the list that it is made of has it
known : (files : List (Names × Content)) (q : Names) → is_some (finite.get (tree_of_files files) q) ≡ list_any (eq_by_cmp by_names q) (keys_of files)
known files q = ap is_some (finite.get-from_entries by_names-total files q) ∙ is_some-find by_names q files

either_kept : (a b : Bool) → a ≡ true → (a || b) ≡ true
either_kept a b e = ap (λ c. c || b) e

or_kept : (a b : Bool) → b ≡ true → (a || b) ≡ true
or_kept true b e = refl
or_kept false b e = e

keeps : (ys zs : List (Names × Content)) (q : Names) → IsSome (finite.get (tree_of_files ys) q) → IsSome (finite.get (tree_of_files (ys ++ zs)) q)
keeps ys zs q s =
    known (ys ++ zs) q ∙ ap (list_any (eq_by_cmp by_names q)) (map-append (λ (e : Names × Content). e.0) ys zs)
    ∙ list_any-append (eq_by_cmp by_names q) (keys_of ys) (keys_of zs) ∙ either_kept _ _ (sym (known ys q) ∙ s)

has_it : (ys zs : List (Names × Content)) (path : Names) (content : Content) → IsSome (finite.get (tree_of_files (ys ++ (path, content) ∷ zs)) path)
has_it ys zs path content =
    known (ys ++ (path, content) ∷ zs) path ∙ ap (list_any (eq_by_cmp by_names path)) (map-append (λ (e : Names × Content). e.0) ys ((path, content) ∷ zs))
    ∙ list_any-append (eq_by_cmp by_names path) (keys_of ys) (path ∷ keys_of zs) ∙ or_kept _ _ (either_kept _ _ ((by_names-decides path path).1 refl))

-- the paths so far differ from one that the tree hasn't
apart : (ys : List (Names × Content)) (path : Names) → finite.get (tree_of_files ys) path ≡ None → (k : ℕ) (d : Names) → k < length (keys_of ys) → slice_index_or (keys_of ys) k d ≢ path
apart ys path none k d l e =
    no_some _ none (known ys path ∙ list_any_at (eq_by_cmp by_names path) (keys_of ys) k d l ((by_names-decides path (slice_index_or (keys_of ys) k d)).1 (sym e)))

-- one more file
pub once_more : (ys : List (Names × Content)) (path : Names) (content : Content) → AllPairs (λ a b. a ≢ b) (keys_of ys) → MayAdd (tree_of_files ys) path → AllPairs (λ a b. a ≢ b) (keys_of (ys ++ (path, content) ∷ []))
once_more ys path content once may =
    subst (AllPairs (λ a b. a ≢ b)) (sym (map-append (λ (e : Names × Content). e.0) ys ((path, content) ∷ [])))
    (all_pairs_push (λ a b. a ≢ b) (keys_of ys) path once (apart ys path may.none))

pub tree_more : (ys : List (Names × Content)) (path : Names) (content : Content) → MayAdd (tree_of_files ys) path → finite.insert (tree_of_files ys) path content ≡ tree_of_files (ys ++ (path, content) ∷ [])
tree_more ys path content may =
    sym (finite.from_entries_push by_names-total by_names-antisymmetric ys path content (sym (finite.get-from_entries by_names-total ys path) ∙ may.none))

-- no path twice: the next one isn't known yet
new_path : (ys zs : List (Names × Content)) (path : Names) (content : Content) → AllPairs (λ a b. a ≢ b) (keys_of (ys ++ (path, content) ∷ zs)) → finite.get (tree_of_files ys) path ≡ None
new_path ys zs path content once = nothing _ (λ s.
    let any = Any-from_list_any (eq_by_cmp by_names path) (keys_of ys) (sym (known ys path) ∙ s) in
    let all = map-append (λ (e : Names × Content). e.0) ys ((path, content) ∷ zs) in
    let once' = subst (AllPairs (λ a b. a ≢ b)) all once in
    once' any.0 (length (keys_of ys)) any.1 any.2 (omega (arith, length-append (keys_of ys) (path ∷ keys_of zs)))
    (get_or_append_left (keys_of ys) (path ∷ keys_of zs) any.1 any.0 any.2 ∙ any.3 ∙ sym ((by_names-decides path any.1).0 any.4)
    ∙ sym (get_or_at (keys_of ys) path (keys_of zs) any.1 (length (keys_of ys)) refl)))

-- files of which the next can't be added are no tree
pub refused : (ys zs : List (Names × Content)) (path : Names) (content : Content) → (MayAdd (tree_of_files ys) path → ⊥) → AreATree (ys ++ (path, content) ∷ zs) → ⊥
refused ys zs path content not are = not record {
  none = new_path ys zs path content are.once;
  place = place_from_tree (tree_of_files ys) (tree_of_files (ys ++ (path, content) ∷ zs)) path are.tree (keeps ys ((path, content) ∷ zs)) (has_it ys zs path content);
}

-- the keys of an ordered map, one by one, are the paths of its tree
pub listed : (m : BTreeMap Names Content) (paths rest all : List Names) → paths ++ rest ≡ all → rest ≡ [] → all ≡ keys_of m.entries → IsOrdered by_names m → paths ≡ finite.keys (tree_of_files m.entries)
listed m paths rest all is none keys ordered =
    sym (append-nil paths) ∙ ap (λ r. paths ++ r) (sym none) ∙ is ∙ keys ∙ sym (keys-of_sorted by_names-total m.entries ordered)
