-- How the entries of a map in memory are those of a tree.
use Rattle.std.proofs.Common.{◌≡◌, Bool, true, false, cond, List, [], ◌∷◌, ◌++◌, Some, refl, sym, ap, ◌∙◌, T, append_assoc}
use Rattle.std.proofs.lemmas.Bool.{false≢true, and_parts}
use Rattle.std.proofs.lemmas.List.{nil_from_length}
use Rattle.std.proofs.lemmas.List.Elements.{same_from_all_zip}
use Rattle.std.specs.List.{AllZip}
use Rattle.std.specs.Bool.{passes}
use Rattle.std.specs.Ordering.{is_eq, is_lt, match_ordering}
use Rattle.std.specs.declared.cmp.Ordering.{Ordering}
use Rattle.std.specs.declared.cmp.Ordering.TheVariants.{Less, Equal, Greater}
use Rattle.std.specs.Map.{lookup}
use Rattle.std.specs.BTreeMap.{insert_entry, is_at}
use Rattle.std.specs.FinMap as finite
use Rattle.std.specs.FinMap.Entries.{is_sorted-put, below_all, by_order}
use Rattle.tup_path.specs.Name.{Names, Content}
use Rattle.tup_path.specs.Order.{by_names, by_names-total}
use Rattle.tup_path.specs.Tree.{Tree}
use Rattle.tup_clean.specs.Clean.{with_files}

entries-empty : finite.entries (finite.empty {X = Content} {R = by_names}) ≡ []
entries-empty = nil_from_length _ (sym (finite.len-entries (finite.empty {X = Content} {R = by_names})) ∙ finite.len-empty by_names Content)

less_is : (o : Ordering) → is_lt o ≡ true → o ≡ Less
less_is Less h = refl
less_is Equal h = absurd (false≢true h)
less_is Greater h = absurd (false≢true h)

-- what stands before all of a list stands before a file in its middle
below-middle : (first path : Names) (content : Content) (front rest : List (Names × Content)) → below_all by_names first (front ++ (path, content) ∷ rest) ≡ true → by_names first path ≡ Less
below-middle first path content [] rest below = less_is _ (and_parts (is_lt (by_names first path)) _ below).0
below-middle first path content (e ∷ front) rest below = below-middle first path content front rest (and_parts (is_lt (by_names first e.0)) _ below).1

append-nil : (es : List (Names × Content)) → es ++ [] ≡ es
append-nil [] = refl
append-nil (e ∷ es) = ap (λ more. e ∷ more) (append-nil es)

from_T : (b : Bool) → T b → b ≡ true
from_T true h = refl
from_T false h = absurd h

pub lookup-find : (path : Names) (es : List (Names × Content)) → lookup (is_at (by_names path)) es ≡ finite.find by_names path es
lookup-find path [] = refl
lookup-find path (e ∷ es) = ap (cond (is_eq (by_names path e.0)) (Some e.1)) (lookup-find path es)

insert_entry-put : (path : Names) (content : Content) (es : List (Names × Content)) → insert_entry by_names es path content ≡ finite.put by_names path content es
insert_entry-put path content [] = refl
insert_entry-put path content (e ∷ es) =
    elim (by_names path e.0) as (λ o. match_ordering o ((path, content) ∷ e ∷ es) ((e.0, content) ∷ es) (e ∷ insert_entry by_names es path content)
    ≡ by_order o ((path, content) ∷ e ∷ es) ((e.0, content) ∷ es) (e ∷ finite.put by_names path content es)) [
      | Less ↦ refl
      | Equal ↦ refl
      | Greater ↦ ap (λ more. e ∷ more) (insert_entry-put path content es)
    ]

pub IsSorted-insert_entry : (path : Names) (content : Content) (es : List (Names × Content)) → finite.is_sorted by_names es ≡ true → finite.is_sorted by_names (insert_entry by_names es path content) ≡ true
IsSorted-insert_entry path content es sorted = rw (insert_entry-put path content es) (from_T _ (is_sorted-put by_names by_names-total path content es (passes _ sorted)))

pub from_sorted-insert_entry : (path : Names) (content : Content) (es : List (Names × Content)) → finite.is_sorted by_names es ≡ true →
    finite.from_sorted {R = by_names} (insert_entry by_names es path content) ≡ finite.insert (finite.from_sorted {R = by_names} es) path content
from_sorted-insert_entry path content es sorted =
    let more = IsSorted-insert_entry path content es sorted in
    finite.same_entries_map _ _
    (finite.entries-from_sorted by_names _ (passes _ more)
    ∙ insert_entry-put path content es
    ∙ ap (finite.put by_names path content) (sym (finite.entries-from_sorted by_names es (passes _ sorted)))
    ∙ sym (finite.entries-insert by_names-total (finite.from_sorted {R = by_names} es) path content))

pub from_sorted-nil : (es : List (Names × Content)) → es ≡ [] → finite.from_sorted {R = by_names} es ≡ finite.empty
from_sorted-nil es none =
    finite.same_entries_map _ _ (rw none (finite.entries-from_sorted by_names [] tt) ∙ sym entries-empty)

pub get-from_entries : (path : Names) (es : List (Names × Content)) → finite.is_sorted by_names es ≡ true → lookup (is_at (by_names path)) es ≡ finite.get (finite.from_sorted {R = by_names} es) path
get-from_entries path es sorted = lookup-find path es ∙ sym (finite.get-from_sorted by_names es path (passes _ sorted))

pub entries-sorted : (es : List (Names × Content)) → finite.is_sorted by_names es ≡ true → finite.entries (finite.from_sorted {R = by_names} es) ≡ es
entries-sorted es sorted = finite.entries-from_sorted by_names es (passes _ sorted)

-- ---- files in order, put one after another

-- a file behind all others goes to the end
put-last : (path : Names) (content : Content) (front rest : List (Names × Content)) → finite.is_sorted by_names (front ++ (path, content) ∷ rest) ≡ true →
    finite.put by_names path content front ≡ front ++ (path, content) ∷ []
put-last path content [] rest sorted = refl
put-last path content (e ∷ front) rest sorted =
    let parts = and_parts (below_all by_names e.0 (front ++ (path, content) ∷ rest)) _ sorted in
    let before : by_names e.0 path ≡ Less = below-middle e.0 path content front rest parts.0 in
    let behind : by_names path e.0 ≡ Greater = by_names-total.antisymm path e.0 ∙ rw before refl in
    rw behind (ap (λ more. e ∷ more) (put-last path content front rest parts.1))

in_order : (files front : List (Names × Content)) (tree : Tree) → finite.is_sorted by_names (front ++ files) ≡ true → finite.entries tree ≡ front →
    finite.entries (with_files tree files) ≡ front ++ files
in_order [] front tree sorted is = is ∙ sym (append-nil front)
in_order (file ∷ files) front tree sorted is =
    let moved : (front ++ file ∷ []) ++ files ≡ front ++ file ∷ files = append_assoc front (file ∷ []) files in
    in_order files (front ++ file ∷ []) (finite.insert tree file.0 file.1) (rw moved sorted)
    (finite.entries-insert by_names-total tree file.0 file.1 ∙ ap (finite.put by_names file.0 file.1) is ∙ put-last file.0 file.1 front files sorted)
    ∙ moved

pub with_files-sorted : (files : List (Names × Content)) → finite.is_sorted by_names files ≡ true → with_files finite.empty files ≡ finite.from_sorted files
with_files-sorted files sorted =
    finite.same_entries_map _ _ (in_order files [] finite.empty sorted entries-empty ∙ sym (entries-sorted files sorted))

pub with_files-append : (tree : Tree) (files : List (Names × Content)) (file : Names × Content) → with_files tree (files ++ file ∷ []) ≡ finite.insert (with_files tree files) file.0 file.1
with_files-append tree [] file = refl
with_files-append tree (first ∷ files) file = with_files-append (finite.insert tree first.0 first.1) files file

-- copies of files are these files
pub copies : (files others : List (Names × Content)) → AllZip (λ (p q : Names × Content). (q.0 ≡ p.0) × (q.1 ≡ p.1)) files others → others ≡ files
copies files others same = same_from_all_zip (λ (p q : Names × Content). (q.0 ≡ p.0) × (q.1 ≡ p.1)) files others same (λ p q both i. (both.0 i, both.1 i))
