-- A call of the site in memory: whether it has to fail, and what one file more or less makes of its tree.
use Rattle.std.proofs.Common.{◌≡◌, ℕ, Bool, true, false, Option, None, Some, Result, Ok, Err, OnOk, OnErr, is_some, [], ◌∷◌, if◌then◌else◌, cond, inl, inr, refl, sym, ap, subst, ◌∙◌}
use Rattle.std.specs.BTreeMap.{BTreeMap, Updates, UpdatesBy, get}
use Rattle.std.specs.FinMap as finite
use Rattle.tup_path.specs.Name.{Names, Content}
use Rattle.tup_path.specs.Order.{same_path, by_names, by_names-total, by_names-antisymmetric}
use Rattle.std.proofs.lemmas.Bool.{cases_Bool, both_ways}
use Rattle.tup_path.proofs.Same.{by_names-decides, same_path-decides, same_tree, get_inserted_elsewhere, get_removed_elsewhere}
use Rattle.tup_path.specs.Tree.{Tree, IsTree, tree_of_files}
use Rattle.tup_site.specs.Cause.{IsPlace, SameBut}
use Rattle.tup_site.specs.Edit.{MayAdd}
use Rattle.std.specs.Result.{is_err}
use Rattle.tup_site.specs.Memory.{removal}
use Rattle.tup_site.specs.declared.change.Change.TheVariants.{Removed}
use Rattle.tup_path.proofs.Maps.{get-of_entries, from_entries-set, from_entries-unset}
use Rattle.tup_site.proofs.Trees.{removed_tree}

-- what is found is what the tree has
pub found_in_tree : (m : BTreeMap Names Content) (path : Names) (found : Option Content) → found ≡ get by_names m path → found ≡ finite.get (tree_of_files m.entries) path
found_in_tree m path found e = e ∙ sym (get-of_entries by_names-total m.entries path)

pub set_in_tree : (m n : BTreeMap Names Content) (path : Names) (content : Content) → Updates by_names m n path (Some content) → tree_of_files n.entries ≡ finite.insert (tree_of_files m.entries) path content
set_in_tree m n path content updates = from_entries-set by_names-total by_names-antisymmetric m.entries n.entries path content updates.0

pub unset_in_tree : (m n : BTreeMap Names Content) (path : Names) → UpdatesBy by_names (by_names path) m n None → tree_of_files n.entries ≡ finite.remove (tree_of_files m.entries) path
unset_in_tree m n path updates = from_entries-unset by_names-total by_names-antisymmetric m.entries n.entries path updates.0

pub stays_without : (m n : BTreeMap Names Content) (path : Names) → IsTree (tree_of_files m.entries) → UpdatesBy by_names (by_names path) m n None → IsTree (tree_of_files n.entries)
stays_without m n path is updates = subst IsTree (sym (unset_in_tree m n path updates)) (removed_tree _ path is)

-- a call changes one path alone, whether it succeeded or not
pub put_elsewhere : {T E : Type 0} (result : Result T E) (old mid new : Tree) (path : Names) (content : Content) → mid ≡ old → OnOk result (new ≡ finite.insert mid path content) → OnErr result (new ≡ mid) → SameBut path old new
put_elsewhere (Ok value) old mid new path content e done left = λ other apart. ap (λ t. finite.get t other) done ∙ get_inserted_elsewhere mid path other content apart ∙ ap (λ t. finite.get t other) e
put_elsewhere (Err failed) old mid new path content e done left = λ other apart. ap (λ t. finite.get t other) (left ∙ e)

pub gone_elsewhere : {T E : Type 0} (result : Result T E) (old mid new : Tree) (path : Names) → mid ≡ old → OnOk result (new ≡ finite.remove mid path) → OnErr result (new ≡ mid) → SameBut path old new
gone_elsewhere (Ok value) old mid new path e done left = λ other apart. ap (λ t. finite.get t other) done ∙ get_removed_elsewhere mid path other apart ∙ ap (λ t. finite.get t other) e
gone_elsewhere (Err failed) old mid new path e done left = λ other apart. ap (λ t. finite.get t other) (left ∙ e)

-- where a file is, none may be added
pub taken : (m : BTreeMap Names Content) (path : Names) → is_some (get by_names m path) ≡ true → MayAdd (tree_of_files m.entries) path → ⊥
taken m path there may =
    let no : false ≡ true = sym (ap is_some may.none) ∙ ap is_some (get-of_entries by_names-total m.entries path) ∙ there in cc

nothing : {X : Type 0} (found : Option X) → is_some found ≡ false → found ≡ None
nothing None e = refl
nothing (Some x) e = cc

pub may_add : (m : BTreeMap Names Content) (path : Names) → is_some (get by_names m path) ≡ false → IsPlace (tree_of_files m.entries) path → MayAdd (tree_of_files m.entries) path
may_add m path none place = record { none = get-of_entries by_names-total m.entries path ∙ nothing _ none; place = place }

-- where no file is, taking it away changes nothing
pub removed_none : (m : BTreeMap Names Content) (path : Names) → is_some (get by_names m path) ≡ false → finite.remove (tree_of_files m.entries) path ≡ tree_of_files m.entries
removed_none m path none = same_tree _ _ (λ q. elim (cases_Bool (same_path q path)) [
  | inl so ↦ let e = (same_path-decides q path).0 so in
      finite.get-remove by_names-total (tree_of_files m.entries) path q ∙ ap (λ b. cond b None (finite.get (tree_of_files m.entries) q)) ((by_names-decides q path).1 e)
      ∙ sym (ap (finite.get (tree_of_files m.entries)) e ∙ get-of_entries by_names-total m.entries path ∙ nothing _ none)
  | inr nay ↦ get_removed_elsewhere (tree_of_files m.entries) path q (λ e. both_ways _ nay ((same_path-decides q path).1 e))
])

-- whether a file is there, as the map tells
pub there_in_tree : (m : BTreeMap Names Content) (path : Names) (there : Bool) → is_some (get by_names m path) ≡ there → is_some (finite.get (tree_of_files m.entries) path) ≡ there
there_in_tree m path there e = ap is_some (get-of_entries by_names-total m.entries path) ∙ e

pub on_err : {T E P : Type 0} (result : Result T E) → is_err result ≡ true → OnErr result P → P
on_err (Ok value) e p = absurd (both_ways false refl e)
on_err (Err failed) e p = p

pub on_ok : {T E P : Type 0} (result : Result T E) → is_err result ≡ false → OnOk result P → P
on_ok (Ok value) e p = p
on_ok (Err failed) e p = absurd (both_ways true e refl)

-- a removal is a change only where the file is there
pub no_removal : (tree : Tree) (path : Names) → is_some (finite.get tree path) ≡ false → removal tree path ≡ []
no_removal tree path none = ap (λ (b : Bool). if b then Removed path ∷ [] else []) none

pub one_removal : (tree : Tree) (path : Names) → is_some (finite.get tree path) ≡ true → removal tree path ≡ Removed path ∷ []
one_removal tree path there = ap (λ (b : Bool). if b then Removed path ∷ [] else []) there
