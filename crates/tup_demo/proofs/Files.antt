-- What holds of each file of a tree, and the files of the project.
use Rattle.std.proofs.Common.{◌≡◌, Bool, true, false, cond, List, [], ◌∷◌, codes, Option, None, Some, IsSome, refl, sym, ap, subst, ◌∙◌}
use Rattle.std.specs.Ordering.{eq_by_cmp}
use Rattle.std.specs.FinMap as finite
use Rattle.std.specs.FinMap.{find, put}
use Rattle.std.proofs.lemmas.List.{nil_from_length}
use Rattle.tup_path.specs.Name.{Names, Content}
use Rattle.tup_path.specs.Order.{by_names, same_path-by_names, by_names-total}
use Rattle.tup_path.specs.Tree.{Tree}
use Rattle.tup_path.proofs.Same.{same_path-decides}
use Rattle.tup_demo.specs.Project.{demo_files, demo_source, demo_tree, demo_tupfile}

module _ (P : Names → Content → Type 0) where
  abbrev pub AllFiles : List (Names × Content) → Type 0
  AllFiles [] = Unit {0}
  AllFiles (file ∷ files) = P file.0 file.1 × AllFiles files

  found_in : (files : List (Names × Content)) (path : Names) (content : Content) → AllFiles files → find by_names path files ≡ Some content → P path content
  found_in [] path content all e = absurd (let wrong : None ≡ Some content = e in cc)
  found_in (file ∷ files) path content all e = by (eq_by_cmp by_names path file.0) refl (found_in files path content all.1) e
    where
      by : (b : Bool) → eq_by_cmp by_names path file.0 ≡ b → (find by_names path files ≡ Some content → P path content) → cond b (Some file.1) (find by_names path files) ≡ Some content → P path content
      by true same behind is =
          let value : file.1 ≡ content = cc in
          let here : path ≡ file.0 = (same_path-decides path file.0).0 (same_path-by_names path file.0 ∙ same) in
          subst (λ (p : Names). P p content) (sym here) (subst (P file.0) value all.0)
      by false other behind is = behind is

  pub of_each : (tree : Tree) (files : List (Names × Content)) (path : Names) (content : Content) → finite.entries tree ≡ files → AllFiles files → finite.get tree path ≡ Some content → P path content
  of_each tree files path content are all found =
      found_in files path content all (sym (ap (find by_names path) are) ∙ sym (finite.get-entries tree path) ∙ found)

-- a file that is there has a content
pub content_there : (found : Option Content) → IsSome found → (content : Content) × (found ≡ Some content)
content_there (Some content) some = (content, refl)
content_there None some = cc

-- ---- the project's own

abbrev no_files : Tree
no_files = finite.empty

none_there : finite.entries no_files ≡ []
none_there = nil_from_length (finite.entries no_files) (sym (finite.len-entries no_files) ∙ finite.len-empty by_names Content)

pub demo_entries : finite.entries demo_tree ≡ demo_files
demo_entries =
    finite.entries-insert by_names-total (finite.insert no_files (codes "a" ∷ []) demo_source) (codes "Tupfile" ∷ []) demo_tupfile
    ∙ ap (put by_names (codes "Tupfile" ∷ []) demo_tupfile) (finite.entries-insert by_names-total no_files (codes "a" ∷ []) demo_source ∙ ap (put by_names (codes "a" ∷ []) demo_source) none_there)
