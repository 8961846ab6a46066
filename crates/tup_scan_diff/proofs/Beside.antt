-- A name that is looked for among those of a folder.
use Rattle.std.specs.Prelude.{◌≡◌, ◌↔◌, ℕ, Bool, List, [], ◌∷◌, ◌++◌, Contains, Decides, bytes_eq, slice_index_or}
use Rattle.std.specs.List.{list_any}
use Rattle.std.proofs.Common.{refl, sym, subst, ◌∙◌}
use Rattle.std.proofs.lemmas.List.Folds.{Any-from_list_any, list_any-from_Any}
use Rattle.tup_path.specs.Name.{Names}
use Rattle.tup_path.proofs.Same.{same_bytes-decides}
use Rattle.tup_closure.specs.Lists.{IsListed, list_of}
use Rattle.tup_scan_diff.specs.declared.index.Index.{Index}

-- a name is found among others where the list contains it
found-decides : (name : List ℕ) (names : List (List ℕ)) → Decides (list_any (bytes_eq name) names) (Contains names name)
found-decides name names = (
  λ e.
      let found = Any-from_list_any (bytes_eq name) names e in
      let here : name ≡ found.1 = (same_bytes-decides name found.1).0 found.4 in
      (found.0, found.2, subst (λ (x : List ℕ). slice_index_or names found.0 x ≡ x) (sym here) found.3),
  λ h. list_any-from_Any (bytes_eq name) names (h.0, name, h.1, h.2, (same_bytes-decides name name).1 refl),
)

-- a file is in a folder where its name is found among those of the folder
pub source_beside : (index : Index) (IsFile : Names → Type 0) (dir : Names) (name : List ℕ) (names : List (List ℕ)) (b : Bool) → ((name : List ℕ) → IsListed index.names (dir, name) ↔ IsFile (dir ++ name ∷ []))
    → names ≡ list_of index.names dir → b ≡ list_any (bytes_eq name) names → Decides b (IsFile (dir ++ name ∷ []))
source_beside index IsFile dir name names b listed here is =
    let found = found-decides name names in (
      λ e. (listed name).0 (subst (λ (l : List (List ℕ)). Contains l name) here (found.0 (sym is ∙ e))),
      λ file. is ∙ found.1 (subst (λ (l : List (List ℕ)). Contains l name) (sym here) ((listed name).1 file)),
    )
