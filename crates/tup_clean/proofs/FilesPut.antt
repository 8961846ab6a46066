-- What a tree holds once the files of a rule were put into it.
use Rattle.std.proofs.Common.{◌≡◌, Bool, true, false, cond, List, [], ◌∷◌, map, None, Some, refl, sym, ap, ◌∙◌, inl, inr}
use Rattle.std.proofs.lemmas.Bool.{cases_Bool}
use Rattle.std.specs.FinMap as finite
use Rattle.tup_path.specs.Name.{Names, Content}
use Rattle.tup_path.specs.Order.{by_names, same_path, same_path-by_names, by_names-total}
use Rattle.tup_path.specs.Tree.{Tree}
use Rattle.tup_rule.specs.Rule.{among}
use Rattle.tup_clean.specs.Clean.{with_files}
use Rattle.tup_clean.proofs.Among.{same_path-equal}

-- each of the paths with its content
abbrev pub each_with : (Names → Content) → List Names → List (Names × Content)
each_with content paths = map (λ path. (path, content path)) paths

get-insert : (tree : Tree) (path : Names) (content : Content) (q : Names) →
    finite.get (finite.insert tree path content) q ≡ cond (same_path q path) (Some content) (finite.get tree q)
get-insert tree path content q = rw (same_path-by_names q path) (finite.get-insert by_names-total tree path content q)

either_way : {A : Type 0} (b : Bool) (x : A) → cond b x x ≡ x
either_way true x = refl
either_way false x = refl

pub get-with_files : (content : Names → Content) (paths : List Names) (tree : Tree) (q : Names) →
    finite.get (with_files tree (each_with content paths)) q ≡ cond (among q paths) (Some (content q)) (finite.get tree q)
get-with_files content [] tree q = refl
get-with_files content (path ∷ paths) tree q =
    let rest = get-with_files content paths (finite.insert tree path (content path)) q ∙ ap (cond (among q paths) (Some (content q))) (get-insert tree path (content path) q) in
    elim (cases_Bool (same_path q path)) [
      | inl same ↦ rest ∙ rw (same, ap content (sym (same_path-equal q path same))) (either_way (among q paths) (Some (content q)))
      | inr apart ↦ rest ∙ rw apart refl
    ]

pub find-each_with : (content : Names → Content) (paths : List Names) (q : Names) →
    finite.find by_names q (each_with content paths) ≡ cond (among q paths) (Some (content q)) None
find-each_with content [] q = refl
find-each_with content (path ∷ paths) q =
    elim (cases_Bool (same_path q path)) [
      | inl same ↦ rw (← (same_path-by_names q path), same, ap content (sym (same_path-equal q path same))) refl
      | inr apart ↦ rw (← (same_path-by_names q path), apart) (find-each_with content paths q)
    ]
