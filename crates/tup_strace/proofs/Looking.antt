-- A set that has just the paths of a list, with one more.
use Rattle.std.proofs.Common.{◌≡◌, refl, sym, ap, subst, ◌∙◌, List, [], ◌∷◌, ◌++◌, Bool, true, false}
use Rattle.std.specs.Prelude.{◌||◌, cond}
use Rattle.std.specs.BTreeSet.{BTreeSet, Updates}
use Rattle.std.specs.Ordering.{eq_by_cmp}
use Rattle.std.proofs.lemmas.List.Folds.{list_any-append}
use Rattle.tup_path.specs.Name.{Names}
use Rattle.tup_path.specs.Order.{by_names, same_path, same_path-by_names}
use Rattle.tup_strace.specs.Once.{AreJust, is_among}

either : (same among : Bool) → cond same true among ≡ (among || (same || false))
either true true = refl
either true false = refl
either false true = refl
either false false = refl

pub one_more : (paths : List Names) (path : Names) (old new : BTreeSet Names) → AreJust paths old → Updates by_names old new path true → AreJust (paths ++ path ∷ []) new
one_more paths path old new are updates q =
    updates.0 q
    ∙ (λ i. cond (sym (same_path-by_names path q) i) true (are q i))
    ∙ either (same_path path q) (is_among q paths)
    ∙ sym (list_any-append (λ other. same_path other q) paths (path ∷ []))

-- the same where the path was copied, and the list made room for it
pub one_put : (paths roomy more : List Names) (path copy : Names) (old new : BTreeSet Names) → roomy ≡ paths → more ≡ roomy ++ path ∷ [] → copy ≡ path → AreJust paths old → Updates by_names old new copy true → AreJust more new
one_put paths roomy more path copy old new kept is same are updates =
    subst (λ (l : List Names). AreJust l new) (sym (is ∙ ap (λ (l : List Names). l ++ path ∷ []) kept))
    (one_more paths path old new are (subst (λ (p : Names). Updates by_names old new p true) same updates))
