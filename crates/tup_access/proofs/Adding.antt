-- One more path in a set of paths.
use Rattle.std.proofs.Common.{◌≡◌, ℕ, ◌+◌, ◌<◌, Bool, true, false, cond, ◌||◌, List, length, get_or, take, refl, sym, ap, ◌∙◌}
use Rattle.std.proofs.lemmas.List.Folds.{list_any_more}
use Rattle.std.specs.Ordering.{eq_by_cmp}
use Rattle.std.specs.Cmp.{eq_by_cmp_equiv}
use Rattle.tup_path.specs.Name.{Names}
use Rattle.tup_path.specs.Order.{by_names, by_names-total, same_path, same_path-by_names}
use Rattle.tup_rule.specs.Rule.{among}

one_more : (first front here : Bool) → cond here true (first || front) ≡ (first || (front || here))
one_more true front true = refl
one_more true front false = refl
one_more false true true = refl
one_more false false true = refl
one_more false true false = refl
one_more false false false = refl

pub added : (paths : List Names) (i : ℕ) (item copy path : Names) (first before after : Bool) → i < length paths → item ≡ get_or paths i item → copy ≡ item →
    before ≡ (first || among path (take i paths)) → after ≡ cond (eq_by_cmp by_names copy path) true before → after ≡ (first || among path (take (i + 1) paths))
added paths i item copy path first before after within is copied was now =
    let here : eq_by_cmp by_names copy path ≡ same_path path (get_or paths i item) =
    (eq_by_cmp_equiv by_names-total).symm copy path ∙ ap (eq_by_cmp by_names path) (copied ∙ is) ∙ sym (same_path-by_names path (get_or paths i item)) in
    now ∙ (λ k. cond (here k) true (was k)) ∙ one_more first (among path (take i paths)) (same_path path (get_or paths i item))
    ∙ ap (λ more. first || more) (sym (list_any_more (same_path path) paths i item within))
