-- Maps with the same keys.
use Rattle.std.proofs.Common.{◌≡◌, Bool, true, false, cond, ◌&&◌, T, List, [], ◌∷◌, map, Option, Some, None, is_some, refl, sym, ap, ◌∙◌, subst}
use Rattle.std.specs.FinMap as finite
use Rattle.std.specs.FinMap.{find, is_sorted}
use Rattle.std.specs.FinMap.Entries.{below_all}
use Rattle.std.specs.Option.{option_map}
use Rattle.std.specs.Ordering.{eq_by_cmp, is_lt}
use Rattle.tup_path.specs.Name.{Names}
use Rattle.tup_path.specs.Order.{by_names, by_names-total, by_names-antisymmetric}

-- entries without their values
abbrev hollow : {X : Type 0} → List (Names × X) → List (Names × Bool)
hollow [] = []
hollow (e ∷ es) = (e.0, true) ∷ hollow es

hollow_keys : {X : Type 0} (es : List (Names × X)) → map (λ (e : Names × Bool). e.0) (hollow es) ≡ map (λ (e : Names × X). e.0) es
hollow_keys [] = refl
hollow_keys (e ∷ es) = ap (λ ks. e.0 ∷ ks) (hollow_keys es)

hollow_found : {X : Type 0} (q : Names) (es : List (Names × X)) → find by_names q (hollow es) ≡ option_map (λ _. true) (find by_names q es)
hollow_found q [] = refl
hollow_found {X} q (e ∷ es) = by (eq_by_cmp by_names q e.0) (hollow_found q es)
  where
    by : (b : Bool) → find by_names q (hollow es) ≡ option_map (λ (_ : X). true) (find by_names q es)
        → cond b (Some true) (find by_names q (hollow es)) ≡ option_map (λ (_ : X). true) (cond b (Some e.1) (find by_names q es))
    by true more = refl
    by false more = more

hollow_below : {X : Type 0} (x : Names) (es : List (Names × X)) → below_all by_names x (hollow es) ≡ below_all by_names x es
hollow_below x [] = refl
hollow_below x (e ∷ es) = ap (λ b. is_lt (by_names x e.0) && b) (hollow_below x es)

hollow_sorted : {X : Type 0} (es : List (Names × X)) → is_sorted by_names (hollow es) ≡ is_sorted by_names es
hollow_sorted [] = refl
hollow_sorted (e ∷ es) = ap (λ b. b && is_sorted by_names (hollow es)) (hollow_below e.0 es) ∙ ap (λ b. below_all by_names e.0 es && b) (hollow_sorted es)

alike : {X Y : Type 0} (x : Option X) (y : Option Y) → is_some x ≡ is_some y → option_map (λ _. true) x ≡ option_map (λ _. true) y
alike None None e = refl
alike None (Some y) e = cc
alike (Some x) None e = cc
alike (Some x) (Some y) e = refl

-- where the same keys have values the lists of keys are the same
pub same_keys : {X Y : Type 0} (m : finite.FinMap by_names X) (n : finite.FinMap by_names Y) → ((q : Names) → finite.contains_key m q ≡ finite.contains_key n q) → finite.keys m ≡ finite.keys n
same_keys {X} {Y} m n same = sym (hollow_keys (finite.entries m)) ∙ ap (map (λ (e : Names × Bool). e.0)) lists ∙ hollow_keys (finite.entries n)
  where
    up : {Z : Type 0} (k : finite.FinMap by_names Z) → T (is_sorted by_names (hollow (finite.entries k)))
    up k = subst T (sym (hollow_sorted (finite.entries k))) (finite.entries_sorted k)

    at : {Z : Type 0} (k : finite.FinMap by_names Z) (q : Names) → finite.get (finite.from_sorted {R = by_names} (hollow (finite.entries k))) q ≡ option_map (λ (_ : Z). true) (finite.get k q)
    at {Z} k q =
        finite.get-from_sorted by_names (hollow (finite.entries k)) q (up k) ∙ hollow_found q (finite.entries k)
        ∙ ap (option_map (λ (_ : Z). true)) (sym (finite.get-entries k q))

    maps : finite.from_sorted {R = by_names} (hollow (finite.entries m)) ≡ finite.from_sorted (hollow (finite.entries n))
    maps = finite.same_map by_names-total by_names-antisymmetric _ _ (λ q. at m q ∙ alike (finite.get m q) (finite.get n q) (same q) ∙ sym (at n q))

    lists : hollow (finite.entries m) ≡ hollow (finite.entries n)
    lists = sym (finite.entries-from_sorted by_names (hollow (finite.entries m)) (up m)) ∙ ap (λ k. finite.entries k) maps ∙ finite.entries-from_sorted by_names (hollow (finite.entries n)) (up n)
