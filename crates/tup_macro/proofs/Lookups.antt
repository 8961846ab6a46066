-- What a look-up finds after a new key came last, and entries whose values are seen otherwise.
use Rattle.std.proofs.Common.{◌≡◌, ◌++◌, Bool, true, false, cond, List, [], ◌∷◌, map, length, Some, None, refl, sym, ap, ◌∙◌}
use Rattle.std.proofs.lemmas.List.Edits.{insert_end}
use Rattle.std.proofs.lemmas.Map.{lookup-insert, none_passes_from_lookup}
use Rattle.std.specs.Cmp.{IsEquivalence}
use Rattle.std.specs.Map.{lookup, set_value}

module _ {K X : Type 0} (test : K → Bool) where
  -- values that are seen otherwise, after a change
  pub map-set_value : {Y : Type 0} (view : X → Y) (es : List (K × X)) (w : X) → map (λ (e : K × X). (e.0, view e.1)) (set_value test es w) ≡ set_value test (map (λ (e : K × X). (e.0, view e.1)) es) (view w)
  map-set_value {Y} view [] w = refl
  map-set_value {Y} view (e ∷ es) w = by (test e.0) (map-set_value view es w)
    where
      by : (b : Bool) → map (λ (e : K × X). (e.0, view e.1)) (set_value test es w) ≡ set_value test (map (λ (e : K × X). (e.0, view e.1)) es) (view w) →
          map (λ (e : K × X). (e.0, view e.1)) (cond b ((e.0, w) ∷ es) (e ∷ set_value test es w)) ≡ cond b ((e.0, view w) ∷ map (λ (e : K × X). (e.0, view e.1)) es) ((e.0, view e.1) ∷ set_value test (map (λ (e : K × X). (e.0, view e.1)) es) (view w))
      by true more = refl
      by false more = ap (λ rest. (e.0, view e.1) ∷ rest) more

-- what is found after a new key came last
pub lookup-last : {K X : Type 0} {eq : K → K → Bool} (laws : IsEquivalence eq) (es : List (K × X)) (k q : K) (v : X) → lookup (eq k) es ≡ None → lookup (eq q) (es ++ (k, v) ∷ []) ≡ cond (eq k q) (Some v) (lookup (eq q) es)
lookup-last {eq = eq} laws es k q v absent =
    ap (lookup (eq q)) (sym (insert_end es (k, v))) ∙ lookup-insert laws k v q es (length es) (none_passes_from_lookup (eq k) es absent)
