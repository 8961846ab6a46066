-- What follows of finite maps, for whoever keeps one: entries that differ at one key make maps that differ there, and a list
-- in order is its map's.
use Rattle.std.specs.Prelude.{◌≡◌, cond, List, [], ◌∷◌, None, Some, map, length}
use Rattle.std.proofs.Common.{refl, sym, ap, ◌∙◌, arith}
use Rattle.std.specs.declared.cmp.Ordering.{Ordering}
use Rattle.std.specs.Ordering.{eq_by_cmp}
use Rattle.std.specs.Cmp.{IsTotalOrder, eq_by_cmp_equiv}
use Rattle.std.specs.List.Sorted.{IsStrictlySortedBy}
use Rattle.std.specs.Map.{lookup, keys_of}
use Rattle.std.specs.BTreeMap.{is_at}
use Rattle.std.specs.FinMap as finite
use Rattle.std.specs.FinMap.{IsAntisymmetric, get, insert, remove, from_entries, entries, keys, put, find}

pub no_entries : {X : Type 0} (xs : List X) → length xs ≡ 0 → xs ≡ []
no_entries [] e = refl
no_entries (x ∷ xs) e = absurd (omega arith)

module _ {K X : Type 0} {R : K → K → Ordering} (o : IsTotalOrder R) where
  find-lookup : (es : List (K × X)) (q : K) → find R q es ≡ lookup (is_at (R q)) es
  find-lookup [] q = refl
  find-lookup (e ∷ es) q = ap (cond (is_at (R q) e.0) (Some e.1)) (find-lookup es q)

  -- what the map of a list of entries has at a key
  pub get-of_entries : (es : List (K × X)) (q : K) → get (from_entries {R = R} es) q ≡ lookup (is_at (R q)) es
  get-of_entries es q = finite.get-from_entries o es q ∙ find-lookup es q

  -- entries that differ in one value
  pub from_entries-set : IsAntisymmetric R → (es fs : List (K × X)) (k : K) (v : X) → ((q : K) → lookup (is_at (R q)) fs ≡ cond (is_at (R k) q) (Some v) (lookup (is_at (R q)) es)) → from_entries {R = R} fs ≡ insert (from_entries es) k v
  from_entries-set same es fs k v h = finite.same_map o same _ _ (λ q.
      get-of_entries fs q ∙ h q ∙ ap (λ b. cond b (Some v) (lookup (is_at (R q)) es)) ((eq_by_cmp_equiv o).symm k q)
      ∙ sym (finite.get-insert o (from_entries es) k v q ∙ ap (cond (eq_by_cmp R q k) (Some v)) (get-of_entries es q)))

  -- entries of which one is gone
  pub from_entries-unset : IsAntisymmetric R → (es fs : List (K × X)) (k : K) → ((q : K) → lookup (is_at (R q)) fs ≡ cond (is_at (R k) q) None (lookup (is_at (R q)) es)) → from_entries {R = R} fs ≡ remove (from_entries es) k
  from_entries-unset same es fs k h = finite.same_map o same _ _ (λ q.
      get-of_entries fs q ∙ h q ∙ ap (λ b. cond b None (lookup (is_at (R q)) es)) ((eq_by_cmp_equiv o).symm k q)
      ∙ sym (finite.get-remove o (from_entries es) k q ∙ ap (cond (eq_by_cmp R q k) None) (get-of_entries es q)))

  put_first : (e : K × X) (es : List (K × X)) → IsStrictlySortedBy R (keys_of (e ∷ es)) → put R e.0 e.1 es ≡ e ∷ es
  unfolding IsStrictlySortedBy
  put_first e [] h = refl
  put_first e (f ∷ fs) h = rw h.0.0 refl

  rest_sorted : (e : K × X) (es : List (K × X)) → IsStrictlySortedBy R (keys_of (e ∷ es)) → IsStrictlySortedBy R (keys_of es)
  unfolding IsStrictlySortedBy
  rest_sorted e es h = h.1

  -- a list in order is its map's
  pub entries-of_sorted : (es : List (K × X)) → IsStrictlySortedBy R (keys_of es) → entries (from_entries {R = R} es) ≡ es
  entries-of_sorted [] h = no_entries _ (sym (finite.len-entries finite.empty) ∙ finite.len-empty R X)
  entries-of_sorted (e ∷ es) h =
      finite.entries-insert o (from_entries es) e.0 e.1 ∙ ap (put R e.0 e.1) (entries-of_sorted es (rest_sorted e es h)) ∙ put_first e es h

  pub keys-of_sorted : (es : List (K × X)) → IsStrictlySortedBy R (keys_of es) → keys (from_entries {R = R} es) ≡ keys_of es
  keys-of_sorted es h = ap (map (λ (e : K × X). e.0)) (entries-of_sorted es h)
