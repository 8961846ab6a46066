-- Lists by paths with one value more.
use Rattle.std.specs.Prelude.{◌≡◌, ◌⊎◌, Bool, true, false, cond, if◌then◌else◌, List, [], ◌∷◌, ◌++◌, Option, Some, Contains, unwrap_or}
use Rattle.std.proofs.Common.{refl, sym, ap, subst, ◌∙◌, inl, inr}
use Rattle.std.specs.Ordering.{eq_by_cmp}
use Rattle.std.proofs.lemmas.List.Elements.{Contains-push, Contains-push_cases, Contains-append_left}
use Rattle.tup_path.specs.Name.{Names}
use Rattle.tup_path.specs.Order.{by_names, same_path, same_path-by_names}
use Rattle.tup_path.proofs.Same.{same_path-decides, by_names-decides}
use Rattle.tup_closure.specs.Grows.{Grows}
use Rattle.std.specs.BTreeMap.{BTreeMap}
use Rattle.std.specs.Prelude.{None, option_map}
use Rattle.tup_closure.specs.Lists.{last_of, list_beside, list_in, list_of, IsListed}
use Rattle.tup_closure.specs.declared.lists.Lists.{Lists}

-- the test of the map is the test of paths, the other way round
pub same_key : (path q : Names) → eq_by_cmp by_names path q ≡ same_path q path
same_key path q = both (eq_by_cmp by_names path q) (same_path q path)
    (λ e. (same_path-decides q path).1 (sym ((by_names-decides path q).0 e))) (λ e. (by_names-decides path q).1 (sym ((same_path-decides q path).0 e)))
  where
    both : (a b : Bool) → (a ≡ true → b ≡ true) → (b ≡ true → a ≡ true) → a ≡ b
    both true b to from = sym (to refl)
    both false true to from = from refl
    both false false to from = refl

-- two paths are the same, or not, whichever comes first
pub flipped : (x y : Names) → same_path x y ≡ same_path y x
flipped x y = same_path-by_names x y ∙ same_key x y

nothing : (path : Names) → ◌≡◌ {A = Option Names} None (Some path) → ⊥
nothing path e = cc

same_last : (known path : Names) → Some known ≡ Some path → known ≡ path
same_last known path e = cc

module _ {V : Type 0} where
  -- the list at a path once that of another was written
  pub list_written : (path q : Names) (list : List V) (before after : Option (List V)) → after ≡ cond (eq_by_cmp by_names path q) (Some list) before →
      unwrap_or after [] ≡ (if same_path q path then list else unwrap_or before [])
  list_written path q list before after is =
      ap (λ (o : Option (List V)). unwrap_or o []) (is ∙ ap (λ b. cond b (Some list) before) (same_key path q)) ∙ either (same_path q path)
    where
      either : (b : Bool) → unwrap_or (cond b (Some list) before) [] ≡ (if b then list else unwrap_or before [])
      either true = refl
      either false = refl

  -- a list beside a map with a value more
  beside_pushed : (path q : Names) (list : List V) (map : BTreeMap Names (List V)) (value : V)
      → list_beside (Some (path, list ++ value ∷ [])) map q ≡ (if same_path q path then list_beside (Some (path, list)) map q ++ value ∷ [] else list_beside (Some (path, list)) map q)
  beside_pushed path q list map value = either (same_path q path)
    where
      either : (b : Bool) → (if b then list ++ value ∷ [] else list_in map q) ≡ (if b then (if b then list else list_in map q) ++ value ∷ [] else (if b then list else list_in map q))
      either true = refl
      either false = refl

  -- the list of the last path with a value more
  pub last_pushed : (lists : Lists V) (known path : Names) (list longer : List V) (value : V) → Some (known, list) ≡ lists.last → last_of lists ≡ Some path → longer ≡ list ++ value ∷ [] → (q : Names)
      → list_beside (Some (known, longer)) lists.map q ≡ (if same_path q path then list_of lists q ++ value ∷ [] else list_of lists q)
  last_pushed lists known path list longer value here last is q =
      ap (λ (l : List V). list_beside (Some (known, l)) lists.map q) is ∙ beside_pushed known q list lists.map value
      ∙ ap (λ (o : Option (Names × List V)). if same_path q known then list_beside o lists.map q ++ value ∷ [] else list_beside o lists.map q) here
      ∙ ap (λ (p : Names). if same_path q p then list_of lists q ++ value ∷ [] else list_of lists q) (same_last known path (ap (option_map (λ (one : Names × List V). one.0)) here ∙ last))

  -- where there is no last path, none is the last one
  pub none_last : (last : Option (Names × List V)) (path : Names) → None ≡ last → option_map (λ (one : Names × List V). one.0) last ≡ Some path → ⊥
  none_last last path none is = nothing path (ap (option_map (λ (one : Names × List V). one.0)) none ∙ is)

  -- a path's list is taken out of a map and stands beside it
  pub turned : (path q : Names) (list : List V) (last : Option (Names × List V)) (map : BTreeMap Names (List V)) (before : Names → List V) → last ≡ None → list ≡ before path
      → ((p : Names) → same_path p path ≡ false → list_beside last map p ≡ before p) → list_beside (Some (path, list)) map q ≡ before q
  turned path q list last map before none here others = either (same_path q path) refl
    where
      either : (b : Bool) → same_path q path ≡ b → (if b then list else list_in map q) ≡ before q
      either true e = here ∙ ap before (sym ((same_path-decides q path).0 e))
      either false e = sym (ap (λ (o : Option (Names × List V)). list_beside o map q) none) ∙ others q e

  -- the list beside a map is that of its path, and of no other
  pub beside_here : (known path : Names) (list : List V) (map : BTreeMap Names (List V)) → same_path path known ≡ true → list_beside (Some (known, list)) map path ≡ list
  beside_here known path list map same = ap (λ b. if b then list else list_in map path) same

  pub beside_other : (known path : Names) (list : List V) (map : BTreeMap Names (List V)) → same_path path known ≡ false → list_beside (Some (known, list)) map path ≡ list_in map path
  beside_other known path list map apart = ap (λ b. if b then list else list_in map path) apart

  module _ (old new : Lists V) (path : Names) (value : V) (is : (q : Names) → list_of new q ≡ (if same_path q path then list_of old q ++ value ∷ [] else list_of old q)) where
    abbrev by : Names → Bool → List V
    by q b = if b then list_of old q ++ value ∷ [] else list_of old q

    among : (q : Names) (v : V) (b : Bool) → same_path q path ≡ b → Contains (by q b) v → Contains (list_of old q) v ⊎ ◌≡◌ {A = Names × V} (q, v) (path, value)
    among q v true e c = elim (Contains-push_cases (list_of old q) value v c) [
      | inl before ↦ inl before
      | inr last ↦ inr (λ i. ((same_path-decides q path).0 e i, sym last i))
    ]
    among q v false e c = inl c

    stays : (q : Names) (v : V) (b : Bool) → Contains (list_of old q) v → Contains (by q b) v
    stays q v true c = Contains-append_left (list_of old q) (value ∷ []) v c
    stays q v false c = c

    added : Contains (list_of new path) value
    added = subst (λ (l : List V). Contains l value) (sym (is path ∙ ap (by path) ((same_path-decides path path).1 refl))) (Contains-push (list_of old path) value)

    -- the lists have just one value more
    pub one_listed : Grows (λ (x : Names × V). x ≡ (path, value)) (IsListed old) (IsListed new)
    one_listed = record {
      only = λ x c. among x.0 x.1 (same_path x.0 path) refl (subst (λ (l : List V). Contains l x.1) (is x.0) c);
      all = λ x e. subst (IsListed new) (sym e) added;
      kept = λ x c. subst (λ (l : List V). Contains l x.1) (sym (is x.0)) (stays x.0 x.1 (same_path x.0 path) c);
    }
