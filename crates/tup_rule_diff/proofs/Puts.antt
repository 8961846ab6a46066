-- Finite maps into which entries are put one after another, and from which they are taken.
use Rattle.std.specs.Prelude.{◌≡◌, ◌⊎◌, Bool, true, false, cond, List, [], ◌∷◌, Option, None, Some, Contains, Decides, filter, fold, is_some}
use Rattle.std.proofs.Common.{refl, sym, ap, subst, ◌∙◌, inl, inr}
use Rattle.std.specs.declared.cmp.Ordering.{Ordering}
use Rattle.std.specs.declared.cmp.Ordering.TheVariants.{Less, Equal, Greater}
use Rattle.std.specs.Ordering.{eq_by_cmp, is_eq, is_lt}
use Rattle.std.specs.Cmp.{IsTotalOrder}
use Rattle.std.specs.FinMap as finite
use Rattle.std.specs.FinMap.{FinMap, IsAntisymmetric, find, is_sorted}
use Rattle.std.specs.FinMap.Entries.{below_all}
use Rattle.std.proofs.Math.Dec.{T}
use Rattle.std.proofs.lemmas.Bool.{and_parts}
use Rattle.tup_readers.proofs.Entries.{in_front, behind_front, front_or_behind, none_in}

pub t_true : (b : Bool) → T b → b ≡ true
t_true true t = refl
t_true false t = absurd t

not_same : {K : Type 0} (R : K → K → Ordering) (a b : K) → is_lt (R a b) ≡ true → eq_by_cmp R a b ≡ false
not_same R a b less = by (R a b) less
  where
    by : (r : Ordering) → is_lt r ≡ true → is_eq r ≡ false
    by Less e = refl
    by Equal e = absurd (let wrong : false ≡ true = e in cc)
    by Greater e = refl

module _ {K X : Type 0} {R : K → K → Ordering} (o : IsTotalOrder R) (exact : IsAntisymmetric R) (decides : (x y : K) → Decides (eq_by_cmp R x y) (x ≡ y)) where
  abbrev pub put_one : FinMap R X → K × X → FinMap R X
  put_one m e = finite.insert m e.0 e.1

  abbrev pub take_one : FinMap R X → K × X → FinMap R X
  take_one m e = finite.remove m e.0

  -- ---- all is taken
  still_none : (f b : Bool) (x : X) (found got : Option X) → cond (is_some found) None (cond b None got) ≡ cond (is_some (cond b (Some x) found)) None got
  still_none f true x None got = refl
  still_none f true x (Some y) got = refl
  still_none f false x found got = refl

  pub get_taken : (es : List (K × X)) (m : FinMap R X) (q : K) → finite.get (fold take_one m es) q ≡ cond (is_some (find R q es)) None (finite.get m q)
  get_taken [] m q = refl
  get_taken (e ∷ es) m q =
      get_taken es (take_one m e) q
      ∙ ap (cond (is_some (find R q es)) None) (finite.get-remove o m e.0 q)
      ∙ still_none true (eq_by_cmp R q e.0) e.1 (find R q es) (finite.get m q)

  none_left : (found old : Option X) → (found ≡ None → old ≡ None) → cond (is_some found) None old ≡ None
  none_left (Some x) old none = refl
  none_left None old none = none refl

  -- nothing is left where all that a map has is taken
  pub all_gone : (es : List (K × X)) (m : FinMap R X) → ((q : K) → find R q es ≡ None → finite.get m q ≡ None) → fold take_one m es ≡ finite.empty
  all_gone es m none = finite.same_map o exact _ _ (λ q. get_taken es m q ∙ none_left (find R q es) (finite.get m q) (none q) ∙ sym (finite.get-empty R q))

  nothing_left : (found : Option X) → cond (is_some found) None found ≡ None
  nothing_left None = refl
  nothing_left (Some x) = refl

  pub all_taken : (m : FinMap R X) → fold take_one m (finite.entries m) ≡ finite.empty
  all_taken m = finite.same_map o exact _ _ (λ q.
      get_taken (finite.entries m) m q ∙ ap (cond (is_some (find R q (finite.entries m))) None) (finite.get-entries m q)
      ∙ nothing_left (find R q (finite.entries m)) ∙ sym (finite.get-empty R q))

  -- ---- each key is put once
  abbrev pub Once : List (K × X) → Type 0
  Once [] = Unit {0}
  Once (e ∷ es) = (find R e.0 es ≡ None) × Once es

  abbrev pub first_or : Option X → Option X → Option X
  first_or (Some x) got = Some x
  first_or None got = got

  later_or : (b : Bool) (x : X) (found got : Option X) → (b ≡ true → found ≡ None) → first_or found (cond b (Some x) got) ≡ first_or (cond b (Some x) found) got
  later_or true x found got none = ap (λ (f : Option X). first_or f (Some x)) (none refl)
  later_or false x found got none = refl

  pub get_put : (es : List (K × X)) → Once es → (m : FinMap R X) (q : K) → finite.get (fold put_one m es) q ≡ first_or (find R q es) (finite.get m q)
  get_put [] once m q = refl
  get_put (e ∷ es) once m q =
      get_put es once.1 (put_one m e) q
      ∙ ap (first_or (find R q es)) (finite.get-insert o m e.0 e.1 q)
      ∙ later_or (eq_by_cmp R q e.0) e.1 (find R q es) (finite.get m q) (λ same. ap (λ (k : K). find R k es) ((decides q e.0).0 same) ∙ once.0)

  pub none_below : (k : K) (es : List (K × X)) → below_all R k es ≡ true → find R k es ≡ None
  none_below k [] up = refl
  none_below k (e ∷ es) up =
      let parts = and_parts (is_lt (R k e.0)) (below_all R k es) up in
      ap (λ (b : Bool). cond b (Some e.1) (find R k es)) (not_same R k e.0 parts.0) ∙ none_below k es parts.1

  sorted_once : (es : List (K × X)) → is_sorted R es ≡ true → Once es
  sorted_once [] up = tt
  sorted_once (e ∷ es) up =
      let parts = and_parts (below_all R e.0 es) (is_sorted R es) up in
      (none_below e.0 es parts.0, sorted_once es parts.1)

  pub once_sorted : (m : FinMap R X) → Once (finite.entries m)
  once_sorted m = sorted_once (finite.entries m) (t_true (is_sorted R (finite.entries m)) (finite.entries_sorted m))

  pub or_none : (found : Option X) → first_or found None ≡ found
  or_none None = refl
  or_none (Some x) = refl

  pub all_put : (m : FinMap R X) → fold put_one finite.empty (finite.entries m) ≡ m
  all_put m = finite.same_map o exact _ _ (λ q.
      get_put (finite.entries m) (once_sorted m) finite.empty q
      ∙ ap (first_or (find R q (finite.entries m))) (finite.get-empty R q) ∙ or_none (find R q (finite.entries m)) ∙ sym (finite.get-entries m q))

  -- ---- what is put counts, whatever was there
  split : (found : Option X) (b : Bool) (x : X) (got : Option X) → first_or found (cond b (Some x) got) ≡ first_or (first_or found (cond b (Some x) None)) got
  split (Some y) b x got = refl
  split None true x got = refl
  split None false x got = refl

  pub put_over : (es : List (K × X)) (m : FinMap R X) (q : K) → finite.get (fold put_one m es) q ≡ first_or (finite.get (fold put_one finite.empty es) q) (finite.get m q)
  put_over [] m q = ap (λ (found : Option X). first_or found (finite.get m q)) (sym (finite.get-empty R q))
  put_over (e ∷ es) m q =
      let found = finite.get (fold put_one finite.empty es) q in
      put_over es (put_one m e) q
      ∙ ap (first_or found) (finite.get-insert o m e.0 e.1 q)
      ∙ split found (eq_by_cmp R q e.0) e.1 (finite.get m q)
      ∙ ap (λ (one : Option X). first_or one (finite.get m q))
      (sym (put_over es (put_one finite.empty e) q ∙ ap (first_or found) (finite.get-insert o finite.empty e.0 e.1 q ∙ ap (cond (eq_by_cmp R q e.0) (Some e.1)) (finite.get-empty R q))))

  none_under : (found old : Option X) → (found ≡ None → old ≡ None) → first_or found old ≡ found
  none_under (Some x) old none = refl
  none_under None old none = none refl

  -- where a map has nothing but under keys that are put, it is as if it had been empty
  pub put_anew : (es : List (K × X)) (m : FinMap R X) → ((q : K) → finite.get (fold put_one finite.empty es) q ≡ None → finite.get m q ≡ None) → fold put_one m es ≡ fold put_one finite.empty es
  put_anew es m none = finite.same_map o exact _ _ (λ q. put_over es m q ∙ none_under (finite.get (fold put_one finite.empty es) q) (finite.get m q) (none q))

  -- ---- the entries whose keys pass a test
  abbrev nothing : Option X
  nothing = None

  neither : (b : Bool) → nothing ≡ cond b nothing nothing
  neither true = refl
  neither false = refl

  pub find_passed : (test : K → Bool) (es : List (K × X)) (q : K) → find R q (filter (λ (e : K × X). test e.0) es) ≡ cond (test q) (find R q es) None
  find_passed test [] q = neither (test q)
  find_passed test (e ∷ es) q =
      let rest = filter (λ (one : K × X). test one.0) es in
      (elim (test e.0) as (λ b. test e.0 ≡ b → find R q (cond b (e ∷ rest) rest) ≡ cond (test q) (cond (eq_by_cmp R q e.0) (Some e.1) (find R q es)) None) [
        | true ↦ λ passes. ap (cond (eq_by_cmp R q e.0) (Some e.1)) (find_passed test es q) ∙ in_it (eq_by_cmp R q e.0) (test q) (find R q es) (λ same. ap test ((decides q e.0).0 same) ∙ passes)
        | false ↦ λ fails. find_passed test es q ∙ not_in (eq_by_cmp R q e.0) (test q) (find R q es) (λ same. ap test ((decides q e.0).0 same) ∙ fails)
      ]) refl
    where
      in_it : (b t : Bool) (found : Option X) → (b ≡ true → t ≡ true) → cond b (Some e.1) (cond t found None) ≡ cond t (cond b (Some e.1) found) None
      in_it true t found passes = ap (λ (c : Bool). cond c (Some e.1) None) (sym (passes refl))
      in_it false t found passes = refl

      not_in : (b t : Bool) (found : Option X) → (b ≡ true → t ≡ false) → cond t found None ≡ cond t (cond b (Some e.1) found) None
      not_in true t found fails = ap (λ (c : Bool). cond c found None) (fails refl) ∙ ap (λ (c : Bool). cond c (Some e.1) None) (sym (fails refl))
      not_in false t found fails = refl

  pub found : (es : List (K × X)) (q : K) (x : X) → Contains es (q, x) → (y : X) × (find R q es ≡ Some y)
  found [] q x h = absurd (none_in (q, x) h)
  found (first ∷ es) q x h = elim (front_or_behind first (q, x) es h) [
    | inl same ↦ (first.1, ap (λ (b : Bool). cond b (Some first.1) (find R q es)) ((decides q first.0).1 (λ i. (sym same i).0)))
    | inr later ↦ by (eq_by_cmp R q first.0) (found es q x later)
  ]
    where
      by : (b : Bool) → (y : X) × (find R q es ≡ Some y) → (y : X) × (cond b (Some first.1) (find R q es) ≡ Some y)
      by true later = (first.1, refl)
      by false later = later

  -- ---- what was put is there
  pub put_there : (es : List (K × X)) (m : FinMap R X) (q : K) (x : X) → finite.get (fold put_one m es) q ≡ Some x → Contains es (q, x) ⊎ (finite.get m q ≡ Some x)
  put_there [] m q x e = inr e
  put_there (first ∷ es) m q x e = elim (put_there es (put_one m first) q x e) [
    | inl later ↦ inl (behind_front first (q, x) es later)
    | inr here ↦ by (eq_by_cmp R q first.0) refl (sym (finite.get-insert o m first.0 first.1 q) ∙ here)
  ]
    where
      by : (b : Bool) → eq_by_cmp R q first.0 ≡ b → cond b (Some first.1) (finite.get m q) ≡ Some x → Contains (first ∷ es) (q, x) ⊎ (finite.get m q ≡ Some x)
      by true same e =
          let value : first.1 ≡ x = cc in
          inl (subst (Contains (first ∷ es)) (λ i. (sym ((decides q first.0).0 same) i, value i)) (in_front first es))
      by false apart e = inr e

  still_there : (es : List (K × X)) (m : FinMap R X) (q : K) (x : X) → finite.get m q ≡ Some x → (y : X) × (finite.get (fold put_one m es) q ≡ Some y)
  still_there [] m q x e = (x, e)
  still_there (first ∷ es) m q x e = by (still_there es (put_one m first) q) (eq_by_cmp R q first.0) refl
    where
      by : ((z : X) → finite.get (put_one m first) q ≡ Some z → (y : X) × (finite.get (fold put_one (put_one m first) es) q ≡ Some y)) → (b : Bool) → eq_by_cmp R q first.0 ≡ b
          → (y : X) × (finite.get (fold put_one (put_one m first) es) q ≡ Some y)
      by next true same = next first.1 (finite.get-insert o m first.0 first.1 q ∙ ap (λ (b : Bool). cond b (Some first.1) (finite.get m q)) same)
      by next false apart = next x (finite.get-insert o m first.0 first.1 q ∙ ap (λ (b : Bool). cond b (Some first.1) (finite.get m q)) apart ∙ e)

  pub there_put : (es : List (K × X)) (m : FinMap R X) (q : K) (x : X) → Contains es (q, x) → (y : X) × (finite.get (fold put_one m es) q ≡ Some y)
  there_put [] m q x h = absurd (none_in (q, x) h)
  there_put (first ∷ es) m q x h = elim (front_or_behind first (q, x) es h) [
    | inl same ↦ still_there es (put_one m first) q x (finite.get-insert o m first.0 first.1 q
        ∙ ap (λ (b : Bool). cond b (Some first.1) (finite.get m q)) ((decides q first.0).1 (λ i. (sym same i).0)) ∙ (λ i. Some (same i).1))
    | inr later ↦ there_put es (put_one m first) q x later
  ]

  -- ---- what stands needn't be put
  module _ (all news : List (K × X)) (m : FinMap R X) (within : (k : K) (x : X) → Contains news (k, x) → Contains all (k, x)) (rest : (k : K) (x : X) → Contains all (k, x) → Contains news (k, x) ⊎ (finite.get m k ≡ Some x))
      (one : (k : K) (x y : X) → Contains all (k, x) → Contains all (k, y) → x ≡ y) (others : (k : K) → finite.get (fold put_one finite.empty all) k ≡ None → finite.get m k ≡ None) where
    in_all : (es : List (K × X)) (q : K) (x : X) → finite.get (fold put_one finite.empty es) q ≡ Some x → Contains es (q, x)
    in_all es q x is = elim (put_there es finite.empty q x is) [
      | inl there ↦ there
      | inr none ↦ absurd (let wrong : None ≡ Some x = sym (finite.get-empty R q) ∙ none in cc)
    ]

    at : (q : K) (n a : Option X) → finite.get (fold put_one finite.empty news) q ≡ n → finite.get (fold put_one finite.empty all) q ≡ a → first_or n (finite.get m q) ≡ a
    at q (Some x) (Some y) new old = ap Some (one q x y (within q x (in_all news q x new)) (in_all all q y old))
    at q (Some x) None new old =
        let there = there_put all finite.empty q x (within q x (in_all news q x new)) in
        absurd (let wrong : None ≡ Some there.0 = sym old ∙ there.1 in cc)
    at q None None new old = others q old
    at q None (Some y) new old = elim (rest q y (in_all all q y old)) [
      | inl there ↦ (let put = there_put news finite.empty q y there in absurd (let wrong : None ≡ Some put.0 = sym new ∙ put.1 in cc))
      | inr stands ↦ stands
    ]

    pub put_news : fold put_one m news ≡ fold put_one finite.empty all
    put_news = finite.same_map o exact _ _ (λ q. put_over news m q ∙ at q (finite.get (fold put_one finite.empty news) q) (finite.get (fold put_one finite.empty all) q) refl refl)
