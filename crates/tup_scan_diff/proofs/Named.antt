-- Names of the files in a folder, one after another.
use Rattle.std.specs.Prelude.{◌≡◌, ◌⊎◌, ◌↔◌, ◌+◌, ◌<◌, ℕ, Bool, true, false, not, List, [], ◌∷◌, ◌++◌, Option, Contains, length}
use Rattle.std.proofs.Common.{refl, sym, subst, ◌∙◌, inl, inr, take, get_or, arith}
use Rattle.std.specs.BTreeSet.{BTreeSet, IsOrdered}
use Rattle.std.specs.List.Sorted.{IsStrictlySortedBy}
use Rattle.std.specs.declared.cmp.Ordering.{Ordering}
use Rattle.std.specs.Ordering.{eq_by_cmp}
use Rattle.std.specs.Prelude.{Decides}
use Rattle.std.proofs.lemmas.Bool.{true≢false}
use Rattle.std.proofs.lemmas.List.Elements.{Contains-push, Contains-push_cases, Contains-append_left}
use Rattle.tup_path.specs.Name.{Names, Content}
use Rattle.tup_path.specs.Order.{by_bytes, by_names, same_path}
use Rattle.tup_path.proofs.Same.{same_path-decides}
use Rattle.tup_rule.specs.declared.draft.Draft.{Draft}
use Rattle.tup_graph.specs.Answers.{IsDrafted, IsFileFor}
use Rattle.tup_graph.specs.Graph.{GraphState, source}
use Rattle.tup_graph.proofs.Maps.{by_bytes-antisymmetric, equal_of}
use Rattle.std.specs.Cmp.{eq_by_cmp_equiv}
use Rattle.std.specs.Cmp.Lexicographic.{nat_list_cmp_total}
use Rattle.tup_closure.specs.Lists.{list_of}
use Rattle.tup_closure.proofs.Asked.{taken}
use Rattle.tup_closure.proofs.Members.{contained, in_empty, in_set}
use Rattle.tup_scan_diff.specs.Told.{AreNames}
use Rattle.tup_closure.proofs.Ordered.{same_members}
use Rattle.tup_scan_diff.proofs.Paths.{below_its_folder, none_below_top, one_folder, one_name}
use Rattle.tup_scan_diff.proofs.Sets.{set_on, set_as}
use Rattle.tup_scan_diff.specs.Names.{IsIn, IsDraftedIn, IsOutputIn}
use Rattle.tup_scan_diff.specs.Sets.{Has, GrowsBy}
use Rattle.tup_scan_diff.specs.Present.{IsPresent, graph_of}
use Rattle.tup_scan_diff.specs.declared.present.Present.{Present}

-- names that no order tells apart are equal
pub name-decides : (x y : List ℕ) → Decides (eq_by_cmp by_bytes x y) (x ≡ y)
name-decides x y = (
  λ e. by_bytes-antisymmetric x y (equal_of (by_bytes x y) e),
  λ e. subst (λ z. eq_by_cmp by_bytes x z ≡ true) e ((eq_by_cmp_equiv nat_list_cmp_total).refl x),
)

-- one more element of a list
module _ {X K : Type 0} {cmp : K → K → Ordering} (P : List X → K → Type 0) (One : X → K → Type 0) (xs : List X) (i : ℕ) (x d : X) (less : i < length xs) (here : x ≡ get_or xs i d)
    (to : (k : K) → P (take i xs) k ⊎ One x k → P (take i xs ++ x ∷ []) k) (from : (k : K) → P (take i xs ++ x ∷ []) k → P (take i xs) k ⊎ One x k) where
  pub names_more : {a b c : BTreeSet K} → GrowsBy cmp (P (take i xs)) a b → GrowsBy cmp (One x) b c → GrowsBy cmp (P (take (i + 1) xs)) a c
  names_more {a} {b} {c} first one = subst (λ (l : List X). GrowsBy cmp (P l) a c) (sym (taken xs i x d less here)) (set_as to from (set_on first one))

-- one key more
module _ {K : Type 0} {cmp : K → K → Ordering} where
  pub listed_more : (keys : List K) (i : ℕ) (key d : K) (a b c : BTreeSet K) → i < length keys → key ≡ get_or keys i d
      → GrowsBy cmp (Contains (take i keys)) a b → GrowsBy cmp (λ k. k ≡ key) b c → GrowsBy cmp (Contains (take (i + 1) keys)) a c
  listed_more keys i key d a b c less here = names_more Contains (λ one k. k ≡ one) keys i key d less here to from
    where
      to : (k : K) → Contains (take i keys) k ⊎ (k ≡ key) → Contains (take i keys ++ key ∷ []) k
      to k (inl h) = Contains-append_left (take i keys) (key ∷ []) k h
      to k (inr e) = subst (Contains (take i keys ++ key ∷ [])) (sym e) (Contains-push (take i keys) key)

      from : (k : K) → Contains (take i keys ++ key ∷ []) k → Contains (take i keys) k ⊎ (k ≡ key)
      from k h = elim (Contains-push_cases (take i keys) key k h) [ inl before ↦ inl before | inr last ↦ inr (sym last) ]

pub paths_more : (dir : Names) (paths : List Names) (i : ℕ) (path d : Names) (a b c : BTreeSet (List ℕ)) → i < length paths → path ≡ get_or paths i d
    → GrowsBy by_bytes (IsIn (take i paths) dir) a b → GrowsBy by_bytes (λ name. path ≡ dir ++ name ∷ []) b c → GrowsBy by_bytes (IsIn (take (i + 1) paths) dir) a c
paths_more dir paths i path d a b c less here = names_more (λ l. IsIn l dir) (λ p name. p ≡ dir ++ name ∷ []) paths i path d less here to from
  where
    to : (n : List ℕ) → IsIn (take i paths) dir n ⊎ (path ≡ dir ++ n ∷ []) → IsIn (take i paths ++ path ∷ []) dir n
    to n (inl h) = Contains-append_left (take i paths) (path ∷ []) (dir ++ n ∷ []) h
    to n (inr e) = subst (Contains (take i paths ++ path ∷ [])) e (Contains-push (take i paths) path)

    from : (n : List ℕ) → IsIn (take i paths ++ path ∷ []) dir n → IsIn (take i paths) dir n ⊎ (path ≡ dir ++ n ∷ [])
    from n h = Contains-push_cases (take i paths) path (dir ++ n ∷ []) h

-- one draft more
draft_pushed : (drafts : List Draft) (draft : Draft) (path : Names) → IsDrafted drafts path ⊎ Contains draft.outputs path → IsDrafted (drafts ++ draft ∷ []) path
draft_pushed drafts draft path (inl (one, h, in_it)) = (one, Contains-append_left drafts (draft ∷ []) one h, in_it)
draft_pushed drafts draft path (inr in_it) = (draft, Contains-push drafts draft, in_it)

pushed_draft : (drafts : List Draft) (draft : Draft) (path : Names) → IsDrafted (drafts ++ draft ∷ []) path → IsDrafted drafts path ⊎ Contains draft.outputs path
pushed_draft drafts draft path (one, h, in_it) = elim (Contains-push_cases drafts draft one h) [
  | inl before ↦ inl (one, before, in_it)
  | inr last ↦ inr (subst (λ (o : Draft). Contains o.outputs path) (sym last) in_it)
]

pub drafts_more : (dir : Names) (drafts : List Draft) (i : ℕ) (draft d : Draft) (a b c : BTreeSet (List ℕ)) → i < length drafts → draft ≡ get_or drafts i d
    → GrowsBy by_bytes (IsDraftedIn (take i drafts) dir) a b → GrowsBy by_bytes (IsIn draft.outputs dir) b c → GrowsBy by_bytes (IsDraftedIn (take (i + 1) drafts) dir) a c
drafts_more dir drafts i draft d a b c less here =
    names_more (λ l. IsDraftedIn l dir) (λ (one : Draft). IsIn one.outputs dir) drafts i draft d less here
    (λ n. draft_pushed (take i drafts) draft (dir ++ n ∷ [])) (λ n. pushed_draft (take i drafts) draft (dir ++ n ∷ []))

pub outputs_more : (drafts : List Draft) (i : ℕ) (draft d : Draft) (a b c : BTreeSet Names) → i < length drafts → draft ≡ get_or drafts i d
    → GrowsBy by_names (IsDrafted (take i drafts)) a b → GrowsBy by_names (Contains draft.outputs) b c → GrowsBy by_names (IsDrafted (take (i + 1) drafts)) a c
outputs_more drafts i draft d a b c less here =
    names_more IsDrafted (λ (one : Draft). Contains one.outputs) drafts i draft d less here (draft_pushed (take i drafts) draft) (pushed_draft (take i drafts) draft)

-- ---- all names of a folder

module _ (present : Present) (config : Option Content) (is : IsPresent config present) (reader dir : Names) where
  abbrev g : GraphState
  g = graph_of present

  -- those of the sources, and of the outputs that the reading is told of there
  pub all_names : (first mid all : BTreeSet (List ℕ)) → first.keys ≡ [] → GrowsBy by_bytes (Contains (list_of present.index.names dir)) first mid → GrowsBy by_bytes (IsOutputIn present reader dir) mid all
      → (name : List ℕ) → Has by_bytes all name ↔ IsFileFor (source g) g.readings reader dir name
  all_names first mid all empty sources outputs name = (
    λ h. named (outputs.keys.only name h),
    λ file. elim file [
      | inl here ↦ outputs.keys.kept name (sources.keys.all name ((is.index.names dir name).1 here))
      | inr there ↦ outputs.keys.all name there
    ],
  )
    where
      from_sources : Has by_bytes first name ⊎ Contains (list_of present.index.names dir) name → IsFileFor (source g) g.readings reader dir name
      from_sources (inl before) = absurd (true≢false (sym before ∙ in_empty by_bytes name-decides first name empty))
      from_sources (inr listed) = inl ((is.index.names dir name).0 listed)

      named : Has by_bytes mid name ⊎ IsOutputIn present reader dir name → IsFileFor (source g) g.readings reader dir name
      named (inl before) = from_sources (sources.keys.only name before)
      named (inr out) = inr out

  -- a list of them, in order, and another list
  pub are_names : (all : BTreeSet (List ℕ)) (names : List (List ℕ)) → ((name : List ℕ) → Has by_bytes all name ↔ IsFileFor (source g) g.readings reader dir name) → IsOrdered by_bytes all → names ≡ all.keys → AreNames present reader dir names
  are_names all names each up same = (
    subst (IsStrictlySortedBy by_bytes) (sym same) up,
    λ name. (
      λ h. (each name).0 (in_set by_bytes name-decides all name (subst (λ (l : List (List ℕ)). Contains l name) same h)),
      λ file. subst (λ (l : List (List ℕ)). Contains l name) (sym same) (contained by_bytes name-decides all name ((each name).1 file)),
    ),
  )

pub names_decide : (present : Present) (reader dir : Names) (found names : List (List ℕ)) → AreNames present reader dir found → Decides (same_path found names) (AreNames present reader dir names)
names_decide present reader dir found names are = (
  λ e. subst (AreNames present reader dir) ((same_path-decides found names).0 e) are,
  λ others. (same_path-decides found names).1 (same_members by_bytes nat_list_cmp_total found names are.0 others.0 (λ name h. (others.1 name).1 ((are.1 name).0 h)) (λ name h. (are.1 name).1 ((others.1 name).0 h))),
)

-- ---- a path in a folder

pub other_folder : (path folder dir : Names) (name : List ℕ) → path ≡ folder ++ name ∷ [] → same_path folder dir ≡ false → (n : List ℕ) → path ≡ dir ++ n ∷ [] → ⊥
other_folder path folder dir name is apart n e = true≢false (sym ((same_path-decides folder dir).1 (one_folder folder dir name n (sym is ∙ e))) ∙ apart)

pub not_at_top : (path dir : Names) → length path ≡ 0 → (n : List ℕ) → path ≡ dir ++ n ∷ [] → ⊥
not_at_top path dir top n e = none_below_top dir path (empty path top) (below_its_folder dir path n e)
  where
    empty : (l : Names) → length l ≡ 0 → l ≡ []
    empty [] e = refl
    empty (x ∷ l) e = absurd (omega arith)

pub in_folder : (path folder dir : Names) (name : List ℕ) (a b : BTreeSet (List ℕ)) → path ≡ folder ++ name ∷ [] → folder ≡ dir → GrowsBy by_bytes (λ n. n ≡ name) a b → GrowsBy by_bytes (λ n. path ≡ dir ++ n ∷ []) a b
in_folder path folder dir name a b is same = set_as
    (λ n e. is ∙ λ i. same i ++ sym e i ∷ [])
    (λ n e. one_name dir folder n name (sym e ∙ is))

pub not_false : (b : Bool) → not b ≡ true → b ≡ false
not_false true e = absurd (true≢false (sym e))
not_false false e = refl

pub not_true : (b : Bool) → not b ≡ false → b ≡ true
not_true true e = refl
not_true false e = absurd (true≢false e)
