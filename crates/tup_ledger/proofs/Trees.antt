-- What the sources of a tree are where other paths are owned, and where other files stand.
use Rattle.std.proofs.Common.{◌≡◌, Bool, true, false, cond, not, ◌||◌, ◌&&◌, is_some, List, [], ◌∷◌, fold, Option, None, Some, All, refl, sym, ap, ◌∙◌}
use Rattle.std.specs.FinMap as finite
use Rattle.std.specs.Ordering.{eq_by_cmp}
use Rattle.std.proofs.lemmas.List.Elements.{All-contains}
use Rattle.std.proofs.lemmas.Bool.{or_parts}
use Rattle.tup_path.specs.Name.{Names, Content}
use Rattle.tup_path.specs.Order.{by_names, same_path, same_path-by_names, by_names-total, by_names-antisymmetric}
use Rattle.tup_path.specs.Tree.{Tree}
use Rattle.tup_path.proofs.Same.{same_tree}
use Rattle.tup_rule.specs.Rule.{among}
use Rattle.tup_rule.proofs.Laws.{among-decides}
use Rattle.tup_record.specs.declared.owned.OwnedState.TheVariants.{Unsure}
use Rattle.tup_graph.specs.declared.owned.Owned.{Owned}
use Rattle.tup_graph.specs.Graph.{GraphState, is_owned}
use Rattle.tup_graph.specs.Transactions.{with_forgotten}
use Rattle.tup_ledger.specs.Owned.{maker_in, with_own, with_owned}
use Rattle.tup_ledger.specs.Sources.{sources_of, HaveNoFiles, OwnsOnly}

-- ---- what is owned
either : (a b : Bool) (one : Owned) (found : Option Owned) → (b || is_some (cond a (Some one) found)) ≡ ((a || b) || is_some found)
either true true one found = refl
either true false one found = refl
either false true one found = refl
either false false one found = refl

module _ (g : GraphState) where
  abbrev unsure : Names → Owned
  unsure path = record { maker = maker_in g path; state = Unsure }

  -- these paths are, and those that were
  pub owned_more : (paths : List Names) (owned : finite.FinMap by_names Owned) (q : Names) → is_some (finite.get (fold (with_own g) owned paths) q) ≡ (among q paths || is_some (finite.get owned q))
  owned_more [] owned q = refl
  owned_more (path ∷ paths) owned q =
      owned_more paths (with_own g owned path) q
      ∙ ap (λ (found : Option Owned). among q paths || is_some found)
      (finite.get-insert by_names-total owned path (unsure path) q ∙ ap (λ (b : Bool). cond b (Some (unsure path)) (finite.get owned q)) (sym (same_path-by_names q path)))
      ∙ either (same_path q path) (among q paths) (unsure path) (finite.get owned q)

-- a path that isn't forgotten is owned as it was
left_elsewhere : (paths : List Names) (owned : finite.FinMap by_names Owned) (q : Names) → among q paths ≡ false → finite.get (fold finite.remove owned paths) q ≡ finite.get owned q
left_elsewhere [] owned q other = refl
left_elsewhere (path ∷ paths) owned q other =
    let parts = or_parts (same_path q path) (among q paths) other in
    left_elsewhere paths (finite.remove owned path) q parts.1 ∙ finite.get-remove by_names-total owned path q
    ∙ ap (λ (b : Bool). cond b None (finite.get owned q)) (sym (same_path-by_names q path) ∙ parts.0)

-- and one that is owned still was owned
still_owned : (paths : List Names) (owned : finite.FinMap by_names Owned) (q : Names) → is_some (finite.get (fold finite.remove owned paths) q) ≡ true → is_some (finite.get owned q) ≡ true
still_owned [] owned q is = is
still_owned (path ∷ paths) owned q is =
    left_some (eq_by_cmp by_names q path) (finite.get owned q)
    (sym (ap (λ (found : Option Owned). is_some found) (finite.get-remove by_names-total owned path q)) ∙ still_owned paths (finite.remove owned path) q is)
  where
    left_some : (b : Bool) (found : Option Owned) → is_some (cond b None found) ≡ true → is_some found ≡ true
    left_some true found is = absurd (cc)
    left_some false found is = is

-- owned are just the others
pub owned_less : (paths : List Names) (owned : finite.FinMap by_names Owned) (q : Names) → is_some (finite.get (fold finite.remove owned paths) q) ≡ (not (among q paths) && is_some (finite.get owned q))
owned_less [] owned q = refl
owned_less (path ∷ paths) owned q =
    owned_less paths (finite.remove owned path) q
    ∙ ap (λ (found : Option Owned). not (among q paths) && is_some found)
    (finite.get-remove by_names-total owned path q ∙ ap (λ (b : Bool). cond b None (finite.get owned q)) (sym (same_path-by_names q path)))
    ∙ neither (same_path q path) (among q paths) (finite.get owned q)
  where
    neither : (a b : Bool) (found : Option Owned) → (not b && is_some (cond a None found)) ≡ (not (a || b) && is_some found)
    neither true true found = refl
    neither true false found = refl
    neither false true found = refl
    neither false false found = refl

-- ---- which paths are owned
pub owns_more : (g : GraphState) (paths : List Names) (may : Names → Bool) → OwnsOnly may g → All (λ path. may path ≡ true) paths → OwnsOnly may (with_owned g paths)
owns_more g paths may only all path is = by (among path paths) refl (sym (owned_more g paths g.owned path) ∙ is)
  where
    by : (b : Bool) → among path paths ≡ b → (among path paths || is_owned g path) ≡ true → may path ≡ true
    by true e either = All-contains (λ path. may path ≡ true) paths path all ((among-decides path paths).0 e)
    by false e either = only path (sym (ap (λ (b : Bool). b || is_owned g path) e) ∙ either)

pub owns_less : (g : GraphState) (paths : List Names) (may : Names → Bool) → OwnsOnly may g → OwnsOnly may (with_forgotten g paths)
owns_less g paths may only path is = only path (still_owned paths g.owned path is)

-- ---- what is a source
pub get_source : (g : GraphState) (tree : Tree) (q : Names) → finite.get (sources_of g tree) q ≡ cond (not (is_owned g q)) (finite.get tree q) None
get_source g tree q =
    finite.get-retain_keys tree (λ p. not (is_owned g p)) q (λ other tied. ap (λ (p : Names). not (is_owned g p)) (sym (by_names-antisymmetric q other tied)))

alike : (g h : GraphState) (t u : Tree) → ((q : Names) → cond (not (is_owned g q)) (finite.get t q) None ≡ cond (not (is_owned h q)) (finite.get u q) None) → sources_of g t ≡ sources_of h u
alike g h t u each = same_tree (sources_of g t) (sources_of h u) (λ q. get_source g t q ∙ each q ∙ sym (get_source h u q))

none_at : (tree : Tree) (paths : List Names) (q : Names) → HaveNoFiles tree paths → among q paths ≡ true → finite.get tree q ≡ None
none_at tree paths q none is = All-contains (λ path. finite.get tree path ≡ None) paths q none ((among-decides q paths).0 is)

nothing : (b : Bool) → ◌≡◌ {A = Option Content} (cond (not b) None None) None
nothing true = refl
nothing false = refl

-- paths at which no source stands are owned as well
pub own_more : (g : GraphState) (tree kept : Tree) (paths : List Names) → sources_of g tree ≡ kept → HaveNoFiles kept paths → sources_of (with_owned g paths) tree ≡ kept
own_more g tree kept paths is none = alike (with_owned g paths) g tree tree (λ q. by q (among q paths) refl) ∙ is
  where
    by : (q : Names) (b : Bool) → among q paths ≡ b → cond (not (is_owned (with_owned g paths) q)) (finite.get tree q) None ≡ cond (not (is_owned g q)) (finite.get tree q) None
    by q true e =
        ap (λ (owned : Bool). cond (not owned) (finite.get tree q) None) (owned_more g paths g.owned q ∙ ap (λ (b : Bool). b || is_owned g q) e)
        ∙ sym (sym (get_source g tree q) ∙ ap (λ (k : Tree). finite.get k q) is ∙ none_at kept paths q none e)
    by q false e =
        ap (λ (owned : Bool). cond (not owned) (finite.get tree q) None) (owned_more g paths g.owned q ∙ ap (λ (b : Bool). b || is_owned g q) e)

-- paths at which no file stands are given up
pub own_less : (g : GraphState) (tree : Tree) (paths : List Names) → HaveNoFiles tree paths → sources_of (with_forgotten g paths) tree ≡ sources_of g tree
own_less g tree paths none = alike (with_forgotten g paths) g tree tree (λ q. by q (among q paths) refl)
  where
    by : (q : Names) (b : Bool) → among q paths ≡ b → cond (not (is_owned (with_forgotten g paths) q)) (finite.get tree q) None ≡ cond (not (is_owned g q)) (finite.get tree q) None
    by q true e =
        ap (λ (found : Option Content). cond (not (is_owned (with_forgotten g paths) q)) found None) (none_at tree paths q none e) ∙ nothing (is_owned (with_forgotten g paths) q)
        ∙ sym (ap (λ (found : Option Content). cond (not (is_owned g q)) found None) (none_at tree paths q none e) ∙ nothing (is_owned g q))
    by q false e = ap (λ (found : Option Owned). cond (not (is_some found)) (finite.get tree q) None) (left_elsewhere paths g.owned q e)

-- other files stand at owned paths
pub own_same : (g : GraphState) (t u : Tree) → ((path : Names) → is_owned g path ≡ false → finite.get u path ≡ finite.get t path) → sources_of g u ≡ sources_of g t
own_same g t u others = alike g g u t (λ q. by q (is_owned g q) refl)
  where
    by : (q : Names) (b : Bool) → is_owned g q ≡ b → cond (not (is_owned g q)) (finite.get u q) None ≡ cond (not (is_owned g q)) (finite.get t q) None
    by q true e = ap (λ (b : Bool). cond (not b) (finite.get u q) None) e ∙ sym (ap (λ (b : Bool). cond (not b) (finite.get t q) None) e)
    by q false e = ap (λ (found : Option Content). cond (not (is_owned g q)) found None) (others q e)
