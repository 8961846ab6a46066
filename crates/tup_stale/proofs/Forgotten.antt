-- What doomed paths that are forgotten leave of a graph.
use Rattle.std.proofs.Common.{◌≡◌, Bool, true, false, cond, ◌||◌, List, [], ◌∷◌, fold, None, Some, is_none, refl, sym, ap, ◌∙◌}
use Rattle.std.specs.FinMap as finite
use Rattle.std.specs.Ordering.{eq_by_cmp}
use Rattle.tup_path.specs.Name.{Names}
use Rattle.tup_path.specs.Order.{by_names, same_path, same_path-by_names, by_names-total, by_names-antisymmetric}
use Rattle.tup_rule.specs.Rule.{among}
use Rattle.tup_graph.specs.declared.owned.Owned.{Owned}
use Rattle.tup_graph.specs.Graph.{GraphState}
use Rattle.tup_graph.specs.Transactions.{with_doomed, with_forgotten}
use Rattle.tup_graph.proofs.Keeping.{get_removed, others_stay}
use Rattle.tup_stale.specs.Cleared.{AllAreMade}
use Rattle.tup_stale.specs.Unmade.{lacks_maker, unmade}
use Rattle.tup_stale.proofs.Looked.{unmade_of}

or_true : (a b : Bool) → b ≡ true → (a || b) ≡ true
or_true true b is = refl
or_true false b is = is

-- ---- beside doomed paths nothing is doomed
module _ (g : GraphState) where
  owned_alike : (paths : List Names) → fold finite.remove (with_doomed g paths).owned paths ≡ fold finite.remove g.owned paths
  owned_alike paths = finite.same_map by_names-total by_names-antisymmetric _ _ (λ q.
      get_removed paths (with_doomed g paths).owned q ∙ by q (among q paths) refl ∙ sym (get_removed paths g.owned q))
    where
      by : (q : Names) (b : Bool) → among q paths ≡ b → cond (among q paths) None (finite.get (with_doomed g paths).owned q) ≡ cond (among q paths) None (finite.get g.owned q)
      by q true is = ap (λ (b : Bool). cond b None (finite.get (with_doomed g paths).owned q)) is ∙ sym (ap (λ (b : Bool). cond b None (finite.get g.owned q)) is)
      by q false is = ap (cond (among q paths) None) (others_stay g paths g.owned q is)

  -- to forget paths is the same where they were doomed before
  pub doomed_then_forgotten : (paths : List Names) → with_forgotten (with_doomed g paths) paths ≡ with_forgotten g paths
  doomed_then_forgotten paths = ap (λ (m : finite.FinMap by_names Owned). record (with_forgotten g paths) { owned = m }) (owned_alike paths)

-- ---- no path is without a maker then
module _ (path : Names) (owned : Owned) (none : owned.maker ≡ None) where
  found_unmade : (entries : List (Names × Owned)) → finite.find by_names path entries ≡ Some owned → among path (unmade_of entries) ≡ true
  found_unmade [] is = absurd (cc)
  found_unmade (entry ∷ entries) is = by (eq_by_cmp by_names path entry.0) refl is (found_unmade entries)
    where
      rest : List Names
      rest = unmade_of entries

      listed : (b : Bool) → lacks_maker entry ≡ b → among path (unmade_of (entry ∷ entries)) ≡ among path (cond b (entry.0 ∷ rest) rest)
      listed true e = rw e refl
      listed false e = rw e refl

      later : (b : Bool) → lacks_maker entry ≡ b → among path rest ≡ true → among path (unmade_of (entry ∷ entries)) ≡ true
      later true e there = listed true e ∙ or_true (same_path path entry.0) (among path rest) there
      later false e there = listed false e ∙ there

      by : (b : Bool) → eq_by_cmp by_names path entry.0 ≡ b → cond b (Some entry.1) (finite.find by_names path entries) ≡ Some owned
          → (finite.find by_names path entries ≡ Some owned → among path rest ≡ true) → among path (unmade_of (entry ∷ entries)) ≡ true
      by true here this behind =
          let same : entry.1 ≡ owned = cc in
          let lacks : lacks_maker entry ≡ true = ap (λ (o : Owned). is_none o.maker) same ∙ ap is_none none in
          listed true lacks ∙ ap (λ (b : Bool). b || among path rest) (same_path-by_names path entry.0 ∙ here)
      by false here there behind = later (lacks_maker entry) refl (behind there)

pub all_are_made : (g : GraphState) → AllAreMade (with_forgotten g (unmade g))
all_are_made g path owned is none = by (among path (unmade g)) refl
  where
    left : cond (among path (unmade g)) None (finite.get g.owned path) ≡ Some owned
    left = sym (get_removed (unmade g) g.owned path) ∙ is

    by : (b : Bool) → among path (unmade g) ≡ b → ⊥
    by true e = (let wrong : None ≡ Some owned = sym (ap (λ (b : Bool). cond b None (finite.get g.owned path)) e) ∙ left in cc)
    by false e =
        let there : finite.get g.owned path ≡ Some owned = sym (ap (λ (b : Bool). cond b None (finite.get g.owned path)) e) ∙ left in
        let inside : among path (unmade g) ≡ true = found_unmade path owned none (finite.entries g.owned) (sym (finite.get-entries g.owned path) ∙ there) in
        (let wrong : true ≡ false = sym inside ∙ e in cc)
